-- What the calls that make a run hand on comes to what is said of them outright.
use Rattle.std.specs.Prelude.{Err, Ok, Result}
use Rattle.refusal.specs.declared.Refusal.{Refusal}
use mathlib.Core.Path.{◌≡◌, refl}
use mathlib.Core.Bool.{Bool, true, false, ◌&&◌}
use mathlib.Core.List.{List, [], ◌∷◌}
use Prim.Native.Nat.{ℕ, ◌+◌, ◌*◌, ◌%◌, ◌≤◌}
use native.Mathlib.Omega.{arith}
use borrow.Author.Tests.{le-leb}
use lib.Dec.{eqb, leb}
use lib.ListN.{length}
use Rattle.entities.specs.Limits.{most_terms, work_width}
use Rattle.terms.specs.declared.rules.Rule.TheVariants.{Published}
use Rattle.terms.specs.Rules.{rule_good, rule_of}
use Rattle.terms.specs.Good.{modes_good, checked}
use Rattle.terms.proofs.GoodTerms.{accepted}
use Rattle.journal.specs.Resuming.{Rooms, roomy as rooms_suffice, with_terms as with_rooms, resumed}
use Rattle.call_bytes.specs.Bytes.{words}
use Rattle.call_bytes.specs.code.Handing.{term_numbers}
use Rattle.terms.proofs.GoodModes.{good_modes}
use Rattle.call_bytes.proofs.RoomFits.{room_in}
use Rattle.call_bytes.proofs.TermsSame.{not_eights}
use Rattle.daemon.specs.Calls.{Lent, roomy, with_terms, resume_called}
use Rattle.daemon.specs.code.Handing.{Own, rooms_in, resume_handed}

module _ (own : Own) (enough : work_width * most_terms ≤ own.work) (rows_enough : 4 * own.modes ≤ own.rows)
    (drops_enough : own.modes ≤ own.drops) (modes : ℕ) (terms read : List ℕ) (given : Lent) where
  abbrev rooms : Rooms
  rooms = rooms_in own given

  -- 5 is given to the same calls.
  same_room : (count : ℕ) → count ≤ most_terms → 1 ≤ modes → modes ≤ own.modes → rooms_suffice rooms modes count ≡ roomy modes given
  unfolding rooms_suffice roomy rooms_in
  same_room count few some fits =
      let bytes = length given.rows in
      let answer = length given.answer in
      rw (le-leb (9 * count) own.work (omega (arith, few, enough)), le-leb modes own.drops (omega (arith, fits, drops_enough)), room_in 4 own.rows bytes answer (4 * modes) (8 * modes) (omega (arith, some)) (omega (arith, fits, rows_enough)) (omega arith))
      (go (leb (8 * modes) bytes) (leb 32 answer) (leb (16 + 21 * modes) (length given.journal)))
    where
      go : (a b c : Bool) → ((a && b) && (c && true)) ≡ (a && (c && b))
      go true true true = refl
      go true true false = refl
      go true false true = refl
      go true false false = refl
      go false b c = refl

  module _ (good : modes_good own.modes modes ≡ true) where
    terms_outright : (found : Result ℕ Refusal) → checked modes (words terms) ≡ found
        → with_terms modes (words terms) read given found ≡ with_rooms rooms modes Published (words terms) read found
    unfolding with_terms with_rooms
    terms_outright (Ok count) e =
        let between = good_modes own.modes modes good in
        rw (same_room count (accepted modes (words terms) count e).at_most between.0 between.1)
    terms_outright (Err refusal) e = refl

  pub resume_outright : resume_called own.modes modes terms read given ≡ resume_handed own modes terms read given
  unfolding resume_called resume_handed resumed rule_good rule_of term_numbers rooms_in with_rooms
  resume_outright = go (modes_good own.modes modes) refl (eqb (length terms % 16) 0) refl
    where
      go : (m : Bool) → modes_good own.modes modes ≡ m → (t : Bool) → eqb (length terms % 16) 0 ≡ t
          → resume_called own.modes modes terms read given ≡ resume_handed own modes terms read given
      go false e t f = rw e
      go true e false f = rw (e, f, not_eights modes (0 ∷ []) refl)
      go true e true f = rw (e, f) (terms_outright e (checked modes (words terms)) refl)
