-- What assigning from C hands on comes to what is said of it outright.
use Rattle.std.specs.Prelude.{Err, Ok, Result}
use mathlib.Core.Path.{◌≡◌, refl}
use mathlib.Core.Bool.{Bool, true, false, cond, not}
use mathlib.Core.List.{List, [], ◌∷◌}
use Prim.Native.Nat.{ℕ, ◌*◌, ◌%◌, ◌≤◌}
use native.Mathlib.Omega.{arith}
use borrow.Author.Tests.{ne_eqb, le-leb}
use lib.Dec.{eqb, leb}
use lib.ListN.{length}
use Rattle.refusal.specs.declared.Refusal.{Refusal}
use Rattle.refusal.specs.declared.Refusal.TheVariants.{TermNumbers, TreeLength, Heuristic}
use Rattle.entities.specs.Limits.{most_terms, row_width, work_width}
use Rattle.terms.specs.Rules.{rule_good}
use Rattle.terms.specs.Good.{modes_good, checked}
use Rattle.terms.proofs.RowSteps.{length_terms}
use Rattle.terms.proofs.GoodTerms.{accepted}
use Rattle.tree.specs.Check.{tree_checked}
use Rattle.topphatt.specs.Answer.{refused, Asked, asked, Rooms, with_room, with_terms as given_terms, with_tree, outcome}
use Rattle.call_bytes.specs.Bytes.{words}
use Rattle.call_bytes.specs.code.Handing.{term_numbers}
use Rattle.terms.proofs.GoodModes.{good_modes}
use Rattle.call_bytes.proofs.RoomFits.{room_in}
use Rattle.call_bytes.proofs.TermsSame.{not_eights}
use Rattle.assign_call.specs.Calls.{LentTable, assign_terms, assign_tree, assign_called}
use Rattle.assign_call.specs.code.Handing.{tree_numbers, table_rooms_in, assign_handed}

-- Refusals that are passed on.
given_refused : (rooms : Rooms) (call : Asked) → refused TermNumbers ≡ given_terms rooms call (Err TermNumbers)
unfolding given_terms
given_refused rooms call = refl

tree_refused : (rooms : Rooms) (call : Asked) (refusal : Refusal) → refused refusal ≡ with_tree rooms call (Err refusal)
unfolding with_tree
tree_refused rooms call refusal = refl

-- The check's first two refusals.
length_next : (most modes : ℕ) → modes_good most modes ≡ true → tree_checked most modes [] ≡ Err TreeLength
unfolding tree_checked
length_next most modes e =
    rw (e, ne_eqb 0 (3 * modes) (λ f. absurd (omega (arith, f, (good_modes most modes e).0))))

module _ (own : Rooms) (enough : work_width * most_terms ≤ own.work) (table_enough : 3 * own.modes ≤ own.table)
    (modes : ℕ) (tree : List ℕ) (heuristic : ℕ) (terms : List ℕ) (given : LentTable) where
  abbrev table_rooms : Rooms
  table_rooms = table_rooms_in own given

  -- What is asked for, where the bytes of the tree and of the terms are numbers.
  abbrev call : Asked
  call = asked modes 0 (words tree) heuristic (words terms)

  module _ (some : 1 ≤ modes) (few : modes ≤ own.modes) where
    assigned_outright : (found : Result ℕ Refusal) → checked modes (words terms) ≡ found
        → assign_terms call given found ≡ given_terms table_rooms call found
    unfolding assign_terms given_terms with_room table_rooms_in
    assigned_outright (Ok count) e =
        rw (
          length_terms row_width count (words terms),
          le-leb (9 * count) own.work (omega (arith, (accepted modes (words terms) count e).at_most, enough)),
          room_in 1 own.table (length given.table) (length given.answer) (3 * modes) (6 * modes) (omega (arith, some)) (omega (arith, few, table_enough)) (omega arith),
        )
    assigned_outright (Err refusal) e = refl

    tree_outright : (found : Result (Unit {0}) Refusal)
        → assign_tree call terms given found ≡ with_tree table_rooms (asked modes 0 (words tree) heuristic (term_numbers terms)) found
    unfolding assign_tree with_tree term_numbers
    tree_outright (Ok tt) = go (leb heuristic 2) (eqb (length terms % 16) 0) refl
      where
        go : (h t : Bool) → eqb (length terms % 16) 0 ≡ t
            → cond (not h) (refused Heuristic) (cond (not t) (refused TermNumbers) (assign_terms call given (checked modes (words terms))))
            ≡ cond (not h) (refused Heuristic)
            (given_terms table_rooms (asked modes 0 (words tree) heuristic (cond t (words terms) (0 ∷ []))) (checked modes (cond t (words terms) (0 ∷ []))))
        go false t e = refl
        go true false e = rw (not_eights modes (0 ∷ []) refl) (given_refused table_rooms (asked modes 0 (words tree) heuristic (0 ∷ [])))
        go true true e = assigned_outright (checked modes (words terms)) refl
    tree_outright (Err refusal) = refl

  pub assign_outright : assign_called own.modes modes tree heuristic terms given ≡ assign_handed own modes tree heuristic terms given
  unfolding assign_called assign_handed outcome rule_good tree_numbers table_rooms_in
  assign_outright = go (modes_good own.modes modes) refl (eqb (length tree) (6 * modes)) refl
    where
      go : (m : Bool) → modes_good own.modes modes ≡ m → (l : Bool) → eqb (length tree) (6 * modes) ≡ l
          → assign_called own.modes modes tree heuristic terms given ≡ assign_handed own modes tree heuristic terms given
      go false e l f = rw e
      go true e false f = rw (e, f, length_next own.modes modes e) (tree_refused table_rooms _ TreeLength)
      go true e true f =
          let between = good_modes own.modes modes e in
          rw (e, f) (tree_outright between.0 between.1 (tree_checked own.modes modes (words tree)))
