-- Assigning called from C answers what the assignment comes to: nothing is written where it refuses, and all that is known where it is done.
use Rattle.std.specs.Prelude.{Err, Ok, Result}
use mathlib.Core.Path.{◌≡◌, refl, ap, ◌∙◌, sym}
use mathlib.Core.List.{List}
use Prim.Native.Nat.{ℕ, ◌+◌, ◌*◌, ◌≤◌}
use native.Mathlib.Omega.{arith}
use borrow.Author.Tests.{leb-true}
use lib.Dec.{leb}
use lib.ListN.{length, take}
use lib.Seq.{length-take-le}
use Rattle.lists.specs.Written.{written_at}
use Rattle.lists.proofs.Tests.{both}
use Rattle.lists.proofs.Written.{part_written}
use Rattle.refusal.specs.declared.Refusal.{Refusal}
use Rattle.refusal.specs.Numbers.{number_of, place_of}
use Rattle.tree.proofs.AcceptedParts.{accepted_parts}
use Rattle.topphatt.specs.Answer.{Outcome, done, refused, Asked, asked, Rooms, outcome}
use Rattle.topphatt.specs.Promises.{returned, Lent, lent, rooms_of, lent_then}
use Rattle.topphatt.proofs.AssignDone.{assign_done}
use Rattle.topphatt.proofs.OutcomeRight.{outcome_right}
use Rattle.call_bytes.specs.Bytes.{two_bytes, eight_bytes}
use Rattle.call_bytes.specs.code.Handing.{room_of, term_numbers}
use Rattle.call_bytes.specs.code.Reading.{TermsRead}
use Rattle.call_bytes.proofs.RoomFits.{room_fits}
use Rattle.assign_call.specs.Calls.{LentTable, lent_table}
use Rattle.assign_call.specs.code.Handing.{table_rooms_in, assign_handed}
use Rattle.assign_call.specs.code.Reading.{TreeRead}
use Rattle.assign_call.specs.Promises.{AssignCalled, assign_result_of, table_then}
use Rattle.assign_call.proofs.AssignedAlike.{assigned_same}

-- What the answer says of the meaning.
pub unassigned_meant : (meant : Outcome) (why : Refusal) (r : Result ℕ Refusal) → r ≡ returned meant → r ≡ Err why → meant ≡ refused why
unfolding returned
unassigned_meant (done count weight codes) why r e f = let z : ◌≡◌ {A = ℕ} 0 1 = cc in absurd (omega arith)
unassigned_meant (refused refusal) why r e f = cc

-- An assignment that was done.
pub record Finished (meant : Outcome) (weight : ℕ) : Type 0 where
  pub count : ℕ
  pub codes : List ℕ
  pub is : meant ≡ done count weight codes

pub assigned_meant : (meant : Outcome) (weight : ℕ) (r : Result ℕ Refusal) → r ≡ returned meant → r ≡ Ok weight → Finished meant weight
unfolding returned
assigned_meant (done count other codes) weight r e f =
    let same : other ≡ weight = cc in
    record { count = count; codes = codes; is = ap (λ w. done count w codes) same }
assigned_meant (refused refusal) weight r e f = let z : ◌≡◌ {A = ℕ} 0 1 = cc in absurd (omega arith)

-- What is known of the table of an assignment that is done: three codes a mode, and there was room for them.
pub record TableFits (modes room : ℕ) (codes : List ℕ) : Type 0 where
  pub some_modes : 1 ≤ modes
  pub has_room : 3 * modes ≤ room
  pub exact : length codes ≡ 3 * modes

pub table_fits : (rooms : Rooms) (call : Asked) (count weight : ℕ) (codes : List ℕ)
    → outcome rooms call ≡ done count weight codes → TableFits call.modes rooms.table codes
table_fits rooms call count weight codes says =
    let known = assign_done rooms call count weight codes says in
    let right = outcome_right rooms call count weight codes says in
    let parts = accepted_parts rooms.modes call.modes codes right.accepted in
    record {
      some_modes = parts.some;
      has_room = leb-true (3 * call.modes) rooms.table (both (leb (9 * count) rooms.work) (leb (3 * call.modes) rooms.table) known.rooms_are).1;
      exact = parts.whole;
    }

module _ (meant : Outcome) (given : LentTable) where
  pub assign_refused : (why : Refusal) (r : ℕ) → meant ≡ refused why → r ≡ number_of why * 65536 + place_of why
      → AssignCalled (λ l. meant) given given r
  unfolding assign_result_of table_then
  assign_refused why r e f = record { result = rw e f; leaves = rw e }

  pub assign_written : (modes weight : ℕ) (before after : Lent) (now_table now_answer : List ℕ) (finish : Finished meant weight)
      → TableFits modes (length before.table) finish.codes → after ≡ lent_then meant before
      → now_table ≡ written_at 0 (two_bytes (take (3 * modes) after.table)) given.table
      → now_answer ≡ written_at 0 (eight_bytes weight) given.answer
      → AssignCalled (λ l. meant) given (lent_table now_table now_answer) 0
  unfolding assign_result_of table_then lent_then
  assign_written modes weight before after now_table now_answer finish fit own_is table_is answer_is =
      let codes = finish.codes in
      let e = finish.is in
      let written : after.table ≡ written_at 0 codes before.table = ap (λ l. l.table) (rw e at own_is) in
      let front : take (3 * modes) after.table ≡ codes =
      ap (take (3 * modes)) written ∙ ap (λ n. take n (written_at 0 codes before.table)) (sym fit.exact)
      ∙ part_written 0 codes before.table (omega (arith, fit.exact, fit.has_room)) in
      record {
        result = rw e;
        leaves = rw e (λ i. record { table = (table_is ∙ ap (λ l. written_at 0 (two_bytes l) given.table) front) i; answer = answer_is i });
      }

pub assign_so : (meant same : LentTable → Outcome) (before after : LentTable) (r : ℕ) → meant before ≡ same before
    → AssignCalled same before after r → AssignCalled meant before after r
assign_so meant same before after r e called = record { result = rw e called.result; leaves = rw e called.leaves }

-- The parts that the call lends to assigning mean what it was given.
pub assign_lent_means : (modes : ℕ) (tree codes : List ℕ) (nodes heuristic : ℕ) (terms numbers work own : List ℕ) (count room : ℕ) (given : LentTable)
    → TreeRead 256 modes tree codes nodes → TermsRead terms numbers count
    → room ≡ room_of 1 (length own) (length given.table) (length given.answer)
    → assign_handed (rooms_of 256 (lent work own)) modes tree heuristic terms given
    ≡ outcome (rooms_of 256 (lent work (take room own))) (asked modes 0 (take nodes codes) heuristic (take count numbers))
unfolding assign_handed table_rooms_in
assign_lent_means modes tree codes nodes heuristic terms numbers work own count room given tree_read terms_read e =
    let table = length given.table in
    let answer = length given.answer in
    let fits = room_fits 1 (length own) table answer in
    let l : length (take room own) ≡ room_of 1 (length own) table answer = length-take-le room own (omega (arith, e, fits.in_own)) ∙ e in
    let rooms : Rooms = record { modes = 256; work = length work; table = room_of 1 (length own) table answer } in
    sym (tree_read.same rooms refl heuristic (term_numbers terms))
    ∙ sym (assigned_same (take count numbers) (term_numbers terms) terms_read.stands rooms modes (take nodes codes) heuristic)
    ∙ ap (λ n. outcome (record { modes = 256; work = length work; table = n }) (asked modes 0 (take nodes codes) heuristic (take count numbers))) (sym l)
