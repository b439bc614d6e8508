-- Each return is one case of the answer.
use Rattle.std.specs.Prelude.{Err, Ok, Result}
use mathlib.Core.Path.{◌≡◌, ap, ◌∙◌}
use mathlib.Core.List.{List}
use Prim.Native.Nat.{ℕ, ◌*◌, ◌<◌, ◌≤◌}
use borrow.Author.Tests.{le-leb, lt-leb}
use lib.ListN.{length, drop, replicate, length-replicate}
use Rattle.lists.specs.Written.{written_at}
use Rattle.lists.proofs.Written.{written_front}
use Rattle.refusal.specs.declared.Refusal.{Refusal}
use Rattle.refusal.specs.declared.Refusal.TheVariants.{Room}
use Rattle.terms.proofs.RowSteps.{length_terms}
use Rattle.topphatt.specs.Rounds.{Task}
use Rattle.topphatt.specs.computed.Rounding.{ended}
use Rattle.topphatt.specs.Answer.{Outcome, refused, answer_table, Asked, task_of, Rooms, done_by, with_room}
use Rattle.topphatt.specs.Promises.{numbers_of, returned, Lent, lent, lent_then, Assigns}

-- Whatever is lent, a room that is too small refuses, and else the answer is that of the rounds.
module _ (rooms : Rooms) (call : Asked) (count : ℕ) where
  pub room_work : rooms.work < 9 * count → with_room rooms (task_of call count) ≡ refused Room
  unfolding with_room
  room_work h = rw (length_terms 8 count call.numbers, lt-leb (9 * count) rooms.work h)

  pub room_table : 9 * count ≤ rooms.work → rooms.table < 3 * call.modes → with_room rooms (task_of call count) ≡ refused Room
  unfolding with_room
  room_table h k =
      rw (length_terms 8 count call.numbers, le-leb (9 * count) rooms.work h, lt-leb (3 * call.modes) rooms.table k)

  pub room_done : 9 * count ≤ rooms.work → 3 * call.modes ≤ rooms.table → with_room rooms (task_of call count) ≡ done_by (task_of call count)
  unfolding with_room
  room_done h k =
      rw (length_terms 8 count call.numbers, le-leb (9 * count) rooms.work h, le-leb (3 * call.modes) rooms.table k)

module _ (meant : Lent → Outcome) (before : Lent) where
  assigns : (after : Lent) (r : Result ℕ Refusal) → r ≡ returned (meant before) → after ≡ lent_then (meant before) before → Assigns meant before after r
  assigns after r e l = record { answer = e; numbers = ap numbers_of e; leaves = l }

  -- A refusal leaves what is lent as it is.
  pub refused_so : (refusal : Refusal) → meant before ≡ refused refusal → Assigns meant before before (Err refusal)
  unfolding returned lent_then
  refused_so refusal e = assigns before (Err refusal) (rw e) (rw e)

  -- What is promised of one meaning is promised of any that says the same here.
  pub assigns_so : (other : Lent → Outcome) (after : Lent) (r : Result ℕ Refusal) → meant before ≡ other before
      → Assigns meant before after r → Assigns other before after r
  assigns_so other after r e a = record {
    answer = a.answer ∙ ap returned e;
    numbers = a.numbers ∙ ap (λ outcome. numbers_of (returned outcome)) e;
    leaves = a.leaves ∙ ap (λ outcome. lent_then outcome before) e;
  }

-- The rounds were made in the front of work, which is zeros then, and the table was written.
pub done_so : (task : Task) (count : ℕ) (work worked table now_work now_table : List ℕ) (r : ℕ) → length task.job.terms ≡ count
    → r ≡ (ended task).weight → drop (9 * count) worked ≡ drop (9 * count) work → now_work ≡ written_at 0 (replicate (9 * count) 0) worked
    → now_table ≡ written_at 0 (answer_table task.job.modes (ended task).assigned task.table) table
    → Assigns (λ given. done_by task) (lent work table) (lent now_work now_table) (Ok r)
unfolding done_by returned lent_then
done_so task count work worked table now_work now_table r counted weighed rest cleared written =
    let zeros : List ℕ = replicate (9 * count) 0 in
    let front : drop (length zeros) worked ≡ drop (length zeros) work = rw (length-replicate {A = ℕ} (9 * count) 0) rest in
    assigns (λ given. done_by task) (lent work table) (lent now_work now_table) (Ok r) (ap Ok weighed)
    (rw counted (λ i. record { work = (cleared ∙ written_front zeros worked work front) i; table = written i }))
