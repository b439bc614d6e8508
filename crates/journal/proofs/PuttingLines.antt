-- Lines put one behind the other: what stands in the buffer after some of them, and the room for the next.
use mathlib.Core.Path.{◌≡◌, ap, ◌∙◌}
use mathlib.Core.List.{List, [], ◌++◌}
use Prim.Native.Nat.{ℕ, zero, suc, ◌+◌, ◌-◌, ◌<◌, ◌≤◌}
use native.Mathlib.Nat.{add-zero}
use native.Mathlib.Omega.{arith}
use lib.ListN.{length, length-append}
use Rattle.lists.specs.Written.{written_at}
use Rattle.lists.proofs.Written.{length_written}
use Rattle.lists.proofs.Behind.{Wrote, wrote_none, then_wrote}
use Rattle.entities.specs.declared.Triple.{Triple}
use Rattle.terms.specs.Job.{Job}
use Rattle.journal.specs.code.NewLines.{noted_line, noted_text}
use Rattle.journal.proofs.NotedLines.{noted_none, noted_more}

-- Some lines are no longer than those and more.
longer : (job : Job) (history : List Triple) (from j more : ℕ) → length (noted_text job history from j) ≤ length (noted_text job history from (j + more))
longer job history from j zero = rw (add-zero j) (omega arith)
longer job history from j (suc more) =
    let e : j + suc more ≡ j + more + 1 = omega arith in
    rw e
    (rw (noted_more job history from (j + more))
    (omega (arith, length-append (noted_text job history from (j + more)) (noted_line job history (from + (j + more))), longer job history from j more)))

-- The lines of the steps before this one have been put.
pub record Putting (job : Job) (history : List Triple) (from start : ℕ) (before after : List ℕ) (at step : ℕ) : Type 0 where
  pub begun : from ≤ step
  pub inside : step ≤ length history
  pub wrote : Wrote start (noted_text job history from (step - from)) before after at

module _ (job : Job) (history : List Triple) (from start : ℕ) (before : List ℕ) (room : start + length (noted_text job history from (length history - from)) ≤ length before) where
  pub putting_starts : from ≤ length history → Putting job history from start before before start from
  putting_starts h =
      let none_yet : noted_text job history from (from - from) ≡ [] = ap (noted_text job history from) (omega arith) ∙ noted_none job history from in
      record {
        begun = omega arith;
        inside = h;
        wrote = rw none_yet (wrote_none start before);
      }

  module _ (after : List ℕ) (at step : ℕ) (so_far : Putting job history from start before after at step) where
    fits : start + length (noted_text job history from (step - from)) ≤ length before
    fits =
        let e : step - from + (length history - step) ≡ length history - from = omega (arith, so_far.begun, so_far.inside) in
        omega (arith, room, ap (λ n. length (noted_text job history from n)) e, longer job history from (step - from) (length history - step))

    pub putting_length : length after ≡ length before
    putting_length = rw so_far.wrote.written (length_written start (noted_text job history from (step - from)) before fits)

    -- One line more.
    grown : noted_text job history from (suc step - from) ≡ noted_text job history from (step - from) ++ noted_line job history step
    grown =
        let e : suc step - from ≡ step - from + 1 = omega (arith, so_far.begun) in
        let here : from + (step - from) ≡ step = omega (arith, so_far.begun) in
        ap (noted_text job history from) e ∙ noted_more job history from (step - from) ∙ ap (λ n. noted_text job history from (step - from) ++ noted_line job history n) here

    grown_length : length (noted_text job history from (suc step - from)) ≡ length (noted_text job history from (step - from)) + length (noted_line job history step)
    grown_length = ap length grown ∙ length-append (noted_text job history from (step - from)) (noted_line job history step)

    pub next_fits : step < length history → at + length (noted_line job history step) ≤ length after
    next_fits h =
        let e : suc step - from + (length history - suc step) ≡ length history - from = omega (arith, so_far.begun) in
        omega (
          arith,
          room,
          putting_length,
          so_far.wrote.behind,
          grown_length,
          ap (λ n. length (noted_text job history from n)) e,
          longer job history from (suc step - from) (length history - suc step),
        )

    pub putting_on : step < length history → (now_after : List ℕ) (now_at : ℕ) → now_at ≡ at + length (noted_line job history step)
        → now_after ≡ written_at at (noted_line job history step) after → Putting job history from start before now_after now_at (step + 1)
    putting_on h now_after now_at placed put =
        let e : step + 1 ≡ suc step = omega arith in
        rw e
        (record {
          begun = omega (arith, so_far.begun);
          inside = h;
          wrote = rw grown (then_wrote so_far.wrote (record { behind = placed; written = put }) (omega (arith, fits, so_far.wrote.behind)));
        })

    pub putting_ends : length history ≤ step
        → (at ≡ start + length (noted_text job history from (length history - from))) × (after ≡ written_at start (noted_text job history from (length history - from)) before)
    putting_ends h =
        let all : step - from ≡ length history - from = omega (arith, so_far.inside) in (
          so_far.wrote.behind ∙ ap (λ n. start + length (noted_text job history from n)) all,
          so_far.wrote.written ∙ ap (λ n. written_at start (noted_text job history from n) before) all,
        )
