-- The state before the first step.
use mathlib.Core.Path.{◌≡◌, refl, sym}
use mathlib.Core.List.{[], List}
use Prim.Native.Nat.{ℕ, ◌+◌, ◌*◌, ◌≤◌}
use native.Mathlib.Omega.{arith}
use Rattle.lists.specs.Ranges.{listed}
use Rattle.terms.specs.code.Held.{Spread}
use Rattle.terms.specs.Job.{job_of}
use Rattle.terms.proofs.RowSteps.{length_terms}
use Rattle.history.specs.History.{is_open}
use Rattle.history.specs.Drops.{counted_after}
use Rattle.history.specs.Run.{run_weight}
use Rattle.merging.specs.declared.run.Run.{Run}
use Rattle.merging.specs.code.Recorded.{recorded}
use Rattle.merging.specs.code.State.{Whole, HoldsIn}
use Rattle.merging.proofs.Tables.{tied_start}

pub fresh_holds : (entities steps : ℕ) (run : Run) (numbers rows : List ℕ) → 2 * run.modes + 1 ≤ entities → Whole entities steps run
    → run.step ≡ 0 → run.weight ≡ 0 → 1 ≤ run.modes → run.modes ≤ steps → run.count ≤ 2048 → Spread run.count numbers rows
    → run.tables.opens ≡ listed (is_open run.modes []) 0 entities
    → run.tables.ends ≡ listed (λ entity. entity) 0 entities
    → run.tables.holders ≡ listed (λ entity. entity) 0 entities
    → HoldsIn entities steps (job_of run.modes run.rule run.count numbers) rows run
unfolding recorded counted_after run_weight
fresh_holds entities steps run numbers rows room whole none light some few low spread opens ends holders =
    let count = length_terms 8 run.count numbers in
    record {
      whole = whole;
      modes_are = refl;
      rule_is = refl;
      count_is = sym count;
      some = some;
      few = few;
      light = rw count low;
      inside = omega arith;
      lawful = rw none tt;
      tied = rw (none, opens, ends, holders) (tied_start entities run.modes room);
      held = spread.held;
      rows_are = rw none spread.rows_are;
      weight_is = rw (none, light) refl;
      bounded = omega arith;
      weights_are = λ step h. absurd (omega arith);
      drops_are = λ step h. absurd (omega arith);
    }
