-- What the choice finds is ready to be merged, whatever the job.
use mathlib.Core.Path.{◌≡◌, ap, ◌∙◌}
use mathlib.Core.List.{List}
use Prim.Native.Nat.{ℕ, ◌<◌}
use native.Mathlib.Omega.{arith}
use Rattle.terms.specs.Job.{Job}
use Rattle.history.specs.computed.Choosing.{candidates, chosen}
use Rattle.choosing.specs.code.Couples.{weight_here, nothing, weighed, seek}
use Rattle.merging.specs.declared.run.Run.{Run}
use Rattle.merging.specs.code.State.{history_of}
use Rattle.merging.specs.code.Runs.{Holds, Ready}
use Rattle.merging.proofs.StateMerged.{parent_is}
use Rattle.merging.proofs.StateStepped.{ends_low, best_is, ready_chosen}
use Rattle.merging.proofs.run.Run.stepped.Goals as goal
use Rattle.merging.proofs.run.Run.stepped.Goals.{After-merged-arg-1}

abbrev run_of : After-merged-arg-1 → Run
run_of c = c.args.self

abbrev rows_of : After-merged-arg-1 → List ℕ
rows_of c = c.args.rows.now

-- The rows that are there, and how many they are.
abbrev gathered_of : After-merged-arg-1 → List ℕ
gathered_of c = c.put_live-kept.new.live

abbrev kept_of : After-merged-arg-1 → ℕ
kept_of c = c.put_live-kept.result

-- What was chosen in this state, whatever its job.
best_found : (c : After-merged-arg-1) (job : Job) (holds : Holds job (rows_of c) (run_of c))
    → c.choose-best.result ≡ seek (weight_here (kept_of c) (gathered_of c)) (nothing (kept_of c)) (candidates job.modes (history_of (run_of c)))
best_found c job holds =
    let run = run_of c in
    let next = c.parent_number-next.ensures in
    rw holds.modes_are at c.choose-best.ensures (history_of run) holds.tied (next ∙ parent_is job.modes run holds.modes_are)

left_in : (c : After-merged-arg-1) (job : Job) (holds : Holds job (rows_of c) (run_of c)) → (run_of c).step < job.modes
left_in c job holds = rw (← holds.modes_are) c.requires.step_lt_modes

ready_best : (c : After-merged-arg-1) (job : Job) (holds : Holds job (rows_of c) (run_of c))
    → Ready job (rows_of c) (run_of c) c.choose-best.result.triple c.choose-best.result.weight
ready_best c job holds =
    ready_chosen 769 256 job (rows_of c) (run_of c) holds (gathered_of c) (kept_of c) c.put_live-kept.ensures
    (left_in c job holds) c.choose-best.result (best_found c job holds)

pub invariant_of-gathered : goal.invariant_of-gathered
invariant_of-gathered c =
    let holds = c.requires.holds.1 in
    let there = c.put_live-kept.ensures in
    record { light = omega (arith, there.at_most, holds.light, holds.count_is); held = there.held }

pub choose-best-requires : goal.choose-best-requires
choose-best-requires c =
    let holds = c.requires.holds.1 in
    let run = c.args.self in
    let next = c.parent_number-next.ensures in
    let low = ends_low 769 256 c.requires.holds.0 c.args.rows.now run holds in
    record {
      limits = (omega (arith, holds.few, holds.modes_are), omega (arith, holds.few, holds.modes_are, next, c.requires.step_lt_modes));
      by_index = λ entity h. omega (arith, low entity (omega (arith, next)), holds.few);
    }

pub merged-requires : goal.merged-requires
merged-requires c =
    (c.requires.holds.0, ready_best (goal.at.merged-requires c).After-merged-arg-1 c.requires.holds.0 c.requires.holds.1)

pub returns : goal.returns
unfolding weighed
returns c job holds =
    let run = run_of (goal.at.returns c).After-merged-arg-1 in
    let rows = rows_of (goal.at.returns c).After-merged-arg-1 in
    let triple_is : c.choose-best.result.triple ≡ chosen job (history_of run) =
    ap (λ b. b.triple)
    (best_found (goal.at.returns c).After-merged-arg-1 job holds
    ∙ best_is 769 256 job rows run holds (gathered_of (goal.at.returns c).After-merged-arg-1) (kept_of (goal.at.returns c).After-merged-arg-1) c.put_live-kept.ensures (left_in (goal.at.returns c).After-merged-arg-1 job holds)) in
    rw triple_is at (c.merged.ensures job (ready_best (goal.at.returns c).After-merged-arg-1 job holds))
