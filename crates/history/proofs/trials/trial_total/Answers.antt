-- The table is the list of the rule's values, as antt computes it; so an entry is the rule's value.
use mathlib.Core.Path.{ap, ◌∙◌}
use native.Mathlib.Nat.{zero-add}
use native.Mathlib.Omega.{arith}
use Rattle.lists.specs.Ranges.{listed}
use Rattle.lists.proofs.Listed.{listed_at}
use Rattle.history.specs.Trials.{trial_total}
use Rattle.history.proofs.trials.trial_total.Goals as goal

pub returns : goal.returns
unfolding listed trial_total
returns c =
    let steps = c.args.steps in
    listed_at trial_total 0 257 steps 0 (omega arith) ∙ ap trial_total (zero-add steps)
