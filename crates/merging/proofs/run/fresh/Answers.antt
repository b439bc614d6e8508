-- The tables of the first state, and nothing noted.
use mathlib.Core.Path.{refl, ap, ◌∙◌}
use native.Mathlib.Omega.{arith}
use lib.ListN.{length}
use Rattle.lists.proofs.Listed.{length_listed}
use Rattle.merging.specs.code.Recorded.{recorded}
use Rattle.merging.proofs.StateFresh.{fresh_holds}
use Rattle.merging.proofs.run.fresh.Goals as goal

pub returns : goal.returns
unfolding recorded
returns c numbers rows spread =
    let opens = c.leaves.ensures in
    let ends = c.identity.ensures in
    let holders = c.identity-2.ensures in (
      fresh_holds 769 256 _ numbers rows (omega arith)
          (record {
            opens = ap length opens ∙ length_listed _ 0 769;
            ends = ap length ends ∙ length_listed _ 0 769;
            holders = ap length holders ∙ length_listed _ 0 769;
            merges = refl;
            weights = refl;
            drops = refl;
          })
          refl refl (omega arith) (omega arith) (omega arith) spread opens ends holders,
      refl,
    )
