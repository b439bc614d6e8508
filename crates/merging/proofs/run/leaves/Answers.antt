-- The leaves are marked in one write over closed entities.
use Rattle.std.proofs.Common.{◌+◌, ◌*◌, ◌++◌, ◌∙◌, ap, arith, drop, replicate, false}
use Rattle.merging.proofs.FirstOpen.{leaves_open}
use Rattle.merging.proofs.run.leaves.Goals as goal

pub returns : goal.returns
returns c =
    let modes = c.args.modes in
    ap (λ front. front ++ drop (2 * modes + 1) (replicate 769 false)) (c.fill.ensures.after (λ y e. e)) ∙ leaves_open 769 modes (omega arith)
