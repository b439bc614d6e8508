-- Behind the end there is none; else the one at the place is the front.
use mathlib.Core.Path.{◌∙◌}
use native.Mathlib.Omega.{arith}
use Rattle.lists.proofs.Steps.{drop_step}
use Rattle.lists.proofs.Writes.{written_next}
use Rattle.slots.proofs.nodes.fill_one.Goals as goal

pub returns : goal.returns
returns c =
    let args = c.args in
    (omega arith, written_next args.kept.now 0 _ (omega arith) ∙ rw (drop_step args.far.now args.at 0 (omega arith)))
