-- The table put is the tree of the merges, so what the operators weigh in it is the sequence's weight.
use Rattle.std.proofs.Common.{ap, ◌∙◌, reverse}
use Rattle.tree_weight.specs.code.Promises.{own_weight}
use Rattle.best.proofs.TreeKept.{tree_kept}
use Rattle.best.proofs.search.Operators.weigh.Goals as goal

pub returns : goal.returns
returns c =
    let own = c.args.self.now in
    c.operators_weight.ensures
    ∙ ap (own_weight own.modes own.count own.rows.now)
    (tree_kept own.modes (reverse c.args.merges.now) c.requires c.put_tree.new.tree _ c.put_tree.ensures)
