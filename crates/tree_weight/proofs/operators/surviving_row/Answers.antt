-- The walk of WalkedRow, index by index; its end is the row, or zeros where nothing is left.
use Rattle.std.proofs.Common.{◌≡◌, refl, arith}
use Rattle.tree_weight.proofs.WalkedRow.{walk_starts, walk_on, walk_ends, walk_ends_empty}
use Rattle.tree_weight.proofs.operators.surviving_row.Goals as goal

pub loop-index-init : goal.loop-index-init
loop-index-init c = walk_starts c.args.term.now _ refl refl

pub loop-index-preserved : goal.loop-index-preserved
loop-index-preserved c =
    walk_on c.args.term.now c.loop-index.row c.loop-index.count c.loop-index.index-index c.requires.0 c.requires.1 c.loop-index.invariant (omega arith) _ _
    c.put_index-count.ensures

pub returns-then-count-eq0 : goal.returns-then-count-eq0
returns-then-count-eq0 c =
    let none : c.loop-index.count ≡ 0 = omega arith in
    walk_ends_empty c.args.term.now c.loop-index.row c.loop-index.index-index (rw none at c.loop-index.invariant) (omega arith)

pub returns : goal.returns
returns c =
    walk_ends c.args.term.now c.loop-index.row c.loop-index.count c.loop-index.index-index c.requires.0 c.loop-index.invariant (omega arith) (omega arith)
