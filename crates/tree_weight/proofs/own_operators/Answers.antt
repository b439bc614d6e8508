-- The operators of good rows are rows below 2n, and weigh what the tree weight counts.
use Rattle.tree_weight.specs.code.Promises.{own_weight}
use Rattle.tree_weight.proofs.OperatorsWeighed.{good_ascending, good_below, operators_below, operators_weigh}
use Rattle.tree_weight.proofs.own_operators.Goals as goal

pub operators-requires : goal.operators-requires
operators-requires c =
    let args = c.args in
    good_ascending args.modes args.count args.terms.now c.requires.good_rows

pub returns : goal.returns
unfolding own_weight
returns c =
    let args = c.args in
    let made = c.operators.ensures in
    let below = good_below args.modes args.count args.terms.now c.requires.good_rows in
    record {
      whole = made.0;
      below = operators_below args.modes args.count args.terms.now _ c.requires.modes_le_most_modes made.1 below c.requires.good_rows.few;
      weighs = operators_weigh args.modes args.count args.terms.now _ c.requires.modes_le_most_modes made.1 below;
    }
