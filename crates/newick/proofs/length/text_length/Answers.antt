-- The modes' lengths are added up, each of them short.
use Rattle.std.proofs.Common.{rules, tests, ◌≡◌, ℕ, ◌+◌, ◌*◌, ◌≤◌, arith}
use Rattle.std.proofs.lemmas.Iterator.{YieldsList-from_range, YieldsList-from_map}
use Rattle.std.proofs.lemmas.Iterator.Consumers.{fits_by_from_yields_list, sum_by_from_yields_List}
use Rattle.std.specs.List.{sum_by, range_with_len}
use Rattle.fields.proofs.Digits.{decimal_long}
use Rattle.tree.specs.Table.{nodes}
use Rattle.tree.proofs.Chains.{summed_is, summed_few}
use Rattle.newick.specs.Writing.{mode_length, text_length}
use Rattle.newick.proofs.length.text_length.Goals as goal
use Rattle.newick.proofs.length.text_length.Goals.{After-sum}

all_short : (modes : ℕ) → sum_by mode_length (range_with_len 0 modes) ≤ modes * 67
unfolding mode_length
all_short modes = summed_few mode_length modes 67 (λ mode. omega (arith, decimal_long mode, decimal_long (2 * mode), decimal_long (2 * mode + 1)))

pub sum-requires-clause-fits : goal.sum-requires-clause-fits
sum-requires-clause-fits c =
    let modes = c.args.modes in
    fits_by_from_yields_list mode_length (range_with_len 0 modes) c.map.result _
    (YieldsList-from_map _ mode_length (YieldsList-from_range 0 modes modes c.map.ensures.source (omega arith)) c.map.ensures.closure (λ x r q k. search (rules, tests)))
    (omega (arith, all_short modes))

added : (c : After-sum) → c.sum.result ≡ sum_by mode_length (range_with_len 0 c.args.modes)
added c =
    let modes = c.args.modes in
    sum_by_from_yields_List mode_length (range_with_len 0 modes) c.map.result _ c.sum.ensures.ran
    (YieldsList-from_map _ mode_length (YieldsList-from_range 0 modes modes c.map.ensures.source (omega arith)) c.map.ensures.closure (λ x r q k. search (rules, tests)))

pub overflow_add-result : goal.overflow_add-result
overflow_add-result c = omega (arith, added (goal.at.overflow_add-result c).After-sum, all_short c.args.modes)

pub returns : goal.returns
unfolding text_length nodes
returns c =
    let sum = added (goal.at.returns c).After-sum in
    (rw (sum, summed_is mode_length c.args.modes), omega (arith, all_short c.args.modes))
