-- The lines' lengths are added up, each of them short.
use Rattle.std.proofs.Common.{rules, tests, sym, ◌∙◌, ℕ, ◌*◌, ◌≤◌, arith}
use Rattle.std.proofs.lemmas.Iterator.{YieldsList-from_range, YieldsList-from_map}
use Rattle.std.proofs.lemmas.Iterator.Consumers.{fits_by_from_yields_list, sum_by_from_yields_List}
use Rattle.std.specs.List.{sum_by, range_with_len}
use Rattle.fields.proofs.Digits.{decimal_long}
use Rattle.tree.proofs.Chains.{summed_is, summed_few}
use Rattle.strings.specs.Text.{line_length, majoranas, strings_length}
use Rattle.strings.proofs.length.strings_length.Goals as goal

all_short : (modes : ℕ) → modes ≤ 256 → sum_by (line_length modes) (range_with_len 0 (2 * modes)) ≤ 2 * modes * 278
unfolding line_length
all_short modes few = summed_few (line_length modes) (2 * modes) 278 (λ majorana. omega (arith, decimal_long majorana))

pub sum-requires-clause-fits : goal.sum-requires-clause-fits
unfolding line_length
sum-requires-clause-fits c =
    let modes = c.args.modes in
    fits_by_from_yields_list (line_length modes) (range_with_len 0 (2 * modes)) c.map.result _
    (YieldsList-from_map _ (line_length modes) (YieldsList-from_range 0 (2 * modes) (2 * modes) c.map.ensures.source (omega arith)) c.map.ensures.closure (λ x r q k. search (rules, tests)))
    (omega (arith, all_short modes))

pub returns : goal.returns
unfolding line_length majoranas strings_length
returns c =
    let modes = c.args.modes in
    sum_by_from_yields_List (line_length modes) (range_with_len 0 (2 * modes)) c.map.result _ c.sum.ensures.ran
    (YieldsList-from_map _ (line_length modes) (YieldsList-from_range 0 (2 * modes) (2 * modes) c.map.ensures.source (omega arith)) c.map.ensures.closure (λ x r q k. search (rules, tests)))
    ∙ sym (summed_is (line_length modes) (2 * modes))
