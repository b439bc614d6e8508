-- A length of 0 or above 7 is bad; behind any other the two tests are those of the definition.
use Rattle.std.proofs.Common.{◌+◌, ◌*◌, ◌-◌, arith, drop, length, rules, sym, take, tests}
use Rattle.std.proofs.lemmas.Iterator.{YieldsList-from_slice}
use Rattle.std.proofs.lemmas.Iterator.Search.{all_from_yields_List}
use Rattle.lists.proofs.Standard.{every_is}
use Rattle.lists.proofs.Steps.{part_to_end}
use Rattle.terms.proofs.GoodSteps.{row_empty, row_long, row_within}
use Rattle.terms.proofs.checking.good_row.Goals as goal
use Rattle.terms.proofs.checking.good_row.Goals.{then-count-lt1-via-then-count-lt1, then-count-lt1-via-else-count-lt1+then-count-gt7}

pub returns-then-count-lt1 : goal.returns-then-count-lt1
returns-then-count-lt1 c =
    let args = c.args in
    let e = c.from-count.ensures in
    elim c.then-count-lt1.branch [
      | then-count-lt1-via-then-count-lt1 w ↦ sym (row_empty (2 * args.modes) args.numbers.now (omega arith))
      | then-count-lt1-via-else-count-lt1+then-count-gt7 w ↦ sym (row_long (2 * args.modes) args.numbers.now (omega arith) (omega arith))
    ]

pub returns-then-good_indices : goal.returns-then-good_indices
returns-then-good_indices c =
    let args = c.args in
    let row = args.numbers.now in
    rw (
      row_within (2 * args.modes) row (omega arith) (omega arith),
      ← c.term_of.ensures,
      ← c.good_indices.ensures,
      c.if-good_indices.true,
      ← c.from-count.ensures,
      ← part_to_end row (c.from-count.result + 1),
      every_is _ _,
    ) (all_from_yields_List _ _ _ _ c.all.ensures.ran (YieldsList-from_slice (take (length row - (c.from-count.result + 1)) (drop (c.from-count.result + 1) row)) (cc)) (λ x b q k. search (rules, tests)))

pub returns-else-good_indices : goal.returns-else-good_indices
returns-else-good_indices c =
    let args = c.args in
    rw (row_within (2 * args.modes) args.numbers.now (omega arith) (omega arith), ← c.term_of.ensures, ← c.good_indices.ensures, c.if-good_indices.false)
