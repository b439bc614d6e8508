-- Each term stands for itself, so that the rows stand for no more than there may be.
use Rattle.terms.proofs.CountedRows.{spread_worked}
use Rattle.test_calls.proofs.put_merge.Goals as goal

pub merge_rows-requires : goal.merge_rows-requires
merge_rows-requires c =
    record {
      worked = spread_worked c.args.count c.args.terms.now _ c.put_each_once.ensures.spread c.requires.count_le_most_terms;
      count_le_most_terms = c.requires.count_le_most_terms;
    }
