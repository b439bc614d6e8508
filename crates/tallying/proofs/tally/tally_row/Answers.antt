-- None of the two is odd, one is, or both: the table is left, raised once, or twice.
use mathlib.Core.Path.{◌≡◌}
use Prim.Native.Nat.{◌+◌, ◌%◌}
use native.Mathlib.Omega.{arith}
use Rattle.lists.specs.Counting.{occurrences}
use Rattle.tallying.proofs.OddRows.{tallied_none, tallied_one, tallied_two}
use Rattle.tallying.proofs.tally.tally_row.Goals as goal
use Rattle.tallying.proofs.tally.tally_row.Goals.{After-odd_in-2}

both : (c : After-odd_in-2)
    → c.odd_in.result + c.odd_in-2.result
    ≡ occurrences c.args.x c.args.term.now % 2
    + occurrences c.args.y c.args.term.now % 2
both c = rw (c.odd_in.ensures.0, c.odd_in-2.ensures.0)

pub returns-then-odd-eq0 : goal.returns-then-odd-eq0
returns-then-odd-eq0 c =
    let args = c.args in
    tallied_none args.term.now args.x args.y _ (both (goal.at.returns-then-odd-eq0 c).After-odd_in-2) c.if-odd-eq0.true _

pub returns-then-odd-lt2 : goal.returns-then-odd-lt2
returns-then-odd-lt2 c =
    let args = c.args in
    tallied_one args.term.now args.x args.y _ (both (goal.at.returns-then-odd-lt2 c).After-odd_in-2) (omega arith) _ _ c.raise.ensures

pub returns : goal.returns
returns c =
    let args = c.args in
    tallied_two args.term.now args.x args.y _ (both (goal.at.returns c).After-odd_in-2) (omega arith) _ _ _ c.raise.ensures c.raise-2.ensures
