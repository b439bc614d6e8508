-- In the rows passed and in those ahead a number is odd in as many rows as in all.
use native.Mathlib.Omega.{arith}
use Rattle.tallying.proofs.OddRows.{odds_step, odds_end}
use Rattle.tallying.proofs.odds.count_odds.Goals as goal

pub loop-place-preserved : goal.loop-place-preserved
loop-place-preserved c =
    let same = c.raise.ensures.same_length in
    let up = rw c.term_at.ensures at c.raise.ensures.raised in (
      omega arith,
      omega arith,
      λ n h. omega (arith, c.loop-place.invariant.2 n h, up n (omega arith)),
      λ n h. omega (arith, c.loop-place.invariant.3 n h, up n (omega arith), odds_step n c.args.gathered.now.count c.loop-place.place c.args.gathered.now.rows.now (omega arith)),
    )

pub returns : goal.returns
returns c n h =
    omega (arith, c.loop-place.invariant.3 n (omega arith), odds_end n c.args.gathered.now.count c.loop-place.place c.args.gathered.now.rows.now (omega arith))
