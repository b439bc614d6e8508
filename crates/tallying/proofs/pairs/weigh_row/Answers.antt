-- The table follows what the leaves weigh beside z in the numbers passed; at the end these are all.
use mathlib.Core.Path.{refl}
use native.Mathlib.Omega.{arith}
use lib.Seq.{take_all}
use Rattle.lists.specs.Counting.{occurrences}
use Rattle.tallying.proofs.Parities.{below_on}
use Rattle.tallying.proofs.PairsWeighed.{beside_none, beside_all}
use Rattle.tallying.proofs.pairs.weigh_row.Goals as goal

pub loop-at-init : goal.loop-at-init
unfolding occurrences
loop-at-init c = (refl, λ k h. omega (arith, beside_none c.odd_in-odd.result k c.odd_in-odd.ensures.1), λ n h. refl)

pub loop-at-preserved : goal.loop-at-preserved
loop-at-preserved c =
    let called = c.turn_next.ensures in
    let term = c.args.term.now in
    let higher = c.bound_on-bound.ensures in (
      omega (arith, called.same_length),
      λ k h. (let entry = c.loop-at.invariant.1 k h in let turned = called.turned k (omega arith) in omega arith),
      below_on term c.loop-at.at c.loop-at.bound c.bound_on-bound.result (omega arith) c.loop-at.invariant.2 higher.0 higher.1,
    )

pub returns : goal.returns
returns c =
    let args = c.args in
    let odd = c.odd_in-odd in
    let all = take_all c.loop-at.at args.term.now (omega arith) in
    let passed = rw all at c.loop-at.invariant.1 in
    record {
      same_length = c.loop-at.invariant.0;
      odd_is = odd.ensures.0;
      weighs = λ k h. omega (arith, passed k h, beside_all odd.result args.z k args.term.now odd.ensures.0);
    }
