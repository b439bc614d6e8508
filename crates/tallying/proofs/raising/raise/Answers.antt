-- The table is raised by the parities of the numbers passed; at the end these are all.
use mathlib.Core.Path.{refl}
use native.Mathlib.Omega.{arith}
use Rattle.lists.specs.Counting.{occurrences}
use Rattle.tallying.proofs.Parities.{below_on}
use Rattle.tallying.proofs.raising.raise.Goals as goal

pub loop-at-init : goal.loop-at-init
unfolding occurrences
loop-at-init c = (refl, λ n h. omega arith, λ n h. refl)

pub loop-at-preserved : goal.loop-at-preserved
loop-at-preserved c =
    let called = c.turn.ensures in
    let term = c.args.term.now in
    let higher = c.bound_on-bound.ensures in (
      omega (arith, called.same_length),
      λ n h. (let entry = c.loop-at.invariant.1 n h in let turned = called.turned n (omega arith) in omega arith),
      below_on term c.loop-at.at c.loop-at.bound c.bound_on-bound.result (omega arith) c.loop-at.invariant.2 higher.0 higher.1,
    )
