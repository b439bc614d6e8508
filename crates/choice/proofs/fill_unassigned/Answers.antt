-- The modes gathered and those ahead are all that no pair has.
use native.Mathlib.Nat.{sub-zero}
use Rattle.std.proofs.Common.{arith, take}
use Rattle.lists.proofs.Joined.{gathered, gathered_all}
use Rattle.lists.proofs.Ranges.{keep_on, keep_done}
use Rattle.choice.specs.Choices.{unassigned}
use Rattle.choice.proofs.fill_unassigned.Goals as goal

pub loop-mode-init : goal.loop-mode-init
unfolding unassigned
loop-mode-init c = (omega arith, rw sub-zero)

pub loop-mode-preserved : goal.loop-mode-preserved
loop-mode-preserved c =
    let args = c.args in
    let put = c.put_if-count in
    let same = put.auto.numbers in
    let one = rw c.is_assigned-taken.ensures at put.ensures.1 in (
      omega arith,
      gathered (take c.loop-mode.count c.loop-mode.free) _ _ _ _ _ one (keep_on _ (λ v. v) args.modes c.loop-mode.mode (omega arith)) c.loop-mode.invariant.1,
    )

pub returns : goal.returns
returns c =
    (omega arith, gathered_all _ _ _ (keep_done _ (λ v. v) _ _ (omega arith)) c.loop-mode.invariant.1)
