-- The steps left from here end where all of them do; a code that is no node ends the chain.
use Rattle.std.proofs.Common.{◌≡◌, ◌∙◌, sym, suc, ◌+◌, ◌-◌, arith}
use Rattle.tree.specs.Pairs.{chain_end}
use Rattle.tree.proofs.TableSteps.{chain_goes, chain_rests}
use Rattle.tree.proofs.table.TreeTable.chain_end.Goals as goal

pub returns-then-self-at : goal.returns-then-self-at
returns-then-self-at c =
    let args = c.args.self.now in
    sym (c.loop.invariant ∙ chain_rests args.modes args.tree.now (args.modes - c.loop.counter) c.loop.at c.if-self-at.true)

pub loop-preserved : goal.loop-preserved
loop-preserved c =
    let args = c.args.self.now in
    let more : args.modes - c.loop.counter ≡ suc (args.modes - (c.loop.counter + 1)) = omega arith in
    rw c.child-at.ensures
    (rw more at c.loop.invariant ∙ chain_goes args.modes args.tree.now (args.modes - (c.loop.counter + 1)) c.loop.at c.if-self-at.false)

pub returns : goal.returns
unfolding chain_end
returns c =
    let none : c.args.self.now.modes - c.loop.counter ≡ 0 = omega arith in
    sym (rw none at c.loop.invariant)
