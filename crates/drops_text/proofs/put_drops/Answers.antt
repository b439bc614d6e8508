-- The lines of the steps passed stand at the front; at the end they are all.
use native.Mathlib.Omega.{arith}
use Rattle.lists.proofs.Behind.{Wrote}
use Rattle.text.proofs.PrintedLines.{wrote_puts}
use Rattle.drops_text.proofs.DropLines.{drops_start, drops_go, drops_end}
use Rattle.drops_text.proofs.put_drops.Goals as goal

pub loop-step-init : goal.loop-step-init
loop-step-init c =
    drops_start c.args.drops.now c.args.out.now (omega (arith, c.requires))

pub put_drop-at-requires : goal.put_drop-at-requires
put_drop-at-requires c =
    let p = c.loop-step.invariant in
    let taken = c.loop-step-test.true in
    (omega (arith, p.near, p.size, taken, c.requires), omega (arith, taken, c.requires), omega arith)

pub loop-step-preserved : goal.loop-step-preserved
loop-step-preserved c =
    let args = c.args in
    let put = c.put_drop-at in
    let line : Wrote _ _ _ _ _ = record { behind = put.ensures.value.0; written = put.ensures.out_after } in
    drops_go args.drops.now args.out.now (omega (arith, c.requires)) _ _ _ c.loop-step.invariant _ _ c.loop-step-test.true
    (rw c.from.ensures at line) put.ensures.value.1 put.auto.out

pub returns : goal.returns
returns c =
    let args = c.args in
    let p = c.loop-step.invariant in
    wrote_puts
    (drops_end args.drops.now args.out.now (omega (arith, c.requires)) _ _ _ p (omega (arith, c.loop-step-test.false)))
    (omega (arith, p.near, p.some, c.requires))
