-- The triples with the z still to come give the answer.
use mathlib.Core.Path.{sym, ap, ◌∙◌}
use Prim.Native.Nat.{◌+◌, ◌-◌}
use native.Mathlib.Nat.{sub-zero}
use native.Mathlib.Omega.{arith}
use Rattle.choosing.specs.code.Couples.{beside, seek}
use Rattle.choosing.specs.code.Seeking.{measured}
use Rattle.choosing.proofs.Candidates.{beside_step, beside_end}
use Rattle.choosing.proofs.SeekSteps.{seek_joined, seek_none}
use Rattle.choosing.proofs.SettledBest.{seek_idle, heavy_settles}
use Rattle.choosing.proofs.seeking.Counted.best_of_rest.Goals as goal

pub loop-z-init : goal.loop-z-init
loop-z-init c = λ history tied. rw sub-zero

-- None of those to come is lighter than one that reaches the bound.
pub returns-then-best-self : goal.returns-then-best-self
returns-then-best-self c history tied =
    let counted = c.args.self.now in
    let among = counted.among.now in
    let reached = c.if-best-self.true in
    sym
    (c.loop-z.invariant history tied
    ∙ seek_idle (measured among) c.loop-z.best _
    (heavy_settles (measured among) among.modes history counted.named.x counted.named.y c.loop-z.z (among.next - c.loop-z.z) c.loop-z.best
    (λ z. omega (arith, counted.bounded z, reached))))

pub loop-z-preserved : goal.loop-z-preserved
loop-z-preserved c =
    let counted = c.args.self.now in
    let among = counted.among.now in
    let x = counted.named.x in
    let y = counted.named.y in
    λ history tied.
    c.loop-z.invariant history tied
    ∙ rw (beside_step among.modes history x y c.loop-z.z among.next (omega arith))
    (seek_joined (measured among) c.loop-z.best _ _
    ∙ ap (λ b. seek (measured among) b (beside among.modes history x y (c.loop-z.z + 1) (among.next - (c.loop-z.z + 1))))
    (sym (c.best_beside-best.ensures history tied)))

pub returns : goal.returns
returns c history tied =
    let counted = c.args.self.now in
    let among = counted.among.now in
    sym
    (c.loop-z.invariant history tied
    ∙ rw (beside_end among.modes history counted.named.x counted.named.y c.loop-z.z among.next (omega arith)) (seek_none _ _))
