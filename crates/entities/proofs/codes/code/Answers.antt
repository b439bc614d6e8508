-- Each return is one arm of the definition: the tests on the way decide it.
use Prim.Native.Nat.{◌+◌, ◌*◌}
use native.Mathlib.Omega.{arith}
use borrow.Author.Tests.{eq-eqb, ne_eqb, lt-ltb, le-ltb}
use Rattle.entities.specs.Codes.{child_code}
use Rattle.entities.proofs.codes.code.Goals as goal

pub returns-then-entity-end : goal.returns-then-entity-end
unfolding child_code
returns-then-entity-end c = rw (eq-eqb _ _ c.if-entity-end.true)

pub returns-then-entity-leaves : goal.returns-then-entity-leaves
unfolding child_code
returns-then-entity-leaves c =
    let args = c.args in
    rw (ne_eqb _ _ c.if-entity-end.false, lt-ltb args.entity (2 * args.modes + 1) (omega arith))

pub returns : goal.returns
unfolding child_code
returns c =
    let args = c.args in
    rw (ne_eqb _ _ c.if-entity-end.false, le-ltb args.entity (2 * args.modes + 1) (omega arith)) (omega arith)
