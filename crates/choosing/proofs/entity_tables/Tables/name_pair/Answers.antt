-- An even z-end makes the entity the x, an odd one the y.
use mathlib.Core.Path.{◌∙◌}
use Prim.Native.Nat.{◌+◌, ◌-◌}
use native.Mathlib.Omega.{arith}
use Rattle.choosing.proofs.Couples.{named_even, named_odd}
use Rattle.choosing.proofs.entity_tables.Tables.name_pair.Goals as goal

pub returns-then-end-eq0 : goal.returns-then-end-eq0
returns-then-end-eq0 c modes history ends holders =
    let a = c.args.a in
    let end = c.end_of-end.result in
    let e = c.end_of-end.ensures.1 ∙ ends a (omega arith) in
    let names = named_even modes history a end e c.if-end-eq0.true in
    (names.0, holders (end + 1) (omega arith) ∙ names.1)

pub returns-else-end-eq0 : goal.returns-else-end-eq0
returns-else-end-eq0 c modes history ends holders =
    let a = c.args.a in
    let end = c.end_of-end.result in
    let e = c.end_of-end.ensures.1 ∙ ends a (omega arith) in
    let names = named_odd modes history a end e c.if-end-eq0.false in
    (holders (end - 1) (omega arith) ∙ names.0, names.1)
