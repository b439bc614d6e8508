-- The triples with the z still to come give the answer.
use mathlib.Core.Path.{◌≡◌}
use mathlib.Core.List.{List}
use Prim.Native.Nat.{◌-◌}
use Rattle.entities.specs.declared.Triple.{Triple}
use Rattle.choosing.specs.code.Couples.{beside, seek}
use Rattle.choosing.specs.code.Seeking.{measured, TiedTo}
use Rattle.choosing.proofs.seeking.Counted.best_of_rest.Given as goal

abbrev pub invariant-loop-z : goal.invariant-loop-z
invariant-loop-z l =
    let among = l.self.among.now in
    let named = l.self.named in
    ((history : List Triple) → TiedTo among history
    → seek (measured among) l.initial.best (beside among.modes history named.x named.y 0 among.next)
    ≡ seek (measured among) l.best (beside among.modes history named.x named.y l.z (among.next - l.z)))
