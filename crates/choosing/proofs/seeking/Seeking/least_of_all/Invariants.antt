-- The candidates of the entities still to come give the answer, and what the entities passed name is settled.
use mathlib.Core.Path.{◌≡◌}
use mathlib.Core.List.{List}
use Prim.Native.Nat.{◌-◌}
use Rattle.entities.specs.declared.Triple.{Triple}
use Rattle.history.specs.History.{next_parent}
use Rattle.history.specs.computed.Choosing.{candidates}
use Rattle.choosing.specs.code.Couples.{SettledBelow, seek, nothing}
use Rattle.choosing.specs.code.Seeking.{measured, TiedTo}
use Rattle.choosing.proofs.Candidates.{candidates_from}
use Rattle.choosing.proofs.seeking.Seeking.least_of_all.Given as goal

abbrev pub invariant-loop-a : goal.invariant-loop-a
invariant-loop-a l =
    let among = l.self in
    ((history : List Triple) → TiedTo among history → among.next ≡ next_parent among.modes history
    → (seek (measured among) (nothing among.gathered.count) (candidates among.modes history)
    ≡ seek (measured among) l.best (candidates_from among.modes history l.a (among.next - l.a)))
    × SettledBelow (measured among) among.modes history among.next l.best l.a)
