-- The rounds that are left end where all do.
use Rattle.std.proofs.Common.{◌≡◌, ◌-◌, ◌*◌, ◌≤◌, drop}
use Rattle.terms.specs.Rows.{terms_of}
use Rattle.topphatt.specs.code.Going.{task_with, ended_over, Going, state_of}
use Rattle.topphatt.specs.computed.Rounding.{rounds}
use Rattle.topphatt.proofs.task.Ready.topphatt.Given as goal

abbrev pub invariant-loop : goal.invariant-loop
invariant-loop l = Going l.self.task.modes l.rows l.count l.assigned
    × (l.weight ≤ 2048 * l.counter)
    × (rounds (task_with l.self.task (terms_of 9 l.count l.initial.rows)) (l.self.task.modes - l.counter) (state_of l.count l.rows l.assigned l.weight)
    ≡ ended_over l.self.task l.count l.initial.rows)
    × (drop (9 * l.count) l.rows ≡ drop (9 * l.count) l.initial.rows)
