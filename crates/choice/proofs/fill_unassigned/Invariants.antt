-- The modes gathered and those ahead are all that no pair has.
use Rattle.std.proofs.Common.{◌++◌, not, ◌≡◌, ◌≤◌, ◌-◌, take, eqb}
use Rattle.lists.specs.Ranges.{listed}
use Rattle.lists.specs.Members.{keep, some_of}
use Rattle.choice.specs.Choices.{unassigned}
use Rattle.choice.proofs.fill_unassigned.Given as goal

abbrev pub invariant-loop-mode : goal.invariant-loop-mode
invariant-loop-mode l = (l.count ≤ l.mode) × (take l.count l.free ++ keep (λ v. not (some_of (eqb v) l.assigned)) (listed (λ v. v) l.mode (l.modes - l.mode)) ≡ unassigned l.modes l.assigned)
