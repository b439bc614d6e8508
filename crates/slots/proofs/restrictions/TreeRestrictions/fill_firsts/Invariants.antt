-- The nodes gathered and the first of those ahead are all the firsts.
use Rattle.std.proofs.Common.{true, ◌++◌, ◌≡◌, ◌≤◌, take, drop, ltb}
use Rattle.lists.specs.Members.{every, firsts, firsts_after}
use Rattle.slots.specs.code.Restrictions.{alike_in}
use Rattle.slots.proofs.restrictions.TreeRestrictions.fill_firsts.Given as goal

abbrev pub invariant-loop-node : goal.invariant-loop-node
invariant-loop-node l = (l.count ≤ l.node-index) × (every (λ v. ltb v l.self.modes) (take l.count l.kept) ≡ true)
    × (take l.count l.kept ++ firsts_after (alike_in l.self) (take l.count l.kept) (drop l.node-index l.far)
    ≡ firsts (alike_in l.self) l.far)
