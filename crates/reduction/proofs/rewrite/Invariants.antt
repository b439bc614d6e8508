-- The numbers passed are replaced, and those ahead are as they were.
use Rattle.std.proofs.Common.{◌≡◌, ◌++◌, map, take, drop}
use Rattle.reduction.specs.Reduction.{replacement}
use Rattle.reduction.proofs.rewrite.Given as goal

abbrev pub invariant-loop-index : goal.invariant-loop-index
invariant-loop-index l =
    l.term ≡ map (replacement l.triple l.parent) (take l.index-index l.initial.term) ++ drop l.index-index l.initial.term
