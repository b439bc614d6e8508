-- What is passed is coded, and those ahead say whether all are in range.
use Rattle.std.proofs.Common.{◌≡◌, map, take, drop}
use Rattle.lists.specs.Members.{every}
use Rattle.newick.specs.Names.{in_range, code_of}
use Rattle.newick.proofs.names.put_codes.Given as goal

abbrev pub invariant-loop-at : goal.invariant-loop-at
invariant-loop-at l =
    (every (in_range l.modes) (drop l.at l.names) ≡ every (in_range l.modes) l.names) × (take l.at l.codes ≡ map (code_of l.modes) (take l.at l.names))
