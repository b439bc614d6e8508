-- Each count and what is ahead of it make all the occurrences; at the end the three counts decide the letter.
use mathlib.Core.Path.{◌≡◌}
use Prim.Native.Nat.{◌≤◌, ◌+◌}
use lib.ListN.{drop}
use Rattle.lists.specs.Counting.{occurrences}
use Rattle.terms.proofs.weight.qubit_term_weight.Given as goal

abbrev pub invariant-loop-index : goal.invariant-loop-index
invariant-loop-index l = (l.xs ≤ l.index-index)
    × (l.ys ≤ l.index-index)
    × (l.zs ≤ l.index-index)
    × (l.xs + occurrences l.triple.x (drop l.index-index l.term) ≡ occurrences l.triple.x l.term)
    × (l.ys + occurrences l.triple.y (drop l.index-index l.term) ≡ occurrences l.triple.y l.term)
    × (l.zs + occurrences l.triple.z (drop l.index-index l.term) ≡ occurrences l.triple.z l.term)
