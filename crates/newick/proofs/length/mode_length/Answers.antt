-- The three counts of digits are those of the mode and its two leaves.
use native.Mathlib.Omega.{arith}
use Rattle.newick.specs.Writing.{mode_length}
use Rattle.newick.proofs.length.mode_length.Goals as goal

pub returns : goal.returns
unfolding mode_length
returns c = omega arith
