-- What was found is printed.
use native.Mathlib.Omega.{arith}
use Rattle.tree.specs.Laying.{modes_in}
use Rattle.assign_text.proofs.put_terms.Goals as goal

pub put_found-requires : goal.put_found-requires
unfolding modes_in
put_found-requires c = omega (arith, c.assign_read-found.auto, c.requires.0.few)

pub returns : goal.returns
returns c = rw c.assign_read-found.ensures at c.put_found.ensures
