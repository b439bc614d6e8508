-- The run came to its end, and its rows stand in front, which are laid out.
use native.Mathlib.Omega.{arith}
use Rattle.ran_tree.proofs.TreeEnds.{front_modes, done_stands}
use Rattle.ran_tree.proofs.grow.Goals as goal

pub lay_front-requires : goal.lay_front-requires
lay_front-requires c =
    let known = c.in_ok-run.ensures in
    omega (arith, known.few, front_modes known (omega arith))

pub returns : goal.returns
returns c = done_stands c.in_ok-run.ensures (omega arith) _ c.lay_front.ensures
