-- Each arm's number is the edge of its letter; any other is none.
use mathlib.Core.Path.{sym}
use native.Mathlib.Omega.{arith}
use Rattle.strings.specs.Strings.{edge_letter}
use Rattle.strings.proofs.WayUp.{no_edge_lettered}
use Rattle.strings.proofs.lines.edge_letter.Goals as goal

pub returns-in-0 : goal.returns-in-0
unfolding edge_letter
returns-in-0 c = rw c.in-0.is

pub returns-in-1 : goal.returns-in-1
unfolding edge_letter
returns-in-1 c = rw c.in-1.is

pub returns-in-2 : goal.returns-in-2
unfolding edge_letter
returns-in-2 c = rw c.in-2.is

pub returns-in_default : goal.returns-in_default
returns-in_default c = sym (no_edge_lettered c.args.edge (omega arith))
