-- The nodes passed and the lines ahead give the answer: each way out of a turn is one law.
use Rattle.fields.specs.Lines.{lines}
use Rattle.fields.specs.code.LinesLeft.{lines_left}
use Rattle.nodes_text.proofs.NodesAhead.{Passing}
use Rattle.nodes_text.proofs.read_nodes.Given as goal

abbrev pub invariant-loop-line : goal.invariant-loop-line
invariant-loop-line l = Passing 256 (lines l.text) l.rows (lines_left l.line-iterator) l.count
