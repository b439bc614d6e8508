-- The letters of the nodes passed are written; at the end that is all of them.
use Rattle.std.proofs.Common.{◌≡◌, length}
use Rattle.lists.specs.Ranges.{listed}
use Rattle.lists.specs.Written.{written_at}
use Rattle.strings.proofs.LinesWritten.{byte_at}
use Rattle.strings.proofs.lines.put_letters.Given as goal

abbrev pub invariant-loop-node : goal.invariant-loop-node
invariant-loop-node l = (length l.text ≡ length l.initial.text) × (l.text ≡ written_at l.at (listed (byte_at l.placed.modes l.placed.tree.now l.majorana) 0 l.node) l.initial.text)
