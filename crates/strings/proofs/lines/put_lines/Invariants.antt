-- The lines written and those ahead are always the whole text.
use Rattle.std.proofs.Common.{◌≤◌, length}
use Rattle.strings.specs.Text.{strings_text}
use Rattle.strings.proofs.LinesWritten.{PuttingLines}
use Rattle.strings.proofs.lines.put_lines.Given as goal

abbrev pub invariant-loop-majorana : goal.invariant-loop-majorana
invariant-loop-majorana l = (room : length (strings_text l.placed.modes l.placed.tree.now) ≤ length l.initial.text) → PuttingLines l.placed.modes l.placed.tree.now l.initial.text room l.text l.at l.majorana
