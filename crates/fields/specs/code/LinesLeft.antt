-- Lines given one after the other: what is still ahead.
use Rattle.std.specs.Prelude.{List, ℕ}
use Rattle.fields.specs.declared.lines.Lines.{Lines}
use Rattle.fields.specs.Lines.{lines}

-- The complete lines that are still ahead.
abbrev pub lines_left : Lines → List (List ℕ)
lines_left ahead = lines ahead.rest.now
