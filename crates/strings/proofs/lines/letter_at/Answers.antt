-- The edge under which the leaf stands has the letter, and the letter the byte.
use native.Mathlib.Numerals.{add-one}
use Rattle.strings.specs.Strings.{majorana_letter}
use Rattle.strings.specs.Text.{string_sign}
use Rattle.strings.proofs.lines.letter_at.Goals as goal

pub returns : goal.returns
unfolding string_sign majorana_letter
returns c =
    let letter = c.edge_letter.ensures in
    let edge = c.majorana_edge.ensures in
    rw (letter, edge, add-one) at c.byte.ensures
