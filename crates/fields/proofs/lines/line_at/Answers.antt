-- The line is the item with this number.
use Rattle.std.proofs.Common.{refl}
use Rattle.std.proofs.lemmas.Iterator.Consumers.{YieldsList-from_first, nth_from_yields_List}
use Rattle.fields.specs.Lines.{lines}
use Rattle.fields.specs.code.LinesLeft.{lines_left}
use Rattle.fields.proofs.LineSteps.{part_found}
use Rattle.fields.proofs.lines.line_at.Goals as goal

pub returns : goal.returns
returns c =
    let bytes = c.args.bytes.now in
    let found = nth_from_yields_List c.nth.result c.nth.new.self c.args.line c.nth.ensures.ran
    (YieldsList-from_first (λ line. line.now) lines_left (lines bytes) c.lines_of.ensures) in
    rw c.unwrap_or.ensures (part_found (lines bytes) c.args.line c.nth.result _ found refl)
