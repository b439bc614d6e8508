-- The kept bytes are those of all complete lines.
use Rattle.std.proofs.Common.{arith, rules, tests, length, ◌∙◌, sym}
use Rattle.std.proofs.lemmas.Iterator.{YieldsList-from_map}
use Rattle.std.proofs.lemmas.Iterator.Consumers.{YieldsList-from_first, YieldsList-at, sum_by_from_yields_List, fits_by_from_yields_list}
use Rattle.fields.specs.Lines.{lines}
use Rattle.fields.specs.code.LinesLeft.{lines_left}
use Rattle.fields.proofs.LinesJoined.{kept_length, kept_short}
use Rattle.fields.proofs.lines.kept_bytes.Goals as goal

pub sum-requires-clause-fits : goal.sum-requires-clause-fits
sum-requires-clause-fits c =
    let bytes = c.args.bytes.now in
    fits_by_from_yields_list length (lines bytes) c.map.result _
    (YieldsList-from_map _ length (YieldsList-at c.map.ensures.source (YieldsList-from_first (λ line. line.now) lines_left (lines bytes) c.lines_of.ensures))
    c.map.ensures.closure (λ x r q k. search (rules, tests)))
    (omega (arith, kept_length bytes, kept_short bytes))

pub returns : goal.returns
returns c =
    let bytes = c.args.bytes.now in
    let total = sum_by_from_yields_List length (lines bytes) c.map.result c.sum.result c.sum.ensures.ran
    (YieldsList-from_map _ length (YieldsList-at c.map.ensures.source (YieldsList-from_first (λ line. line.now) lines_left (lines bytes) c.lines_of.ensures))
    c.map.ensures.closure (λ x r q k. search (rules, tests))) in
    (total ∙ sym (kept_length bytes), omega (arith, total, kept_length bytes, kept_short bytes))
