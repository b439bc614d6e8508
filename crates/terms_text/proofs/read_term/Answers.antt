-- A term's fields are counted, its word among them, and then as many indices are read behind the word.
use mathlib.Core.Path.{sym}
use native.Mathlib.Omega.{arith}
use lib.Seq.{length-take-le}
use Rattle.fields.specs.Fields.{fields}
use Rattle.terms_text.proofs.LineWords.{term_empty, term_short, term_long, term_told}
use Rattle.terms_text.proofs.read_term.Goals as goal

pub returns-then-line-eq0 : goal.returns-then-line-eq0
returns-then-line-eq0 c = term_empty c.args.line.now _ c.if-line-eq0.true

pub slice_bounds-field_count-end : goal.slice_bounds-field_count-end
slice_bounds-field_count-end c = sym (length-take-le _ c.args.line.now (omega arith))

pub returns-then-parts-lt2 : goal.returns-then-parts-lt2
unfolding fields
returns-then-parts-lt2 c =
    let line = c.args.line.now in
    term_short line _ (omega (arith, c.field_count-parts.ensures))

pub returns-then-parts-gt8 : goal.returns-then-parts-gt8
unfolding fields
returns-then-parts-gt8 c =
    let line = c.args.line.now in
    term_long line _ (omega (arith, c.field_count-parts.ensures))

pub returns : goal.returns
unfolding fields
returns c =
    let line = c.args.line.now in
    term_told line _ (omega (arith, c.field_count-parts.ensures)) (omega arith) (omega arith) _ _ c.read_indices.ensures
