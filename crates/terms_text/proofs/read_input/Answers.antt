-- The first line and the lines behind it say what the text says.
use Rattle.std.specs.Prelude.{Some, None}
use mathlib.Core.Path.{◌≡◌, sym, ◌∙◌}
use native.Mathlib.Omega.{arith}
use lib.Seq.{length-take-le}
use Rattle.lists.proofs.Steps.{part_to_end}
use Rattle.refusal.specs.declared.Refusal.TheVariants.{Malformed}
use Rattle.refusal.proofs.Told.{handed_on}
use Rattle.terms_text.proofs.InputSaid.{reads_none, reads_part, reads_all}
use Rattle.terms_text.proofs.read_input.Goals as goal

pub slice_bounds-read_modes-end : goal.slice_bounds-read_modes-end
slice_bounds-read_modes-end c =
    sym (length-take-le c.line_end-start.result c.args.text.now c.line_end-start.ensures.1)

pub returns-in_err-modes : goal.returns-in_err-modes
returns-in_err-modes c =
    let line = c.line_end-start in
    let none : c.read_modes.result ≡ None = grind arith in
    let why : c.in_err-modes.field-0.0 ≡ Malformed 0 = grind arith in
    rw (handed_on c.from_residual.ensures, why)
    (reads_none 2048 c.args.text.now line.result (omega (arith, line.ensures.0)) (sym c.read_modes.ensures ∙ none) c.args.numbers.now)

pub returns-in_err-count : goal.returns-in_err-count
returns-in_err-count c =
    let line = c.line_end-start in
    let some : c.read_modes.result ≡ Some c.in_ok-modes.modes = grind arith in
    rw (handed_on c.from_residual-in_err-count.ensures)
    (reads_part 2048 c.args.text.now line.result (omega (arith, line.ensures.0)) _ (sym c.read_modes.ensures ∙ some) line.ensures.1 c.read_terms.new.numbers _
    (rw (part_to_end c.args.text.now line.result) at c.in_err-count.ensures))

pub returns : goal.returns
returns c =
    let line = c.line_end-start in
    let some : c.read_modes.result ≡ Some c.in_ok-modes.modes = grind arith in
    rw (c.from.ensures)
    (reads_all 2048 c.args.text.now line.result (omega (arith, line.ensures.0)) _ (sym c.read_modes.ensures ∙ some) line.ensures.1 _ _
    (rw (part_to_end c.args.text.now line.result) at c.in_ok-count.ensures))
