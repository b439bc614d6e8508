-- Each test in the order of the refusals.
use mathlib.Core.Path.{ap, ◌∙◌, sym}
use native.Mathlib.Omega.{arith}
use Rattle.std.specs.Prelude.{Ok}
use Rattle.refusal.proofs.Told.{handed_on}
use Rattle.best.proofs.BestAnswers.{no_modes, many_modes, bad_terms, no_room, finds}
use Rattle.best.proofs.best.Goals as goal

pub returns-then-modes-eq0 : goal.returns-then-modes-eq0
returns-then-modes-eq0 c = let args = c.args in no_modes 4 args.modes args.terms.now args.sequence.now c.if-modes-eq0.true

pub returns-then-modes-gt4 : goal.returns-then-modes-gt4
returns-then-modes-gt4 c = let args = c.args in many_modes 4 args.modes args.terms.now args.sequence.now c.if-modes-eq0.false c.if-modes-gt4.true

pub returns-then-sequence-modes : goal.returns-then-sequence-modes
returns-then-sequence-modes c =
    let args = c.args in
    no_room 4 args.modes args.terms.now args.sequence.now c.if-modes-eq0.false c.if-modes-gt4.false c.in_ok-count.count (sym c.check_terms.ensures.answer ∙ c.in_ok-count.was) c.if-sequence-modes.true

pub find-requires : goal.find-requires
find-requires c =
    let args = c.args in
    record {
      terms_value = sym c.check_terms.ensures.answer ∙ c.in_ok-count.was;
      le_modes = (omega (arith, c.if-modes-eq0.false), c.if-modes-gt4.false);
      modes_in_bounds = c.if-sequence-modes.false;
    }

pub returns-in_err-count : goal.returns-in_err-count
returns-in_err-count c =
    let args = c.args in
    rw (handed_on c.from_residual.ensures)
    (bad_terms 4 args.modes args.terms.now args.sequence.now c.if-modes-eq0.false c.if-modes-gt4.false _ (sym c.check_terms.ensures.answer ∙ c.in_err-count.was))

pub returns : goal.returns
returns c =
    let args = c.args in
    let found = c.find.ensures in
    finds 4 args.modes args.terms.now args.sequence.now c.if-modes-eq0.false c.if-modes-gt4.false c.in_ok-count.count (sym c.check_terms.ensures.answer ∙ c.in_ok-count.was) c.if-sequence-modes.false _ _ (ap Ok found.value) found.sequence_after
