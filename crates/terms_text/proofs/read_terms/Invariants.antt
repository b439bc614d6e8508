-- The terms passed and the lines ahead give the answer: each way out of a turn is one law.
use Rattle.fields.specs.Lines.{lines}
use Rattle.fields.specs.code.LinesLeft.{lines_left}
use Rattle.terms_text.proofs.TermsAhead.{Passing}
use Rattle.terms_text.proofs.read_terms.Given as goal

abbrev pub invariant-loop-line : goal.invariant-loop-line
invariant-loop-line l = Passing 2048 (lines l.text) l.numbers (lines_left l.line-iterator) l.count
