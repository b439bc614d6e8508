-- A row that is gone has no line, and one that is there has its own.
use mathlib.Core.Path.{sym}
use native.Mathlib.Omega.{arith}
use Rattle.lists.proofs.Behind.{nothing_written}
use Rattle.letters_text.proofs.PuttingLetters.{gone_line, there_line}
use Rattle.letters_text.proofs.row_lines.put_row.Goals as goal

pub returns-then-term-eq0 : goal.returns-then-term-eq0
returns-then-term-eq0 c =
    let args = c.args in
    let none = gone_line args.triple args.place args.term.now c.if-term-eq0.true in
    record {
      value = rw none (omega arith, omega arith);
      out_after = rw none (sym (nothing_written args.at args.out.now));
    }

pub returns : goal.returns
returns c =
    let args = c.args in
    let put = c.put_letter in
    let line = there_line args.triple args.place args.term.now c.if-term-eq0.false in
    record {
      value = rw (line, ← c.qubit_term_weight.ensures) put.ensures.value;
      out_after = rw (line, ← c.qubit_term_weight.ensures) put.ensures.out_after;
    }
