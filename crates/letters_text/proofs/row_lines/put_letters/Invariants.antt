-- The lines of the rows passed stand at the front; at the end they are all.
use Rattle.letters_text.proofs.PuttingLetters.{PuttingLetters}
use Rattle.letters_text.proofs.row_lines.put_letters.Given as goal

abbrev pub invariant-loop-place : goal.invariant-loop-place
invariant-loop-place l = PuttingLetters l.triple l.count l.rows l.initial.out l.out l.at l.place
