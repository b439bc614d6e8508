-- A tree's text written with a byte's room behind it, and the line that it is printed as.
use Rattle.std.specs.Prelude.{Err, Ok, Result}
use mathlib.Core.Path.{◌≡◌, ap}
use mathlib.Core.List.{List, [], ◌++◌}
use Prim.Native.Nat.{ℕ, ◌+◌, ◌*◌, ◌<◌, ◌≤◌}
use native.Mathlib.Omega.{arith}
use lib.ListN.{length, take, drop, set, length-append, take-append-drop}
use Rattle.lists.proofs.Behind.{written_one}
use Rattle.refusal.specs.declared.Refusal.{Refusal}
use Rattle.fields.specs.Texts.{spelt}
use Rattle.tree.specs.Check.{tree_checked}
use Rattle.tree.specs.Writing.{tree_written, text_after}
use Rattle.tree.proofs.WritingAnswered.{Fits, written_fits}
use Rattle.newick.specs.Writing.{newick_text}
use Rattle.newick.specs.Calls.{newick_written}
use Rattle.terms.specs.declared.rules.Rule.TheVariants.{Published}
use Rattle.text.specs.Running.{Rooms}
use Rattle.text.specs.Output.{refusal_text}
use Rattle.newick_line.specs.NewickLine.{newick_line, newick_printed, newick_answer_text}
use Rattle.newick_line.specs.code.Lines.{table_line}
use Rattle.text.specs.code.Printing.{Puts}
use Rattle.text.proofs.PrintedLines.{front_over}
use Rattle.ran_tree.specs.Printing.{written_printed}
use Rattle.text.proofs.LongInput.{cut_runs}

module _ (most modes : ℕ) (table : List ℕ) (room : ℕ) where
  abbrev text : List ℕ
  text = newick_text modes table

  abbrev means : Result ℕ Refusal
  means = newick_written most modes table room

  pub line_fits : (count : ℕ) → Ok count ≡ means → Fits text room count
  unfolding newick_written tree_written
  line_fits count e = written_fits (tree_checked most modes table) text room count e

  module _ (out : List ℕ) where
    -- Written over the front of what is lent, the text is written over all of it.
    pub after_front : room ≤ length out → (r : Result ℕ Refusal) → r ≡ means → text_after r text (take room out) ++ drop room out ≡ text_after r text out
    unfolding text_after
    after_front k (Ok count) e = front_over text out room (line_fits count e).within k
    after_front k (Err refusal) e = take-append-drop room out

    -- LF behind the text makes the line.
    pub written_line : (count : ℕ) (after : List ℕ) → Ok count ≡ means → after ≡ text_after (Ok count) text out → room < length out
        → Puts (table_line most room modes table) out (set after count 10) (count + 1)
    unfolding text_after table_line newick_line written_printed
    written_line count after e f k =
        let fits = line_fits count e in
        let size = length-append text (spelt "\n") in
        let line : text ++ spelt "\n" ≡ table_line most room modes table = ap (λ r. written_printed r (text ++ spelt "\n")) e in
        let puts : Puts (text ++ spelt "\n") out (set after count 10) (count + 1) =
        record {
          count = omega (arith, fits.exact);
          fits = omega (arith, fits.within);
          bytes = rw f (written_one 0 text out count 10 (omega (arith, fits.exact)) (omega (arith, fits.exact, fits.within)));
        } in
        rw line at puts

    -- A refusal leaves nothing, and is printed over that.
    pub refused_line : (refusal : Refusal) (after : List ℕ) → Err refusal ≡ means → after ≡ text_after (Err refusal) text out
        → {last : List ℕ} {r : ℕ} → Puts (refusal_text refusal) after last r → Puts (table_line most room modes table) out last r
    unfolding text_after table_line newick_line written_printed
    refused_line refusal after e f puts =
        let line : refusal_text refusal ≡ table_line most room modes table = ap (λ r. written_printed r (text ++ spelt "\n")) e in
        rw (f, line) at puts

-- A text cut behind the longest well-formed one is answered as the whole text is.
pub cut_newick : (rooms : Rooms) (cut : ℕ) (text : List ℕ) → 12 + 47 * rooms.terms < cut
    → newick_answer_text rooms (take cut text) ≡ newick_answer_text rooms text
unfolding newick_answer_text
cut_newick rooms cut text h = ap newick_printed (cut_runs rooms Published cut text [] h)
