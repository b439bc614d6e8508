-- What writing a tree's strings left in the bytes, as it is printed.
use Rattle.std.specs.Prelude.{Err, Ok, Result}
use mathlib.Core.Path.{◌≡◌, ap, ◌∙◌}
use mathlib.Core.List.{List, []}
use Prim.Native.Nat.{ℕ}
use lib.ListN.{length}
use Rattle.refusal.specs.declared.Refusal.{Refusal}
use Rattle.entities.specs.Limits.{most_modes}
use Rattle.tree.specs.Check.{tree_checked}
use Rattle.tree.specs.Writing.{tree_written, text_after}
use Rattle.tree.proofs.WritingAnswered.{written_fits}
use Rattle.strings.specs.Text.{strings_text, strings_written}
use Rattle.nodes_text.specs.TreeInput.{tree_said}
use Rattle.text.specs.Output.{refusal_text}
use Rattle.text.specs.code.Printing.{Puts}
use Rattle.tree_text.specs.code.Reading.{ReadsTree}
use Rattle.terms_text.specs.Jobs.{Request}
use Rattle.text.specs.Running.{program_rooms, ran}
use Rattle.ran_tree.specs.Printing.{written_printed}
use Rattle.ran_tree.specs.code.Ending.{EndsIn}
use Rattle.ran_tree.proofs.TreeEnds.{tree_refused}
use Rattle.strings_text.specs.Printing.{strings_room, table_strings, strings_as, tree_strings_text, hatt_strings_text}
use Rattle.strings_text.specs.code.Reading.{read_strings}
use Rattle.strings_text.proofs.StringsSuffice.{run_strings}

module _ (modes : ℕ) (table out : List ℕ) (room : length out ≡ strings_room) where
  abbrev text : List ℕ
  text = strings_text modes table

  abbrev means : Result ℕ Refusal
  means = strings_written most_modes modes table (length out)

  as_room : means ≡ strings_written most_modes modes table strings_room
  as_room = ap (strings_written most_modes modes table) room

  -- A text that was written is the answer.
  pub written_strings : (count : ℕ) (after : List ℕ) → Ok count ≡ means → after ≡ text_after (Ok count) text out
      → Puts (table_strings most_modes modes table) out after count
  unfolding text_after table_strings written_printed strings_written tree_written
  written_strings count after e f =
      let fits = written_fits (tree_checked most_modes modes table) text (length out) count e in
      let answer : text ≡ table_strings most_modes modes table = ap (λ r. written_printed r text) (e ∙ as_room) in
      let puts : Puts text out after count = record { count = fits.exact; fits = fits.within; bytes = f } in
      rw answer at puts

  -- A refusal leaves nothing, and is printed over that.
  pub refused_strings : (refusal : Refusal) (after : List ℕ) → Err refusal ≡ means → after ≡ text_after (Err refusal) text out
      → {last : List ℕ} {r : ℕ} → Puts (refusal_text refusal) after last r → Puts (table_strings most_modes modes table) out last r
  unfolding text_after table_strings written_printed
  refused_strings refusal after e f puts =
      let answer : refusal_text refusal ≡ table_strings most_modes modes table = ap (λ r. written_printed r text) (e ∙ as_room) in
      rw (f, answer) at puts

-- What a tree's text was read to say is printed.
module _ (tree rows table : List ℕ) where
  pub strings_read : (read : Result ℕ Refusal) → ReadsTree most_modes (tree_said most_modes tree) rows table read
      → read_strings read table ≡ tree_strings_text most_modes tree
  unfolding read_strings tree_strings_text strings_as
  strings_read (Ok count) known = rw (known.says, known.laid, known.exact)
  strings_read (Err why) known = rw (known.1, ← known.0)

-- And so is the tree that a run ends in.
module _ (asks : Request) (table : List ℕ) where
  pub strings_run : (read : Result ℕ Refusal) → EndsIn most_modes (ran program_rooms asks []) table read → read_strings read table ≡ hatt_strings_text program_rooms asks
  unfolding read_strings
  strings_run (Ok modes) known = known.prints (table_strings most_modes) ∙ run_strings asks
  strings_run (Err why) known = tree_refused known (table_strings most_modes) ∙ run_strings asks
