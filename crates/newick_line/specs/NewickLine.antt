-- The program `newick`: it reads what `hatt` reads and prints the tree's Newick line, or the refusal as `hatt` does.
use Rattle.std.specs.Prelude.{◌≡◌, List, [], ◌++◌, ℕ}
use Rattle.refusal.specs.declared.Refusal.TheVariants.{Room}
use Rattle.fields.specs.Texts.{spelt}
use Rattle.newick.specs.Writing.{newick_text}
use Rattle.journal.specs.Resuming.{Outcome}
use Rattle.terms.specs.declared.rules.Rule.TheVariants.{Published}
use Rattle.terms_text.specs.Jobs.{request}
use Rattle.text.specs.Running.{Rooms, program_rooms, ran}
use Rattle.text.specs.Output.{refusal_text}
use Rattle.ran_tree.specs.Printing.{tree_printed}

-- The line of a tree: its text, and LF.
unfoldable pub newick_line : ℕ → List ℕ → List ℕ
newick_line modes table = newick_text modes table ++ spelt "\n"

-- What a run prints as: the line of its tree. Every such tree is accepted (W-212), so no refusal is printed for it.
unfoldable pub newick_printed : Outcome → List ℕ
newick_printed outcome = tree_printed newick_line outcome

-- The program's answer to a text, by the published rule, in these rooms.
unfoldable pub newick_answer_text : Rooms → List ℕ → List ℕ
newick_answer_text rooms bytes = newick_printed (ran rooms (request Published bytes) [])

-- 5 is never printed here either: any such tree's line has room.
abbrev pub LineSuffices : Type 0
LineSuffices = (bytes : List ℕ) → newick_answer_text program_rooms bytes ≡ refusal_text Room → ⊥
