-- A tree's line is no refusal's, and no run is refused with 5: `newick` never prints it.
use mathlib.Core.Path.{◌≡◌, refl, ap}
use mathlib.Core.List.{List, [], ◌∷◌, ◌++◌}
use Prim.Native.Nat.{ℕ, suc}
use native.Mathlib.Omega.{arith}
use lib.ListN.{get_or}
use Rattle.refusal.specs.declared.Refusal.TheVariants.{Room}
use Rattle.fields.specs.Texts.{spelt}
use Rattle.fields.specs.Fields.{tabbed}
use Rattle.terms.specs.declared.rules.Rule.TheVariants.{Published}
use Rattle.terms_text.specs.Jobs.{request}
use Rattle.tree.specs.OneTree.{root_of}
use Rattle.tree.specs.Laying.{modes_in, table_of}
use Rattle.newick.specs.Grammar.{Shape, leaf, none, node, spelled}
use Rattle.newick.specs.Writing.{newick_text, shape_under}
use Rattle.journal.specs.Resuming.{Outcome, done, refuses}
use Rattle.text.specs.Running.{program_rooms, ran}
use Rattle.text.specs.Output.{line_of, refusal_text}
use Rattle.text.proofs.RoomSuffices.{refusal_five, number_in, ran_never}
use Rattle.ran_tree.specs.Printing.{tree_printed}
use Rattle.newick_line.specs.NewickLine.{newick_line, newick_printed, newick_answer_text, LineSuffices}

-- A tree's text begins otherwise than a refusal's.
first_byte : (shape : Shape) (rest more : List ℕ) → get_or ((spelled shape ++ rest) ++ more) 0 0 ≡ 114 → ⊥
unfolding spelled
first_byte (leaf number) rest more e = omega arith
first_byte none rest more e = omega arith
first_byte (node x y z label) rest more e = omega arith

-- The theorem: 5 is never printed.
pub line_suffices : LineSuffices
unfolding newick_answer_text newick_printed tree_printed newick_line newick_text number_in refusal_text line_of tabbed
line_suffices bytes = go (ran program_rooms (request Published bytes) []) refl
  where
    go : (end : Outcome) → ran program_rooms (request Published bytes) [] ≡ end → newick_printed end ≡ refusal_text Room → ⊥
    go (done ending) f e =
        let modes = modes_in ending.rows in
        let table = table_of ending.rows in
        first_byte (shape_under modes table (suc modes) (root_of modes table)) (59 ∷ []) (spelt "\n") (ap (λ text. get_or text 0 0) e)
    go (refuses refusal) f e = ran_never (request Published bytes) [] (rw f (refusal_five refusal e))
