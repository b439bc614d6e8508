-- Each return is one arm of the definition, by what the tree's check answered.
use mathlib.Core.Path.{◌∙◌, sym}
use Rattle.refusal.proofs.Told.{tells, handed_on}
use Rattle.tree.specs.Writing.{written_as, tree_written, text_after}
use Rattle.strings.specs.Text.{strings_written}
use Rattle.strings.proofs.write_strings.Goals as goal

pub returns-in_err-check_tree : goal.returns-in_err-check_tree
unfolding strings_written tree_written written_as text_after
returns-in_err-check_tree c =
    let refused = handed_on c.from_residual.ensures in
    record { tells = tells (rw (sym c.check_tree.ensures.answer ∙ c.in_err-check_tree.was) refused); text_after = rw refused }

pub returns-clause-tells : goal.returns-clause-tells
unfolding strings_written tree_written
returns-clause-tells c =
    tells (rw (sym c.check_tree.ensures.answer ∙ c.in_ok-check_tree.was) c.put_strings.ensures.value)
