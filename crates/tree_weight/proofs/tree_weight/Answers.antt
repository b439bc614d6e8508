-- Each return is one arm of the definition, by what the tree's check and the terms' check answered.
use Rattle.std.specs.Prelude.{Ok}
use mathlib.Core.Path.{◌∙◌, sym, ap}
use Rattle.refusal.proofs.Told.{tells, handed_on}
use Rattle.terms.proofs.GoodTerms.{accepted}
use Rattle.tree_weight.specs.Weight.{tree_weighed, weighed_tree, weighed_terms}
use Rattle.tree.proofs.AcceptedParts.{accepted_parts}
use Rattle.tree_weight.proofs.tree_weight.Goals as goal

pub accepted_weight-requires : goal.accepted_weight-requires
accepted_weight-requires c =
    let tree = c.args.tree.now in
    let terms = c.args.terms.now in
    let told = sym c.check_tree.ensures.answer ∙ c.in_ok-check_tree.was in
    let counted = sym c.check_terms.ensures.answer ∙ c.in_ok-count.was in
    let parts = accepted_parts 256 c.args.modes tree told in
    let rows = accepted c.args.modes terms c.in_ok-count.count counted in
    record {
      tree_len = (parts.whole, parts.few);
      good_rows = record { few = rows.at_most; held = rows.given.held; good = rows.good };
    }

pub returns-in_err-check_tree : goal.returns-in_err-check_tree
unfolding tree_weighed weighed_tree
returns-in_err-check_tree c =
    tells (rw (sym c.check_tree.ensures.answer ∙ c.in_err-check_tree.was) (handed_on c.from_residual.ensures))

pub returns-in_err-count : goal.returns-in_err-count
unfolding tree_weighed weighed_tree weighed_terms
returns-in_err-count c =
    let told = sym c.check_tree.ensures.answer ∙ c.in_ok-check_tree.was in
    tells (rw (told, sym c.check_terms.ensures.answer ∙ c.in_err-count.was) (handed_on c.from_residual-in_err-count.ensures))

pub returns : goal.returns
unfolding tree_weighed weighed_tree weighed_terms
returns c =
    let told = sym c.check_tree.ensures.answer ∙ c.in_ok-check_tree.was in
    tells (rw (told, sym c.check_terms.ensures.answer ∙ c.in_ok-count.was) (ap Ok c.accepted_weight.ensures))
