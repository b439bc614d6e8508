-- The weight of the rows passed and of those ahead is the weight of all.
use mathlib.Core.Path.{◌≡◌, ◌∙◌, sym, ap}
use native.Mathlib.Nat.{zero-add}
use native.Mathlib.Omega.{arith}
use borrow.Author.Rules.{rules}
use Rattle.terms.specs.Letters.{not_none}
use Rattle.terms.specs.Weight.{term_letter, term_weight, weight_of}
use Rattle.terms.proofs.RowSteps.{terms_start, row_room}
use Rattle.terms.proofs.Weighing.{weight_step, weight_end}
use Rattle.terms.proofs.weight.weight.Goals as goal

pub loop-place-preserved : goal.loop-place-preserved
unfolding term_weight
loop-place-preserved c =
    let args = c.args in
    let step = weight_step args.triple args.width args.count c.loop-place.place args.rows.now (omega arith) in
    let letter = c.qubit_term_weight.ensures ∙ ap (term_letter args.triple) c.term_at.ensures in
    let e : c.not_none-sum.result ≡ term_weight args.triple _ = c.not_none-sum.ensures.0 ∙ ap not_none letter in
    omega arith

pub returns : goal.returns
returns c =
    let args = c.args in
    let done = weight_end args.triple args.width args.count c.loop-place.place args.rows.now (omega arith) in
    omega arith
