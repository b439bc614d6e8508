-- "HATT and every accepted resume": a call that is done has made n lawful merges, and its rows and weight are theirs.
use Rattle.std.specs.Prelude.{Ok}
use mathlib.Core.Path.{◌≡◌, ap, ◌∙◌}
use mathlib.Core.Bool.{true}
use mathlib.Core.List.{List}
use Prim.Native.Nat.{ℕ, ◌*◌, ◌≤◌}
use borrow.Author.Tests.{leb-true}
use lib.Dec.{leb, ltb}
use Rattle.lists.specs.Members.{every}
use Rattle.lists.proofs.Tests.{both}
use Rattle.lists.proofs.Every.{every_also}
use Rattle.entities.specs.Codes.{absent}
use Rattle.entities.specs.Limits.{row_width}
use Rattle.entities.specs.declared.Triple.{Triple}
use Rattle.terms.specs.declared.rules.Rule.{Rule}
use Rattle.terms.specs.Rules.{rule_of}
use Rattle.terms.specs.Job.{job_of}
use Rattle.terms.specs.Rows.{terms_of}
use Rattle.terms.specs.Good.{modes_good, good_term, checked}
use Rattle.terms.proofs.RowSteps.{length_terms}
use Rattle.terms.proofs.GoodTerms.{good_term_says, accepted}
use Rattle.history.specs.Run.{run_weight}
use Rattle.history.specs.Flatpack.{flatpack}
use Rattle.history.specs.computed.Greedy.{finished}
use Rattle.history.proofs.RunLawful.{finished_lawful, finished_length}
use Rattle.obeying.proofs.Obedience.{obedient}
use Rattle.journal.specs.Resuming.{Ending, done, ending, Rooms, resumed}
use Rattle.journal.proofs.CallDone.{call_done}
use Rattle.tree_weight.specs.Weight.{tree_weight, weighed_terms, weighed_tree, tree_weighed}
use Rattle.tree_weight.specs.CountedOnce.{DifferentOperators}
use Rattle.finished.specs.Finished.{AllMerged, tree_of, EveryFinish}
use Rattle.finished.specs.GreedyBound.{indices_below, AtMostTree, EveryCallAtMostTree}
use Rattle.finished.proofs.FinishedTrees.{lawful_finishes}
use Rattle.finished.proofs.GreedyBound.{greedy_at_most_tree}

pub record Finishes (modes : ℕ) (rule : Rule) (numbers : List ℕ) (part : Ending) : Type 0 where
  pub count : ℕ
  pub terms_are : checked modes numbers ≡ Ok count
  pub history : List Triple
  pub merges : AllMerged modes history
  pub count_is : part.count ≡ count
  pub rows_are : part.rows ≡ flatpack modes history
  pub weight_is : part.weight ≡ run_weight (job_of modes rule count numbers) history

pub call_finishes : (rooms : Rooms) (modes rule : ℕ) (numbers bytes : List ℕ) (part : Ending) → resumed rooms modes rule numbers bytes ≡ done part
    → 3 * modes ≤ absent → Finishes modes (rule_of rule) numbers part
unfolding modes_good ending
call_finishes rooms modes rule numbers bytes part says few =
    let known = call_done rooms modes rule numbers bytes part says in
    let job = job_of modes (rule_of rule) known.count numbers in
    let told = obedient job bytes known.history known.obeys in
    let merges : AllMerged modes (finished job known.history) = record {
      lawful = finished_lawful job known.history told.lawful told.within;
      all = finished_length job known.history told.lawful told.within;
      some_modes = leb-true 1 modes (both (leb 1 modes) (leb modes rooms.modes) known.modes_are).0;
      few_modes = few;
    } in
    record {
      count = known.count;
      terms_are = known.terms_are;
      history = finished job known.history;
      merges = merges;
      count_is = ap (λ p. p.count) known.ends ∙ length_terms row_width known.count numbers;
      rows_are = ap (λ p. p.rows) known.ends;
      weight_is = ap (λ p. p.weight) known.ends;
    }

pub every_finish : EveryFinish
every_finish rooms most modes rule numbers bytes part says few small =
    let known = call_finishes rooms modes rule numbers bytes part says small in
    rw known.rows_are (lawful_finishes most modes known.history known.merges few)

-- Terms that a call took have their indices below 2n.
taken_below : (modes : ℕ) (rule : Rule) (count : ℕ) (numbers : List ℕ) → checked modes numbers ≡ Ok count → indices_below (job_of modes rule count numbers) ≡ true
taken_below modes rule count numbers good =
    every_also (good_term (2 * modes)) (every (λ index. ltb index (2 * modes)))
    (λ term e. (good_term_says (2 * modes) term e).below) (terms_of row_width count numbers) (accepted modes numbers count good).good

-- Rows and a weight that are those of n lawful merges.
merges_at_most : (most modes : ℕ) (rule : Rule) (count : ℕ) (numbers rows : List ℕ) (greedy : ℕ) (history : List Triple) → AllMerged modes history → modes ≤ most
    → checked modes numbers ≡ Ok count → DifferentOperators modes (terms_of row_width count numbers)
    → rows ≡ flatpack modes history → greedy ≡ run_weight (job_of modes rule count numbers) history → AtMostTree most modes rows numbers greedy
unfolding tree_weighed weighed_tree weighed_terms
merges_at_most most modes rule count numbers rows greedy history merges few good different rows_are weight_is =
    let job = job_of modes rule count numbers in
    let tree = lawful_finishes most modes history merges few in
    record {
      weight = tree_weight modes (tree_of modes history) job.terms;
      weighed = rw rows_are (rw (tree.accepted, good));
      at_most = rw weight_is (greedy_at_most_tree job history merges (taken_below modes rule count numbers good) different);
    }

pub every_call_at_most_tree : EveryCallAtMostTree
every_call_at_most_tree rooms most modes rule numbers bytes part says few small different =
    let known = call_finishes rooms modes rule numbers bytes part says small in
    merges_at_most most modes (rule_of rule) known.count numbers part.rows part.weight known.history known.merges few known.terms_are
    (rw known.count_is at different) known.rows_are known.weight_is
