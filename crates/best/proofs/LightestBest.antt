-- The first of the lightest sequences is the best there is, and there is one; greedy's tree is never below it.
use Rattle.best.specs.declared.Least.{Least}
use Rattle.std.specs.Result.{result_unwrap_or}
use Rattle.std.specs.Prelude.{Err, Ok, Result}
use mathlib.Core.Path.{◌≡◌, refl, ap, ◌∙◌, sym, subst}
use mathlib.Core.Bool.{Bool, true, false, cond}
use mathlib.Core.List.{List, []}
use mathlib.Core.Logic.{⊎_elim}
use Prim.Native.Nat.{ℕ, ◌+◌, ◌-◌, ◌*◌, ◌<◌, ◌≤◌}
use native.Mathlib.Omega.{arith}
use borrow.Author.Tests.{ltb-false, le-ltb, ltb-true}
use lib.Dec.{eqb, ltb}
use lib.ListN.{length, drop}
use lib.Seq.{drop-drop}
use Rattle.lists.specs.Least.{lighter, least_of}
use Rattle.lists.specs.Members.{keep}
use Rattle.lists.proofs.Least.{lighter_ranks, best_of_first, FirstBest}
use Rattle.refusal.specs.declared.Refusal.{Refusal}
use Rattle.refusal.specs.declared.Refusal.TheVariants.{Modes, Room, TooManyToTry}
use Rattle.entities.specs.Limits.{row_width}
use Rattle.entities.specs.declared.Triple.{Triple}
use Rattle.terms.specs.Good.{checked}
use Rattle.history.specs.History.{merge_of, history_before}
use Rattle.history.proofs.HistoryBefore.{before_next}
use Rattle.history.specs.Flatpack.{flatpack}
use Rattle.finished.specs.Finished.{AllMerged, tree_of}
use Rattle.finished.specs.GreedyBound.{AtMostTree}
use Rattle.finished.proofs.FinishedTrees.{lawful_finishes}
use Rattle.finished.proofs.CallsFinish.{call_finishes}
use Rattle.tree_weight.specs.Weight.{tree_weight, weighed_terms, weighed_tree, tree_weighed}
use Rattle.terms.specs.Rows.{terms_of}
use Rattle.best.specs.Sequences.{Before, Earlier, sequences}
use Rattle.best.specs.Best.{sequence_weight, Best, OneBest, GreedyNotBelow}
use Rattle.best.specs.computed.Lightest.{lightest, least_weight, how_many}
use Rattle.best.specs.Call.{terms_given, found_among, best_found, FoundBest}
use Rattle.best.proofs.SequencesRight.{sequences_right}
use Rattle.best.proofs.SequenceNumbers.{some_sequence, sequences_counted}

pub sequences_there : (modes : ℕ) → 0 < length (sequences modes)
sequences_there modes = rw (sequences_counted modes) (some_sequence modes)

module _ (modes : ℕ) (terms : List (List ℕ)) where
  first_lightest : FirstBest (lighter (sequence_weight modes terms)) Earlier (sequences modes) (lightest modes terms)
  unfolding lightest least_of
  first_lightest =
      best_of_first (lighter (sequence_weight modes terms)) (lighter_ranks (sequence_weight modes terms)) Earlier [] (sequences modes)
      (sequences_there modes) (sequences_right modes).ascending

  pub lightest_best : Best modes terms (least_weight modes terms) (lightest modes terms) (how_many modes terms)
  unfolding least_weight how_many lighter
  lightest_best =
      let found = first_lightest in
      let right = sequences_right modes in
      let member = right.no_other (lightest modes terms) found.member in
      record {
        lawful = member.0;
        all = member.1;
        weighs = refl;
        no_lighter = λ other lawful all. ltb-false _ _ (found.none_better other (right.each other lawful all));
        soonest = λ other lawful all same. found.first other (right.each other lawful all)
            (le-ltb (sequence_weight modes terms (lightest modes terms)) (sequence_weight modes terms other) (omega arith));
        counted = refl;
      }

-- Of two triples not both come first, and none comes before itself.
not_both : (a b : Triple) → Before a b → Before b a → ⊥
not_both a b h k =
    ⊎_elim (λ x. ⊎_elim (λ w. omega arith) (λ w. omega (arith, w.0)) k)
    (λ x. ⊎_elim (λ w. omega (arith, x.0))
    (λ w. ⊎_elim (λ y. ⊎_elim (λ v. omega arith) (λ v. omega (arith, v.0)) w.1)
    (λ y. ⊎_elim (λ v. omega (arith, y.0)) (λ v. omega (arith, y.1, v.1)) w.1) x.1) k)
    h

-- Merges that are the same before a step are the same at each step before it.
same_earlier : (p q : List Triple) (step before : ℕ) → before ≤ length p → before ≤ length q → history_before p before ≡ history_before q before
    → step < before → merge_of p step ≡ merge_of q step
same_earlier p q step before in_p in_q same h =
    let down : (l : List Triple) → before ≤ length l → history_before l (step + 1) ≡ drop (before - (step + 1)) (history_before l before) =
    λ l k.
    (let e : length l - before + (before - (step + 1)) ≡ length l - (step + 1) = omega arith in
    sym (drop-drop (before - (step + 1)) (length l - before) l ∙ ap (λ n. drop n l) e)) in
    let next = down p in_p ∙ ap (drop (before - (step + 1))) same ∙ sym (down q in_q) in
    let one = before_next p step (omega arith) in
    let other = before_next q step (omega arith) in
    cc

-- Of two sequences not both are earlier.
not_both_earlier : (p q : List Triple) → Earlier p q → Earlier q p → ⊥
not_both_earlier p q one other = go (ltb one.step other.step) refl (ltb other.step one.step) refl
  where
    go : (b : Bool) → ltb one.step other.step ≡ b → (c : Bool) → ltb other.step one.step ≡ c → ⊥
    go true e c f =
        let h = ltb-true one.step other.step e in
        let same = same_earlier p q one.step other.step (omega (arith, other.within_other)) (omega (arith, other.within_one)) (sym other.same_before) h in
        not_both (merge_of q one.step) (merge_of q one.step) (rw same at one.differs) (rw same at one.differs)
    go false e true f =
        let h = ltb-true other.step one.step f in
        let same = same_earlier p q other.step one.step (omega (arith, one.within_one)) (omega (arith, one.within_other)) one.same_before h in
        not_both (merge_of q other.step) (merge_of q other.step) (rw same at other.differs) (rw same at other.differs)
    go false e false f =
        let at : one.step ≡ other.step = omega (arith, ltb-false one.step other.step e, ltb-false other.step one.step f) in
        not_both (merge_of p other.step) (merge_of q other.step) (rw at at one.differs) other.differs

pub one_best : OneBest
one_best modes terms least other_least first other_first reached other_reached one other =
    let least_is : least ≡ other_least =
    omega (arith, one.no_lighter other_first other.lawful other.all, other.weighs, other.no_lighter first one.lawful one.all, one.weighs) in
    let first_is : first ≡ other_first =
    ⊎_elim (λ e. sym e)
    (λ sooner.
    ⊎_elim (λ e. e) (λ later. absurd (not_both_earlier first other_first sooner later))
    (other.soonest first one.lawful one.all (one.weighs ∙ least_is)))
    (one.soonest other_first other.lawful other.all (other.weighs ∙ sym least_is)) in
    record {
      same_least = least_is;
      same_first = first_is;
      same_reached =
          one.counted
          ∙ ap (λ n. length (keep (λ history. eqb (sequence_weight modes terms history) n) (sequences modes))) least_is
          ∙ sym other.counted;
    }

-- What a found answer holds: the other answers are refusals.
module _ (modes : ℕ) (numbers : List ℕ) (room : ℕ) (least : Least) where
  abbrev Holds : Type 0
  Holds = (least.weight ≡ least_weight modes (terms_given numbers)) × (least.reached ≡ how_many modes (terms_given numbers))

  found_same : {found : Least} → ◌≡◌ {A = Result Least Refusal} (Ok found) (Ok least) → found ≡ least
  found_same {found} e = ap (λ answer. result_unwrap_or answer found) e

  not_refused : {refusal : Refusal} → ◌≡◌ {A = Result Least Refusal} (Err refusal) (Ok least) → Holds
  not_refused e = let z : ◌≡◌ {A = ℕ} 0 1 = cc in absurd (omega arith)

  among_holds : (check : Result ℕ Refusal) → found_among modes numbers room check ≡ Ok least → Holds
  unfolding found_among
  among_holds (Ok count) e = go (ltb room (3 * modes)) e
    where
      go : (b : Bool) → cond {A = Result Least Refusal} b (Err Room) (Ok (record { weight = least_weight modes (terms_given numbers); reached = how_many modes (terms_given numbers) })) ≡ Ok least
          → Holds
      go true e = not_refused e
      go false e =
          let same = found_same e in
          (ap (λ (found : Least). found.weight) (sym same), ap (λ (found : Least). found.reached) (sym same))
  among_holds (Err refusal) e = not_refused e

  found_holds : (most : ℕ) → best_found most modes numbers room ≡ Ok least → Holds
  unfolding best_found
  found_holds most e = go (eqb modes 0) (ltb most modes) e
    where
      go : (a b : Bool) → cond a (Err Modes) (cond b (Err TooManyToTry) (found_among modes numbers room (checked modes numbers))) ≡ Ok least
          → Holds
      go true b e = not_refused e
      go false true e = not_refused e
      go false false e = among_holds (checked modes numbers) e

-- And the modes are no more than are gone through.
pub found_few : (most modes : ℕ) (numbers : List ℕ) (room : ℕ) (least : Least) → best_found most modes numbers room ≡ Ok least → modes ≤ most
unfolding best_found
found_few most modes numbers room least e = go (eqb modes 0) refl (ltb most modes) refl e
  where
    never : {refusal : Refusal} → ◌≡◌ {A = Result Least Refusal} (Err refusal) (Ok least) → modes ≤ most
    never f = let z : ◌≡◌ {A = ℕ} 0 1 = cc in absurd (omega arith)

    go : (a : Bool) → eqb modes 0 ≡ a → (b : Bool) → ltb most modes ≡ b
        → cond a (Err Modes) (cond b (Err TooManyToTry) (found_among modes numbers room (checked modes numbers))) ≡ Ok least
        → modes ≤ most
    go true p b q f = never f
    go false p true q f = never f
    go false p false q f = ltb-false most modes q

pub found_best : FoundBest
found_best most modes numbers room least says =
    let held = found_holds modes numbers room least most says in
    rw (held.0, held.1) (lightest_best modes (terms_given numbers))

-- Rows that are those of n lawful merges.
merges_not_below : (most modes count : ℕ) (numbers rows : List ℕ) (history : List Triple) → AllMerged modes history → modes ≤ most
    → checked modes numbers ≡ Ok count → rows ≡ flatpack modes history
    → (least : ℕ) (first : List Triple) (reached : ℕ) → Best modes (terms_of row_width count numbers) least first reached
    → AtMostTree most modes rows numbers least
unfolding tree_weighed weighed_tree weighed_terms sequence_weight
merges_not_below most modes count numbers rows history merges few good rows_are least first reached best =
    let tree = lawful_finishes most modes history merges few in
    record {
      weight = tree_weight modes (tree_of modes history) (terms_of row_width count numbers);
      weighed = rw rows_are (rw (tree.accepted, good));
      at_most = best.no_lighter history merges.lawful merges.all;
    }

pub greedy_not_below : GreedyNotBelow
greedy_not_below rooms most modes rule numbers bytes part says few small least first reached best =
    let known = call_finishes rooms modes rule numbers bytes part says small in
    merges_not_below most modes known.count numbers part.rows known.history known.merges few known.terms_are known.rows_are
    least first reached (subst (λ count. Best modes (terms_of row_width count numbers) least first reached) known.count_is best)
