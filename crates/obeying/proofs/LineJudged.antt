-- A line judged: what each test refuses, and what a line that is to be obeyed has said.
use Rattle.std.specs.Prelude.{Err, None, Ok, Option, Result, Some}
use mathlib.Core.Path.{◌≡◌, refl}
use mathlib.Core.Bool.{Bool, true, false, cond, not}
use mathlib.Core.List.{List}
use Prim.Native.Nat.{ℕ, ◌<◌, ◌≤◌}
use native.Mathlib.Omega.{arith}
use borrow.Author.Tests.{eq-eqb, ne_eqb, eqb-true, lt-ltb, le-ltb, ltb-true}
use lib.Dec.{eqb, ltb}
use lib.ListN.{length}
use Rattle.refusal.specs.declared.Refusal.{Refusal}
use Rattle.refusal.specs.declared.Refusal.TheVariants.{
  LineForm,
  StepNotNext,
  ChildNotOpen,
  NotLawful,
  WeightUntrue,
  LineAfterLast,
}
use Rattle.entities.specs.declared.Triple.{Triple}
use Rattle.terms.specs.Job.{Job}
use Rattle.history.specs.Lawful.{Lawful, three_open, paired}
use Rattle.history.specs.computed.Pairs.{is_lawful}
use Rattle.history.specs.Choice.{weight_in}
use Rattle.history.proofs.LawfulTest.{test_lawful}
use Rattle.obeying.specs.declared.merge_line.MergeLine.{MergeLine}
use Rattle.obeying.specs.Obeying.{line_said, line_after, judged_merge, judged_form, judged_line}

module _ (job : Job) (history : List Triple) (said : MergeLine) where
  pub not_next : (said.step ≡ length history → ⊥) → Err (StepNotNext (line_after history)) ≡ judged_merge job history said
  unfolding judged_merge
  not_next other = rw (ne_eqb _ _ other)

  module _ (next : said.step ≡ length history) where
    pub not_open : three_open job.modes history said.triple ≡ false → Err (ChildNotOpen (line_after history)) ≡ judged_merge job history said
    unfolding judged_merge
    not_open e = rw (eq-eqb _ _ next, e)

    module _ (opens : three_open job.modes history said.triple ≡ true) where
      pub not_paired : paired job.modes history said.triple ≡ false → Err (NotLawful (line_after history)) ≡ judged_merge job history said
      unfolding judged_merge
      not_paired e = rw (eq-eqb _ _ next, opens, e)

      module _ (pairs : paired job.modes history said.triple ≡ true) where
        pub not_weighed : (said.weight ≡ weight_in job history said.triple → ⊥)
            → Err (WeightUntrue (line_after history)) ≡ judged_merge job history said
        unfolding judged_merge
        not_weighed other = rw (eq-eqb _ _ next, opens, pairs, ne_eqb _ _ other)

        pub all_passed : said.weight ≡ weight_in job history said.triple → Ok said ≡ judged_merge job history said
        unfolding judged_merge
        all_passed weighs = rw (eq-eqb _ _ next, opens, pairs, eq-eqb _ _ weighs)

module _ (by_hand : Bool) (job : Job) (history : List Triple) (bytes : List ℕ) where
  pub after_last : job.modes ≤ length history → Err (LineAfterLast (line_after history)) ≡ judged_line by_hand job history bytes
  unfolding judged_line
  after_last h = rw (le-ltb _ _ h)

  module _ (left : length history < job.modes) where
    pub line_broken : line_said by_hand job history bytes ≡ None → Err (LineForm (line_after history)) ≡ judged_line by_hand job history bytes
    unfolding judged_line judged_form
    line_broken e = rw (lt-ltb _ _ left, e)

    pub line_says : (said : MergeLine) → line_said by_hand job history bytes ≡ Some said
        → judged_merge job history said ≡ judged_line by_hand job history bytes
    unfolding judged_line judged_form
    line_says said e = rw (lt-ltb _ _ left, e)

-- What a line that is to be obeyed says: the next step, a lawful triple and the weight that the triple has.
pub record SaysNext (by_hand : Bool) (job : Job) (history : List Triple) (bytes : List ℕ) (said : MergeLine) : Type 0 where
  pub left : length history < job.modes
  pub reads : line_said by_hand job history bytes ≡ Some said
  pub step_is : said.step ≡ length history
  pub lawful : Lawful job.modes history said.triple
  pub weight_is : said.weight ≡ weight_in job history said.triple

not_obeyed : (refusal : Refusal) (said : MergeLine) → Err refusal ≡ Ok said → ⊥
not_obeyed refusal said e = let z : ◌≡◌ {A = ℕ} 0 1 = cc in absurd (omega arith)

-- Where a test decides between a refusal and going on, and the line is to be obeyed, the test passed.
passed : (test : Bool) (refusal : Refusal) (on : Result MergeLine Refusal) (said : MergeLine) → cond (not test) (Err refusal) on ≡ Ok said
    → (test ≡ true) × (on ≡ Ok said)
passed true refusal on said e = (refl, e)
passed false refusal on said e = absurd (not_obeyed refusal said e)

module _ (by_hand : Bool) (job : Job) (history : List Triple) (said : MergeLine) where
  module _ (bytes : List ℕ) (left : length history < job.modes) where
    merge_next : (read : MergeLine) → line_said by_hand job history bytes ≡ Some read → judged_merge job history read ≡ Ok said
        → SaysNext by_hand job history bytes said
    unfolding judged_merge is_lawful
    merge_next read reads e =
        let step = passed (eqb read.step (length history)) (StepNotNext (line_after history)) _ said e in
        let opens = passed (three_open job.modes history read.triple) (ChildNotOpen (line_after history)) _ said step.1 in
        let pairs = passed (paired job.modes history read.triple) (NotLawful (line_after history)) _ said opens.1 in
        let weighs = passed (eqb read.weight (weight_in job history read.triple)) (WeightUntrue (line_after history)) _ said pairs.1 in
        let same : read ≡ said = cc in
        rw (← same)
        (record {
          left = left;
          reads = reads;
          step_is = eqb-true _ _ step.0;
          lawful = test_lawful job.modes history read.triple (rw (opens.0, pairs.0));
          weight_is = eqb-true _ _ weighs.0;
        })

    form_next : (read : Option MergeLine) → line_said by_hand job history bytes ≡ read → judged_form job history read ≡ Ok said → SaysNext by_hand job history bytes said
    unfolding judged_form
    form_next (Some read) reads e = merge_next read reads e
    form_next None reads e = absurd (not_obeyed (LineForm (line_after history)) said e)

  pub says_next : (bytes : List ℕ) → judged_line by_hand job history bytes ≡ Ok said → SaysNext by_hand job history bytes said
  unfolding judged_line
  says_next bytes e = go (ltb (length history) job.modes) refl
    where
      go : (test : Bool) → ltb (length history) job.modes ≡ test → SaysNext by_hand job history bytes said
      go true h = form_next bytes (ltb-true _ _ h) (line_said by_hand job history bytes) refl (rw h at e)
      go false h = absurd (not_obeyed (LineAfterLast (line_after history)) said (rw h at e))
