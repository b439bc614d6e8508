-- A row that is gone stands for nothing, if each input row has a term: so the counts that add up with the drops are those of the live rows.
use mathlib.Core.Path.{◌≡◌, refl, ap, ◌∙◌, sym}
use mathlib.Core.Bool.{Bool, true, false, cond, ◌||◌}
use mathlib.Core.List.{List, [], ◌∷◌, ◌++◌}
use Prim.Native.Nat.{ℕ, ◌+◌}
use native.Mathlib.Omega.{arith}
use borrow.Author.Tests.{eqb-true, eq-eqb}
use lib.Dec.{eqb}
use lib.ListN.{length}
use Rattle.lists.specs.Counting.{sum}
use Rattle.lists.specs.Members.{every, keep, some_of, alike}
use Rattle.lists.proofs.Alike.{alike_same}
use Rattle.lists.proofs.Every.{every_cons, every_uncons, every_append, every_mapped}
use Rattle.lists.proofs.Sums.{sum_keep}
use Rattle.lists.proofs.SumsCompared.{sum_same}
use Rattle.entities.specs.declared.Triple.{Triple}
use Rattle.terms.specs.declared.rules.Rule.{Rule}
use Rattle.terms.specs.Counted.{Row, each_once, terms_in, counted}
use Rattle.terms.specs.Job.{Job}
use Rattle.reduction.specs.Reduction.{sorted, rewriting, dropped, is_there}
use Rattle.reduction.specs.Counts.{gone, added, put_behind, rewritten, reduced_behind, counted_reduction}
use Rattle.reduction.proofs.AsTold.{is_there_so}
use Rattle.reduction.proofs.SortedRight.{length_rewriting}
use Rattle.history.specs.History.{next_parent}
use Rattle.history.specs.Drops.{counted_after, drops, LiveAddUp}
use Rattle.history.proofs.DropsAddUp.{add_up}

-- The row has a term, or stands for nothing.
unfoldable there_or_none : Row → Bool
there_or_none row = is_there row.term || eqb row.count 0

abbrev sound : List Row → Type 0
sound rows = every there_or_none rows ≡ true

gone_sound : there_or_none gone ≡ true
unfolding there_or_none gone is_there
gone_sound = refl

-- A count added to a row with the same term: both have a term, or both stand for nothing.
raised_sound : (row : Row) (more : ℕ) → there_or_none row ≡ true → (is_there row.term || eqb more 0) ≡ true
    → there_or_none (record { term = row.term; count = row.count + more }) ≡ true
unfolding there_or_none
raised_sound row more = go (is_there row.term)
  where
    go : (b : Bool) → (b || eqb row.count 0) ≡ true → (b || eqb more 0) ≡ true → (b || eqb (row.count + more) 0) ≡ true
    go true e f = refl
    go false e f = eq-eqb (row.count + more) 0 (omega (arith, eqb-true row.count 0 e, eqb-true more 0 f))

added_sound : (more : ℕ) (term : List ℕ) → (is_there term || eqb more 0) ≡ true → (rows : List Row) → sound rows → sound (added more term rows)
unfolding added
added_sound more term e [] all = all
added_sound more term e (row ∷ rows) all =
    let p = every_uncons there_or_none row rows all in
    go p.0 p.1 (added_sound more term e rows p.1) (alike term row.term) refl
  where
    go : there_or_none row ≡ true → sound rows → sound (added more term rows) → (b : Bool) → alike term row.term ≡ b
        → sound (cond b (record { term = row.term; count = row.count + more } ∷ rows) (row ∷ added more term rows))
    go here rest on true same =
        every_cons there_or_none (record { term = row.term; count = row.count + more }) rows
        (raised_sound row more here (rw (alike_same term row.term same) at e)) rest
    go here rest on false same = every_cons there_or_none row (added more term rows) here on

module _ (rule : Rule) (parent : ℕ) (before : List Row) (row : Row) where
  behind_sound : sound before → there_or_none row ≡ true → sound (put_behind rule parent before row)
  unfolding put_behind there_or_none every
  behind_sound all here =
      go (dropped rule parent row.term) (some_of (alike row.term) (terms_in before))
      (added_sound row.count row.term here before all)
    where
      one : (last : Row) (front : List Row) → sound front → there_or_none last ≡ true → sound (front ++ (last ∷ []))
      one last front ahead e = every_append there_or_none front (last ∷ []) ahead (every_cons there_or_none last [] e refl)

      go : (d s : Bool) → sound (added row.count row.term before)
          → sound (cond d (before ++ (gone ∷ [])) (cond s (added row.count row.term before ++ (gone ∷ [])) (before ++ (row ∷ []))))
      go true s more = one gone before all gone_sound
      go false true more = one gone (added row.count row.term before) more gone_sound
      go false false more = one row before all here

module _ (rule : Rule) (triple : Triple) (parent : ℕ) where
  there_still : (term : List ℕ) → is_there (rewriting triple parent term) ≡ is_there term
  unfolding is_there rewriting sorted
  there_still [] = refl
  there_still (index ∷ term) =
      is_there_so (rewriting triple parent (index ∷ term)) (rw (length_rewriting triple parent (index ∷ term)) (omega arith))

  reduced_sound : (before rows : List Row) → sound before → sound rows → sound (reduced_behind rule triple parent before rows)
  unfolding reduced_behind rewritten there_or_none
  reduced_sound before [] ahead all = ahead
  reduced_sound before (row ∷ rows) ahead all =
      let p = every_uncons there_or_none row rows all in
      let new = rewritten triple parent row in
      reduced_sound (put_behind rule parent before new) rows
      (behind_sound rule parent before new ahead (ap (λ there. there || eqb row.count 0) (there_still row.term) ∙ p.0))
      p.1

module _ (job : Job) (each : every is_there job.terms ≡ true) where
  after_sound : (history : List Triple) → sound (counted_after job history)
  unfolding counted_after counted_reduction each_once there_or_none every
  after_sound [] =
      every_mapped is_there there_or_none (λ term. record { term = term; count = 1 }) (λ term e. rw e) job.terms each
  after_sound (merge ∷ history) =
      reduced_sound job.rule merge (next_parent job.modes history) [] (counted_after job history) refl (after_sound history)

  -- The rows that are there stand for all that is not dropped.
  live_counts : (history : List Triple)
      → counted (keep (λ row. is_there row.term) (counted_after job history)) + sum (drops job history) ≡ length job.terms
  unfolding counted there_or_none
  live_counts history =
      let rows = counted_after job history in
      let live_count : counted (keep (λ row. is_there row.term) rows) ≡ counted rows =
      sum_keep (λ row. row.count) (λ row. is_there row.term) rows
      ∙ sum_same there_or_none (λ row. cond (is_there row.term) row.count 0) (λ row. row.count)
      (λ row s. one row (is_there row.term) s) rows (after_sound history) in
      omega (arith, add_up job history)
    where
      one : (row : Row) (b : Bool) → (b || eqb row.count 0) ≡ true → cond b row.count 0 ≡ row.count
      one row true s = refl
      one row false s = sym (eqb-true row.count 0 s)

pub live_add_up : LiveAddUp
live_add_up job history each = live_counts job each history
