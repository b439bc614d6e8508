-- What lines are refused by: a number of their own, 6 to 12, at a line that is no further than the merges made.
use Rattle.obeying.specs.declared.header.HeaderLine.{HeaderLine}
use Rattle.std.specs.Prelude.{Err, None, Ok, Option, Result, Some}
use mathlib.Core.Path.{◌≡◌, refl}
use mathlib.Core.Bool.{Bool, true, false, cond, not, ◌&&◌}
use mathlib.Core.List.{List, [], ◌∷◌}
use Prim.Native.Nat.{ℕ, suc, ◌<◌, ◌≤◌}
use native.Mathlib.Omega.{arith}
use borrow.Author.Tests.{ltb-true}
use lib.Dec.{eqb, ltb}
use lib.ListN.{length}
use Rattle.refusal.specs.declared.Refusal.{Refusal}
use Rattle.refusal.specs.declared.Refusal.TheVariants.{Header as OtherHeader, StepNotNext, ChildNotOpen, NotLawful, WeightUntrue, LineAfterLast}
use Rattle.refusal.specs.Numbers.{number_of, place_of}
use Rattle.entities.specs.declared.Triple.{Triple}
use Rattle.fields.specs.Lines.{lines}
use Rattle.terms.specs.Rules.{rule_number}
use Rattle.terms.specs.Job.{Job}
use Rattle.history.specs.Lawful.{three_open, paired}
use Rattle.history.specs.Choice.{weight_in}
use Rattle.obeying.specs.declared.merge_line.MergeLine.{MergeLine}
use Rattle.obeying.specs.LineForms.{header_of}
use Rattle.obeying.specs.Obeying.{
  line_said,
  line_after,
  judged_merge,
  judged_form,
  judged_line,
  Obeyed,
  went,
  refused,
  obeyed_as,
  obeyed_next,
  obeyed_lines,
  obeyed_header,
  obeyed_texts,
  obeyed,
  obeyed_by_hand,
}

-- A refusal of a line, with so many merges made before it.
pub record LineRefusal (merges : ℕ) (why : Refusal) : Type 0 where
  pub from : 6 ≤ number_of why
  pub to : number_of why ≤ 12
  pub place : place_of why ≤ suc merges

-- No more merges than modes were made, and what is refused is a line.
abbrev Judges : ℕ → Result MergeLine Refusal → Type 0
Judges merges (Ok said) = Unit
Judges merges (Err why) = LineRefusal merges why

abbrev Within : Job → Obeyed → Type 0
Within job (went history) = length history ≤ job.modes
Within job (refused made why) = (length made ≤ job.modes) × LineRefusal (length made) why

-- A refusal of a line by its number, at the line itself.
at_line : (merges : ℕ) (why : Refusal) → 6 ≤ number_of why → number_of why ≤ 12 → place_of why ≤ suc merges → LineRefusal merges why
at_line merges why l h p = record { from = l; to = h; place = p }

module _ (job : Job) where
  module _ (history : List Triple) where
    merge_judges : (said : MergeLine) → Judges (length history) (judged_merge job history said)
    unfolding judged_merge
    merge_judges said =
        go (eqb said.step (length history)) (three_open job.modes history said.triple) (paired job.modes history said.triple)
        (eqb said.weight (weight_in job history said.triple))
      where
        go : (a b c d : Bool)
            → Judges (length history)
            (cond (not a) (Err (StepNotNext (line_after history)))
            (cond (not b) (Err (ChildNotOpen (line_after history)))
            (cond (not c) (Err (NotLawful (line_after history))) (cond (not d) (Err (WeightUntrue (line_after history))) (Ok said)))))
        go false b c d = at_line _ _ (omega arith) (omega arith) (omega arith)
        go true false c d = at_line _ _ (omega arith) (omega arith) (omega arith)
        go true true false d = at_line _ _ (omega arith) (omega arith) (omega arith)
        go true true true false = at_line _ _ (omega arith) (omega arith) (omega arith)
        go true true true true = tt

    form_judges : (merge : Option MergeLine) → Judges (length history) (judged_form job history merge)
    unfolding judged_form
    form_judges (Some said) = merge_judges said
    form_judges None = at_line _ _ (omega arith) (omega arith) (omega arith)

    as_within : (judged : Result MergeLine Refusal) → length history < job.modes → Judges (length history) judged → Within job (obeyed_as history judged)
    unfolding obeyed_as
    as_within (Ok said) left judges = omega arith
    as_within (Err why) left judges = (omega arith, judges)

    line_within : (by_hand : Bool) (bytes : List ℕ) → length history ≤ job.modes → Within job (obeyed_as history (judged_line by_hand job history bytes))
    unfolding judged_line obeyed_as
    line_within by_hand bytes h = go (ltb (length history) job.modes) refl
      where
        go : (test : Bool) → ltb (length history) job.modes ≡ test
            → Within job
            (obeyed_as history
            (cond (not test) (Err (LineAfterLast (line_after history))) (judged_form job history (line_said by_hand job history bytes))))
        go true e =
            let merge = line_said by_hand job history bytes in
            as_within (judged_form job history merge) (ltb-true _ _ e) (form_judges merge)
        go false e = (h, at_line _ _ (omega arith) (omega arith) (omega arith))

  next_within : (by_hand : Bool) (bytes : List ℕ) (so_far : Obeyed) → Within job so_far → Within job (obeyed_next by_hand job bytes so_far)
  unfolding obeyed_next
  next_within by_hand bytes (went history) h = line_within history by_hand bytes h
  next_within by_hand bytes (refused made why) h = h

  lines_within : (by_hand : Bool) (so_far : Obeyed) (texts : List (List ℕ)) → Within job so_far → Within job (obeyed_lines by_hand job so_far texts)
  unfolding obeyed_lines
  lines_within by_hand so_far [] h = h
  lines_within by_hand so_far (bytes ∷ rest) h =
      lines_within by_hand (obeyed_next by_hand job bytes so_far) rest (next_within by_hand bytes so_far h)

  header_within : (header : Option HeaderLine) → Within job (obeyed_header job header)
  unfolding obeyed_header
  header_within (Some said) =
      go (eqb (rule_number said.rule) (rule_number job.rule) && (eqb said.modes job.modes && eqb said.terms (length job.terms)))
    where
      go : (b : Bool) → Within job (cond (not b) (refused [] OtherHeader) (went []))
      go false = (omega arith, at_line _ _ (omega arith) (omega arith) (omega arith))
      go true = omega arith
  header_within None = (omega arith, at_line _ _ (omega arith) (omega arith) (omega arith))

  texts_within : (texts : List (List ℕ)) → Within job (obeyed_texts job texts)
  unfolding obeyed_texts
  texts_within [] = omega arith
  texts_within (first ∷ rest) = lines_within false (obeyed_header job (header_of first)) rest (header_within (header_of first))

  module _ (bytes : List ℕ) (made : List Triple) (why : Refusal) where
    pub journal_refusal : obeyed job bytes ≡ refused made why → (length made ≤ job.modes) × LineRefusal (length made) why
    unfolding obeyed
    journal_refusal e = rw e at (texts_within (lines bytes))

    pub by_hand_refusal : obeyed_by_hand job bytes ≡ refused made why → (length made ≤ job.modes) × LineRefusal (length made) why
    unfolding obeyed_by_hand
    by_hand_refusal e = rw e at (lines_within true (went []) (lines bytes) (omega arith))
