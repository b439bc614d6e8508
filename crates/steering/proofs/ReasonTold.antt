-- A reason as the code comes to it: nothing, or a word and a number.
use Rattle.std.specs.Prelude.{Err, Ok}
use mathlib.Core.Path.{◌≡◌, refl, ◌∙◌, ap}
use mathlib.Core.List.{List, [], ◌∷◌, ◌++◌, append_assoc}
use Prim.Native.Nat.{ℕ, ◌+◌, ◌≤◌}
use native.Mathlib.Nat.{zero-add}
use native.Mathlib.Omega.{arith}
use lib.ListN.{length}
use Rattle.refusal.specs.declared.Refusal.{Refusal}
use Rattle.refusal.specs.declared.Refusal.TheVariants.{
  Modes,
  TermNumbers,
  TooManyTerms,
  BadRow,
  Room,
  LineForm,
  Header,
  StepNotNext,
  ChildNotOpen,
  NotLawful,
  WeightUntrue,
  LineAfterLast,
  TreeLength,
  ChildCode,
  NotOneTree,
  WrongPair,
  Heuristic,
  Malformed,
  NewickForm,
  Rule as NoRule,
  TooManyToTry,
  TooManyNodes,
}
use Rattle.refusal.specs.Numbers.{number_of}
use Rattle.lists.specs.Written.{written_at}
use Rattle.entities.specs.declared.Triple.{Triple}
use Rattle.fields.specs.Texts.{spelt}
use Rattle.fields.specs.Decimal.{decimal}
use Rattle.fields.specs.Fields.{tabbed}
use Rattle.terms.specs.Job.{Job}
use Rattle.history.specs.Choice.{weight_in}
use Rattle.obeying.specs.Obeying.{Obeyed, refused}
use Rattle.obeying.specs.code.Obeys.{came_to}
use Rattle.text.specs.Output.{line_of}
use Rattle.text.specs.code.Printing.{Puts}
use Rattle.steering.specs.Reasons.{first_closed, reason_line, reason_of, reason_in}

-- A word with its tab, a number and LF.
module _ (word : List ℕ) (number : ℕ) where
  line_is : (word ++ (9 ∷ [])) ++ (decimal number ++ (10 ∷ [])) ≡ reason_line word number
  unfolding line_of tabbed
  line_is = simp append_assoc

  pub line_puts : (before after : List ℕ) (r : ℕ) → r ≤ length before → r ≡ 0 + length ((word ++ (9 ∷ [])) ++ (decimal number ++ (10 ∷ [])))
      → after ≡ written_at 0 ((word ++ (9 ∷ [])) ++ (decimal number ++ (10 ∷ []))) before → Puts (reason_line word number) before after r
  line_puts before after r within count written =
      record {
        count = count ∙ zero-add _ ∙ ap length line_is;
        fits = omega (arith, count, ap length line_is);
        bytes = written ∙ ap (λ l. written_at 0 l before) line_is;
      }

-- Which line a refusal gives.
module _ (job : Job) (made : List Triple) (triple : Triple) where
  pub due_told : (line : ℕ) → reason_of job made (number_of (StepNotNext line)) triple ≡ reason_line (spelt "due") (length made)
  unfolding reason_of
  due_told line = refl

  pub closed_told : (line : ℕ) → reason_of job made (number_of (ChildNotOpen line)) triple ≡ reason_line (spelt "closed") (first_closed job.modes made triple)
  unfolding reason_of
  closed_told line = refl

  pub weight_told : (line : ℕ) → reason_of job made (number_of (WeightUntrue line)) triple ≡ reason_line (spelt "weight") (weight_in job made triple)
  unfolding reason_of
  weight_told line = refl

  pub nothing_told : (why : Refusal) → ((line : ℕ) → why ≡ StepNotNext line → ⊥) → ((line : ℕ) → why ≡ ChildNotOpen line → ⊥)
      → ((line : ℕ) → why ≡ WeightUntrue line → ⊥) → reason_of job made (number_of why) triple ≡ []
  unfolding reason_of
  nothing_told Modes a b d = refl
  nothing_told TermNumbers a b d = refl
  nothing_told TooManyTerms a b d = refl
  nothing_told Room a b d = refl
  nothing_told Header a b d = refl
  nothing_told TreeLength a b d = refl
  nothing_told NotOneTree a b d = refl
  nothing_told Heuristic a b d = refl
  nothing_told NoRule a b d = refl
  nothing_told TooManyToTry a b d = refl
  nothing_told (BadRow place) a b d = refl
  nothing_told (LineForm place) a b d = refl
  nothing_told (NotLawful place) a b d = refl
  nothing_told (LineAfterLast place) a b d = refl
  nothing_told (ChildCode place) a b d = refl
  nothing_told (WrongPair place) a b d = refl
  nothing_told (Malformed place) a b d = refl
  nothing_told (NewickForm place) a b d = refl
  nothing_told (TooManyNodes place) a b d = refl
  nothing_told (StepNotNext line) a b d = absurd (a line refl)
  nothing_told (ChildNotOpen line) a b d = absurd (b line refl)
  nothing_told (WeightUntrue line) a b d = absurd (d line refl)

module _ (job : Job) (read : List ℕ) (answer : Obeyed) where
  pub refused_told : (why : Refusal) (made : List Triple) → came_to (Err why) made ≡ answer → reason_in job read (refused made why) ≡ reason_in job read answer
  unfolding came_to
  refused_told why made comes = rw (← comes)

  pub fine_told : (made : List Triple) → came_to (Ok tt) made ≡ answer → [] ≡ reason_in job read answer
  unfolding came_to reason_in
  fine_told made comes = rw (← comes)
