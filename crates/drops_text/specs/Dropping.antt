-- `drops`: "A finished run returns, for each step, the sum of the counts of the rows dropped there", a line a step, of the run that the journal leads to (an empty file: the unbroken run).
use Rattle.std.specs.Prelude.{◌≡◌, List, [], ◌∷◌, ◌++◌, ℕ, suc, take}
use Rattle.refusal.specs.declared.Refusal.TheVariants.{Room}
use Rattle.fields.specs.Decimal.{decimal}
use Rattle.journal.specs.Resuming.{Ending, Outcome, done, refuses}
use Rattle.terms_text.specs.Jobs.{Request}
use Rattle.text.specs.Running.{Rooms, program_rooms, ran}
use Rattle.text.specs.Output.{line_of, refusal_text}

-- The line of a step: its number and its drops.
unfoldable pub drop_line : ℕ → ℕ → List ℕ
drop_line step count = line_of (decimal step ∷ (decimal count ∷ []))

-- The lines of steps, the first of them being this one.
unfoldable pub drop_lines : ℕ → List ℕ → List ℕ
drop_lines step [] = []
drop_lines step (count ∷ rest) = drop_line step count ++ drop_lines (suc step) rest

-- What is printed of a run: a line for each step, or the refusal as `hatt` prints it.
unfoldable pub drops_printed : Outcome → List ℕ
drops_printed (done ending) = drop_lines 0 ending.drops
drops_printed (refuses refusal) = refusal_text refusal

-- What is asked and a journal come to, in these rooms.
unfoldable pub drops_text : Rooms → Request → List ℕ → List ℕ
drops_text rooms asks read = drops_printed (ran rooms asks read)

-- "Resumed from the cut journal of an unbroken run, the table is the unbroken run's, kept steps included."
abbrev pub DropsOfCut : Type 0
DropsOfCut =
    (asks : Request) (whole : Ending) → ran program_rooms asks [] ≡ done whole
    → (cut : ℕ) → drops_text program_rooms asks (take cut whole.new) ≡ drops_text program_rooms asks []

-- 5 is never printed: the program's own rooms suffice.
abbrev pub DropsSuffice : Type 0
DropsSuffice = (asks : Request) (read : List ℕ) → drops_text program_rooms asks read ≡ refusal_text Room → ⊥
