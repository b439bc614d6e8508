-- "Fields: greedy weight; trials; label, X, Y, Z codes. A refusal prints `refused`, number, place."
use Rattle.std.specs.Prelude.{◌≡◌, cond, ℕ, ◌/◌, ◌≤◌, eqb, length, take, replicate}
use mathlib.Core.List.{List, [], ◌∷◌, ◌++◌, map, flat_map}
use Rattle.lists.specs.Written.{written_at}
use Rattle.refusal.specs.declared.Refusal.{Refusal}
use Rattle.refusal.specs.declared.Refusal.TheVariants.{Room}
use Rattle.refusal.specs.Numbers.{number_of, place_of}
use Rattle.entities.specs.Codes.{absent}
use Rattle.fields.specs.Texts.{spelt}
use Rattle.fields.specs.Decimal.{decimal}
use Rattle.fields.specs.Fields.{tabbed}
use Rattle.fields.specs.Lines.{kept_of}
use Rattle.terms.specs.Rows.{rows_of}
use Rattle.terms.specs.declared.rules.Rule.TheVariants.{Published}
use Rattle.journal.specs.Resuming.{Ending, Outcome, done, refuses}
use Rattle.journal.specs.CutAndResumed.{journal_of}
use Rattle.terms_text.specs.Jobs.{Request, request}
use Rattle.text.specs.declared.Printed.{Printed}
use Rattle.text.specs.Running.{Rooms, program_rooms, ran}

-- A line: fields parted by tabs, and LF.
unfoldable pub line_of : List (List ℕ) → List ℕ
line_of parts = tabbed parts ++ spelt "\n"

-- "65535 for the one absent child. Text writes "-" for it."
unfoldable pub code_text : ℕ → List ℕ
code_text code = cond (eqb code absent) (spelt "-") (decimal code)

-- The line of one row: label, X, Y, Z.
unfoldable pub node_line : List ℕ → List ℕ
node_line row = line_of (spelt "node" ∷ map code_text row)

-- The lines of rows of four.
unfoldable pub node_lines : List ℕ → List ℕ
node_lines rows = flat_map node_line (rows_of 4 (length rows / 4) rows)

-- "A refusal prints `refused`, number, place."
unfoldable pub refusal_text : Refusal → List ℕ
refusal_text refusal = line_of (spelt "refused" ∷ (decimal (number_of refusal) ∷ (decimal (place_of refusal) ∷ [])))

-- A finished run: weight, trials, and the lines of its rows.
unfoldable pub done_text : ℕ → ℕ → List ℕ → List ℕ
done_text weight trials rows =
    line_of (spelt "weight" ∷ (decimal weight ∷ []))
    ++ (line_of (spelt "trials" ∷ (decimal trials ∷ [])) ++ node_lines rows)

-- What a run prints as.
unfoldable pub printed : Outcome → List ℕ
printed (done ending) = done_text ending.weight ending.trials ending.rows
printed (refuses refusal) = refusal_text refusal

-- What resuming prints for what is asked and the journal that is read, in these rooms.
unfoldable pub resume_text : Rooms → Request → List ℕ → List ℕ
resume_text rooms asks read = printed (ran rooms asks read)

-- The program's answer to a text: the unbroken run's, by the published rule.
unfoldable pub answer_text : Rooms → List ℕ → List ℕ
answer_text rooms bytes = resume_text rooms (request Published bytes) []

-- The new lines alone, so that what is kept of the journal that is read and these are the journal; or the refusal.
unfoldable pub new_printed : Outcome → List ℕ
new_printed (done ending) = ending.new
new_printed (refuses refusal) = refusal_text refusal

-- What continuing a journal prints, in these rooms; of an empty one, the journal of an unbroken run.
unfoldable pub continue_text : Rooms → Request → List ℕ → List ℕ
continue_text rooms asks read = new_printed (ran rooms asks read)

-- What a program prints of this room: the bytes of its answer, as many as they are, and zeros behind them.
pub record PrintsIn (room : ℕ) (answer printed : List ℕ) (r : ℕ) : Type 0 where
  pub count : r ≡ length answer
  pub fits : length answer ≤ room
  pub bytes : printed ≡ written_at 0 answer (replicate room 0)

abbrev pub Prints : ℕ → List ℕ → Printed (List ℕ) → Type 0
Prints room answer r = PrintsIn room answer r.bytes r.count

-- 5 is never printed: whatever is asked and whatever the journal, the programs' own rooms suffice.
abbrev pub RoomSuffices : Type 0
RoomSuffices = (asks : Request) (read : List ℕ) → resume_text program_rooms asks read ≡ refusal_text Room → ⊥

-- Nor where a journal is continued.
abbrev pub NewLinesSuffice : Type 0
NewLinesSuffice = (asks : Request) (read : List ℕ) → continue_text program_rooms asks read ≡ refusal_text Room → ⊥

-- The run that is asked for, resumed from the first bytes of a journal comes to the end that the journal had.
pub record ResumesFrom (asks : Request) (journal : List ℕ) (part : Ending) (cut : ℕ) : Type 0 where
  pub again : Ending
  pub resumes : ran program_rooms asks (take cut journal) ≡ done again
  pub same_rows : again.rows ≡ part.rows
  pub same_weight : again.weight ≡ part.weight
  pub same_drops : again.drops ≡ part.drops
  pub same_journal : journal_of (take cut journal) again ≡ journal

-- Continuing makes a journal whole: what is kept of it and what is printed are the run's journal, which may be cut after any byte that isn't before the end of what was kept.
pub record Continues (asks : Request) (read : List ℕ) (part : Ending) : Type 0 where
  pub whole : kept_of read ++ continue_text program_rooms asks read ≡ journal_of read part
  pub resumes : (cut : ℕ) → length (kept_of read) ≤ cut → ResumesFrom asks (journal_of read part) part cut

abbrev pub ContinuesWhole : Type 0
ContinuesWhole = (asks : Request) (read : List ℕ) (part : Ending) → ran program_rooms asks read ≡ done part → Continues asks read part
