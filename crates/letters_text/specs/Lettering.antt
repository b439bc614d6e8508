-- `letters`: "for a step of the run that the journal leads to (an empty file: the unbroken run), each row that is live before it by its place (a number, a tab, the letter or `-`)".
use Rattle.std.specs.Prelude.{◌≡◌, Bool, cond, not, ◌&&◌, ℕ, suc, ◌-◌, eqb, ltb, length, get_or, None, Option, Some}
use mathlib.Core.List.{List, [], ◌∷◌, ◌++◌, flat_map}
use Prim.Native.Char.{code}
use Rattle.lists.specs.Members.{keep}
use Rattle.refusal.specs.declared.Refusal.{Refusal}
use Rattle.refusal.specs.declared.Refusal.TheVariants.{Room}
use Rattle.entities.specs.declared.Triple.{Triple}
use Rattle.fields.specs.Texts.{spelt}
use Rattle.fields.specs.Decimal.{is_number, value, decimal}
use Rattle.fields.specs.Lines.{lines}
use Rattle.terms.specs.Job.{Job}
use Rattle.terms.specs.declared.letters.Letter.{Letter}
use Rattle.terms.specs.Letters.{letter_byte}
use Rattle.terms.specs.Weight.{term_letter}
use Rattle.reduction.specs.Reduction.{is_there}
use Rattle.history.specs.History.{merge_of, history_before, rows_after}
use Rattle.history.specs.Choice.{weight_in}
use Rattle.history.specs.computed.Greedy.{finished}
use Rattle.obeying.specs.Obeying.{Obeyed, went, refused, obeyed}
use Rattle.terms_text.specs.Jobs.{Request, JobSaid, a_job, no_job, job_said}
use Rattle.text.specs.Running.{Rooms, program_rooms}
use Rattle.text.specs.Output.{line_of, refusal_text}

-- A letter's byte, none's being `-`.
unfoldable pub letter_sign : Letter → ℕ
letter_sign letter = letter_byte (code "-") letter

-- The line of a row: its place and its letter.
unfoldable pub letter_line : ℕ → Letter → List ℕ
letter_line place letter = line_of (decimal place ∷ ((letter_sign letter ∷ []) ∷ []))

-- The lines of the rows that are there, the first row being at this place: each with the letter that the triple gives it.
unfoldable pub letter_lines : Triple → ℕ → List (List ℕ) → List (List ℕ)
letter_lines triple place [] = []
letter_lines triple place (term ∷ rows) =
    cond (is_there term) (letter_line place (term_letter triple term) ∷ []) [] ++ letter_lines triple (suc place) rows

-- The lines of a step of a run: its triple, and the rows before it.
unfoldable pub step_lines : Job → List Triple → ℕ → List (List ℕ)
step_lines job merges step = letter_lines (merge_of merges step) 0 (rows_after job (history_before merges step))

-- The step that a word asks for, where the run has such a step.
unfoldable pub asked : ℕ → List ℕ → Option ℕ
asked modes word = cond (is_number word && ltb (value word) modes) (Some (value word)) None

-- What the command comes to: the lines of a step; that there is no such step, but so many others; or a refusal.
pub data Lettered : Type 0 where
  shows : List (List ℕ) → Lettered
  no_step : ℕ → Lettered
  refuses : Refusal → Lettered

unfoldable pub lettered_at : Job → List Triple → Option ℕ → Lettered
lettered_at job merges (Some step) = shows (step_lines job merges step)
lettered_at job merges None = no_step job.modes

-- The run goes on from the journal by the greedy rule.
unfoldable pub lettered_after : Job → List ℕ → Obeyed → Lettered
lettered_after job word (went history) = lettered_at job (finished job history) (asked job.modes word)
lettered_after job word (refused made refusal) = refuses refusal

-- The refusals of the text and of its terms come first, then the journal's.
unfoldable pub lettered_by : JobSaid → List ℕ → List ℕ → Lettered
lettered_by (a_job job) read word = lettered_after job word (obeyed job read)
lettered_by (no_job refusal) read word = refuses refusal

-- What is asked, a journal and a step's word come to, in these rooms.
unfoldable pub lettered : Rooms → Request → List ℕ → List ℕ → Lettered
lettered rooms asks read word = lettered_by (job_said rooms.run.modes rooms.terms asks) read word

-- What is printed: the lines; `steps` and how many there are; or the refusal as `hatt` prints it.
unfoldable pub letters_printed : Lettered → List ℕ
letters_printed (shows these) = flat_map (λ line. line) these
letters_printed (no_step steps) = line_of (spelt "steps" ∷ (decimal steps ∷ []))
letters_printed (refuses refusal) = refusal_text refusal

unfoldable pub letters_text : Rooms → Request → List ℕ → List ℕ → List ℕ
letters_text rooms asks read word = letters_printed (lettered rooms asks read word)

-- A line that isn't `-`: what stands before its LF is something else.
unfoldable pub has_letter : List ℕ → Bool
has_letter line = not (eqb (get_or line (length line - 2) 0) (get_or (spelt "-") 0 0))

-- "The number of lines that aren't `-` is the step's weight".
abbrev pub LettersWeigh : Type 0
LettersWeigh =
    (job : Job) (merges : List Triple) (step : ℕ)
    → length (keep has_letter (lines (letters_printed (shows (step_lines job merges step)))))
    ≡ weight_in job (history_before merges step) (merge_of merges step)

-- 5 is never the answer: the program's own rooms suffice.
abbrev pub LettersSuffice : Type 0
LettersSuffice = (asks : Request) (read word : List ℕ) → lettered program_rooms asks read word ≡ refuses Room → ⊥
