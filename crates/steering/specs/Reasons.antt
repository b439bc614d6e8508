-- What a person is told of a refused line: "for 8 which step was due, for 9 which child is not open, for 11 the true weight".
use Rattle.obeying.specs.declared.merge_line.MergeLine.{MergeLine}
use Rattle.std.specs.Prelude.{cond, not, List, [], ◌∷◌, ℕ, eqb, length, get_or, None, Option, Some}
use Rattle.refusal.specs.Numbers.{number_of, place_of}
use Rattle.entities.specs.declared.Triple.{Triple}
use Rattle.fields.specs.Texts.{spelt}
use Rattle.fields.specs.Decimal.{decimal}
use Rattle.fields.specs.Lines.{lines}
use Rattle.terms.specs.Job.{Job}
use Rattle.history.specs.History.{is_open}
use Rattle.history.specs.Choice.{weight_in}
use Rattle.obeying.specs.LineForms.{merge_of_line}
use Rattle.obeying.specs.Obeying.{Obeyed, went, refused, obeyed}
use Rattle.terms_text.specs.Jobs.{Request, JobSaid, a_job, no_job, job_said}
use Rattle.text.specs.Running.{Rooms}
use Rattle.text.specs.Output.{line_of}

-- The first of x, y and z that isn't open.
unfoldable pub first_closed : ℕ → List Triple → Triple → ℕ
first_closed modes made triple =
    cond (not (is_open modes made triple.x)) triple.x (cond (not (is_open modes made triple.y)) triple.y triple.z)

-- A word, a tab and a number.
abbrev pub reason_line : List ℕ → ℕ → List ℕ
reason_line word number = line_of (word ∷ (decimal number ∷ []))

-- What is wrong with a line that says this triple after these merges; of the other refusals there is no more to tell.
unfoldable pub reason_of : Job → List Triple → ℕ → Triple → List ℕ
reason_of job made number triple =
    cond (eqb number 8) (reason_line (spelt "due") (length made))
    (cond (eqb number 9) (reason_line (spelt "closed") (first_closed job.modes made triple))
    (cond (eqb number 11) (reason_line (spelt "weight") (weight_in job made triple))
    []))

-- The refused line, read again.
unfoldable pub reason_said : Job → List Triple → ℕ → Option MergeLine → List ℕ
reason_said job made number (Some said) = reason_of job made number said.triple
reason_said job made number None = []

-- Of a journal that isn't refused there is nothing to tell.
unfoldable pub reason_in : Job → List ℕ → Obeyed → List ℕ
reason_in job read (went history) = []
reason_in job read (refused made why) = reason_said job made (number_of why) (merge_of_line (get_or (lines read) (place_of why) []))

-- Nor of one whose terms are refused.
unfoldable pub reason_by : JobSaid → List ℕ → List ℕ
reason_by (a_job job) read = reason_in job read (obeyed job read)
reason_by (no_job refusal) read = []

-- What is told of the journal that is read, for the job that is asked for, in these rooms.
unfoldable pub reason_text : Rooms → Request → List ℕ → List ℕ
reason_text rooms asks read = reason_by (job_said rooms.run.modes rooms.terms asks) read
