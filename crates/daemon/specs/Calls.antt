-- "terms come in 16s (else 2), … and all other rooms double except the journal's; work is the call's own. … Too short a slice there is 5."
use Rattle.refusal.specs.declared.Refusal.{Refusal}
use Rattle.std.specs.Prelude.{Bool, cond, not, ◌&&◌, List, [], ℕ, ◌+◌, ◌*◌, ◌%◌, eqb, leb, length, Err, Ok, Result}
use Rattle.refusal.specs.declared.Refusal.TheVariants.{Modes, TermNumbers, Room}
use Rattle.terms.specs.declared.rules.Rule.TheVariants.{Published}
use Rattle.terms.specs.Job.{job_of}
use Rattle.terms.specs.Good.{modes_good, checked}
use Rattle.obeying.specs.Obeying.{obeyed}
use Rattle.journal.specs.Resuming.{Outcome, refuses, with_journal}
use Rattle.call_bytes.specs.Bytes.{words}

-- What is lent to a call that resumes: every byte of rows, journal and answer.
pub record Lent : Type 0 where
  pub rows : List ℕ
  pub journal : List ℕ
  pub answer : List ℕ

abbrev pub lent : List ℕ → List ℕ → List ℕ → Lent
lent rows journal answer = record { rows = rows; journal = journal; answer = answer }

-- Room for rows of 4n numbers, the journal's 16 + 21n bytes, and the answer's four numbers.
unfoldable pub roomy : ℕ → Lent → Bool
roomy modes given =
    leb (8 * modes) (length given.rows) && (leb (16 + 21 * modes) (length given.journal) && leb 32 (length given.answer))

-- 3 and 4 of the terms, then 5, then the journal's lines; "the C calls keep the published rule".
unfoldable pub with_terms : ℕ → List ℕ → List ℕ → Lent → Result ℕ Refusal → Outcome
with_terms modes numbers read given (Ok count) =
    cond (not (roomy modes given)) (refuses Room)
    (with_journal (job_of modes Published count numbers) read (obeyed (job_of modes Published count numbers) read))
with_terms modes numbers read given (Err refusal) = refuses refusal

-- The meaning of `dewgoblin_resume`, from the most modes that it takes, the modes, the terms' bytes, the journal read and what is lent: 1,
-- and 2 for terms that don't come in 16s.
unfoldable pub resume_called : ℕ → ℕ → List ℕ → List ℕ → Lent → Outcome
resume_called most modes terms read given =
    cond (not (modes_good most modes)) (refuses Modes)
    (cond (not (eqb (length terms % 16) 0)) (refuses TermNumbers)
    (with_terms modes (words terms) read given (checked modes (words terms))))

-- The meaning of `dewgoblin_hatt`.
unfoldable pub hatt_called : ℕ → ℕ → List ℕ → Lent → Outcome
hatt_called most modes terms given = resume_called most modes terms [] given
