-- `steer`: a merge a line, `x` TAB `y` TAB `z`, made into "the journal of those merges, steps and true weights filled in, …; or the refusal of the first line that isn't lawful, by 6, 9, 10 or 12 at that line, lines counted as in the journal that it would make".
use Rattle.std.specs.Prelude.{◌≡◌, true, cond, List, [], ◌∷◌, map, ℕ, ◌<◌, eqb, length, get_or}
use Rattle.lists.specs.Members.{every}
use Rattle.refusal.specs.declared.Refusal.{Refusal}
use Rattle.refusal.specs.declared.Refusal.TheVariants.{Room, LineForm}
use Rattle.entities.specs.declared.Triple.{Triple}
use Rattle.fields.specs.Decimal.{is_number, value}
use Rattle.fields.specs.Lines.{lines, kept_of}
use Rattle.fields.specs.Fields.{fields}
use Rattle.terms.specs.Job.{Job}
use Rattle.history.specs.History.{merge_of}
use Rattle.obeying.specs.Obeying.{line_after, Obeyed, went, refused, obeyed_by_hand}
use Rattle.journal.specs.Writing.{journal_text}
use Rattle.journal.specs.Resuming.{done, ending}
use Rattle.terms_text.specs.Jobs.{Request, JobSaid, a_job, no_job, job_said}
use Rattle.text.specs.Running.{Rooms, program_rooms, ran}
use Rattle.text.specs.Output.{refusal_text}

-- What steering comes to: the journal, or a refusal.
pub data Steered : Type 0 where
  writes : List ℕ → Steered
  refuses : Refusal → Steered

-- The journal of the merges made. A last line without LF breaks the form: nothing that stands in the file is passed over.
unfoldable pub steered_as : Job → List ℕ → Obeyed → Steered
steered_as job merges (went history) =
    cond (eqb (length (kept_of merges)) (length merges)) (writes (journal_text job history)) (refuses (LineForm (line_after history)))
steered_as job merges (refused made refusal) = refuses refusal

-- The refusals of the text and of its terms come first.
unfoldable pub steered_by : JobSaid → List ℕ → Steered
steered_by (a_job job) merges = steered_as job merges (obeyed_by_hand job merges)
steered_by (no_job refusal) merges = refuses refusal

-- What is asked and a file of merges come to, in these rooms.
unfoldable pub steered : Rooms → Request → List ℕ → Steered
steered rooms asks merges = steered_by (job_said rooms.run.modes rooms.terms asks) merges

-- What is printed: the journal, or the refusal as `hatt` prints it.
unfoldable pub steer_printed : Steered → List ℕ
steer_printed (writes journal) = journal
steer_printed (refuses refusal) = refusal_text refusal

unfoldable pub steer_text : Rooms → Request → List ℕ → List ℕ
steer_text rooms asks merges = steer_printed (steered rooms asks merges)

-- The merges of a history are those that the lines of a file say, in their order, and the file has nothing else.
pub record AsWritten (merges : List ℕ) (history : List Triple) : Type 0 where
  pub a_line_each : length history ≡ length (lines merges)
  pub numbers : (i : ℕ) → i < length history → every is_number (fields (get_or (lines merges) i [])) ≡ true
  pub says : (i : ℕ) → i < length history
      → map value (fields (get_or (lines merges) i [])) ≡ (merge_of history i).x ∷ ((merge_of history i).y ∷ ((merge_of history i).z ∷ []))
  pub whole : kept_of merges ≡ merges

-- Steering that is done: the journal is that of the merges that were written, for the job that is asked for, and resuming from it accepts it, obeys it to
-- those merges and goes on from there.
pub record Steers (asks : Request) (merges journal : List ℕ) : Type 0 where
  pub job : Job
  pub job_is : job_said program_rooms.run.modes program_rooms.terms asks ≡ a_job job
  pub history : List Triple
  pub as_written : AsWritten merges history
  pub journal_is : journal ≡ journal_text job history
  pub resumes : ran program_rooms asks journal ≡ done (ending job journal history)

abbrev pub SteeredIsObeyed : Type 0
SteeredIsObeyed =
    (asks : Request) (merges journal : List ℕ) → steered program_rooms asks merges ≡ writes journal → Steers asks merges journal

-- 5 is never printed.
abbrev pub SteerSuffices : Type 0
SteerSuffices = (asks : Request) (merges : List ℕ) → steer_text program_rooms asks merges ≡ refusal_text Room → ⊥
