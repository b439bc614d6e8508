-- "Resuming returns rows, weight, trials, kept bytes (through the last LF) and new bytes"; "The order is by number for HATT and resume, except that the first bad journal line wins".
use Rattle.std.specs.Prelude.{Bool, cond, not, ◌&&◌, List, [], ℕ, ◌+◌, ◌-◌, ◌*◌, leb, length, Err, Ok, Result}
use Rattle.refusal.specs.declared.Refusal.{Refusal}
use Rattle.refusal.specs.declared.Refusal.TheVariants.{Modes, Room, Rule as NoRule}
use Rattle.entities.specs.declared.Triple.{Triple}
use Rattle.entities.specs.Limits.{work_width}
use Rattle.fields.specs.Lines.{kept_of}
use Rattle.terms.specs.declared.rules.Rule.{Rule}
use Rattle.terms.specs.Rules.{rule_good, rule_of}
use Rattle.terms.specs.Job.{Job, job_of}
use Rattle.terms.specs.Good.{modes_good, checked}
use Rattle.history.specs.Run.{run_weight}
use Rattle.history.specs.Drops.{drops}
use Rattle.history.specs.computed.Greedy.{finished, trials}
use Rattle.history.specs.Flatpack.{flatpack}
use Rattle.obeying.specs.Obeying.{Obeyed, went, refused, obeyed}
use Rattle.journal.specs.computed.NewText.{new_text}

-- What a run comes to: how many terms it had, its four numbers (the new bytes' is their count), its rows, its new bytes and its drops.
pub record Ending : Type 0 where
  pub count : ℕ
  pub weight : ℕ
  pub trials : ℕ
  pub kept : ℕ
  pub rows : List ℕ
  pub new : List ℕ
  pub drops : List ℕ

-- What a call comes to.
pub data Outcome : Type 0 where
  done : Ending → Outcome
  refuses : Refusal → Outcome

-- The end of a run that goes on from a history, by the greedy rule, behind what was kept of these bytes.
unfoldable pub ending : Job → List ℕ → List Triple → Ending
ending job bytes history = record {
  count = length job.terms;
  weight = run_weight job (finished job history);
  trials = trials job (job.modes - length history) history;
  kept = length (kept_of bytes);
  rows = flatpack job.modes (finished job history);
  new = new_text job (length (kept_of bytes)) history;
  drops = drops job (finished job history);
}

-- The journal's refusal, or the run from the history that it leads to.
unfoldable pub with_journal : Job → List ℕ → Obeyed → Outcome
with_journal job bytes (went history) = done (ending job bytes history)
with_journal job bytes (refused made refusal) = refuses refusal

-- What a call has room for: the most modes, and how many numbers and bytes are lent for work, rows, journal and drops.
pub record Rooms : Type 0 where
  pub modes : ℕ
  pub work : ℕ
  pub rows : ℕ
  pub journal : ℕ
  pub drops : ℕ

-- "Room: … rows 4n; … journal bytes 16 + 21n." Document 02: "5 now asks for 9T work numbers …, and HATT and resume for that table", "a lent
-- table of n numbers".
unfoldable pub roomy : Rooms → ℕ → ℕ → Bool
roomy rooms modes count =
    leb (work_width * count) rooms.work
    && (leb (4 * modes) rooms.rows && (leb (16 + 21 * modes) rooms.journal && leb modes rooms.drops))

-- 5: "any buffer below its room"; then the journal's lines.
unfoldable pub with_terms : Rooms → ℕ → Rule → List ℕ → List ℕ → Result ℕ Refusal → Outcome
with_terms rooms modes rule numbers bytes (Ok count) =
    cond (not (roomy rooms modes count)) (refuses Room)
    (with_journal (job_of modes rule count numbers) bytes (obeyed (job_of modes rule count numbers) bytes))
with_terms rooms modes rule numbers bytes (Err refusal) = refuses refusal

-- The meaning of `resume`: from the rooms, the modes, the rule's number, the terms' numbers and the journal read. 20 is "checked after 1".
unfoldable pub resumed : Rooms → ℕ → ℕ → List ℕ → List ℕ → Outcome
resumed rooms modes rule numbers bytes =
    cond (not (modes_good rooms.modes modes)) (refuses Modes)
    (cond (not (rule_good rule)) (refuses NoRule) (with_terms rooms modes (rule_of rule) numbers bytes (checked modes numbers)))

-- "The HATT call is resuming from an empty journal."
unfoldable pub hatt_run : Rooms → ℕ → ℕ → List ℕ → Outcome
hatt_run rooms modes rule numbers = resumed rooms modes rule numbers []
