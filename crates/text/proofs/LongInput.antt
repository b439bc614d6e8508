-- A text longer than the longest well-formed one is run and answered the same when it is cut behind that length.
use mathlib.Core.Path.{◌≡◌, ap}
use mathlib.Core.List.{List, []}
use Prim.Native.Nat.{ℕ, ◌+◌, ◌*◌, ◌<◌}
use lib.ListN.{take}
use Rattle.terms.specs.declared.rules.Rule.{Rule}
use Rattle.terms.specs.declared.rules.Rule.TheVariants.{Published}
use Rattle.terms_text.specs.Jobs.{request}
use Rattle.terms_text.proofs.LongInput.{cut_says}
use Rattle.text.specs.Running.{Rooms, ran_by, ran}
use Rattle.text.specs.Output.{printed, resume_text, answer_text, new_printed, continue_text}

-- Its run comes to what that of the whole text does, whatever journal is read: a buffer of that many bytes and one is enough for an input of any length.
module _ (rooms : Rooms) (rule : Rule) (cut : ℕ) (text read : List ℕ) (long : 12 + 47 * rooms.terms < cut) where
  pub cut_runs : ran rooms (request rule (take cut text)) read ≡ ran rooms (request rule text) read
  unfolding ran
  cut_runs = ap (λ says. ran_by rooms rule says read) (cut_says rooms.terms cut text long)

  pub cut_resumes : resume_text rooms (request rule (take cut text)) read ≡ resume_text rooms (request rule text) read
  unfolding resume_text
  cut_resumes = ap printed cut_runs

  pub cut_continues : continue_text rooms (request rule (take cut text)) read ≡ continue_text rooms (request rule text) read
  unfolding continue_text
  cut_continues = ap new_printed cut_runs

pub cut_answers : (rooms : Rooms) (cut : ℕ) (text : List ℕ) → 12 + 47 * rooms.terms < cut → answer_text rooms (take cut text) ≡ answer_text rooms text
unfolding answer_text
cut_answers rooms cut text long = cut_resumes rooms Published cut text [] long
