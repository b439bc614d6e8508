-- What a text that was read runs to: what its answer says is run.
use Rattle.std.specs.Prelude.{Err}
use Rattle.refusal.specs.declared.Refusal.{Refusal}
use mathlib.Core.Path.{◌≡◌}
use mathlib.Core.List.{List}
use Prim.Native.Nat.{ℕ, ◌*◌}
use lib.ListN.{take}
use Rattle.journal.specs.Resuming.{refuses}
use Rattle.terms_text.specs.declared.Given.{Given}
use Rattle.terms_text.specs.Input.{said, given}
use Rattle.terms_text.specs.code.Reading.{GivenRead, Reads}
use Rattle.terms.specs.declared.rules.Rule.{Rule}
use Rattle.terms_text.specs.Jobs.{request}
use Rattle.text.specs.Running.{Rooms, ran_by, ran}

module _ (most : ℕ) (text numbers : List ℕ) (rooms : Rooms) (rule : Rule) (read : List ℕ) (fits : rooms.terms ≡ most) where
  pub given_ran : (job : Given) → GivenRead most (said most text) numbers job
      → ran_by rooms rule (given job.modes (take (8 * job.count) numbers)) read ≡ ran rooms (request rule text) read
  unfolding ran
  given_ran job known = rw (fits, known.says)

  pub malformed_ran : (why : Refusal) → Reads most (said most text) numbers (Err why) → ran rooms (request rule text) read ≡ refuses why
  unfolding ran ran_by
  malformed_ran why known = rw (fits, known.1, ← known.0)
