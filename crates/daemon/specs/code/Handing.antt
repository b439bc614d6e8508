-- What the code hands on to `resume`, so that each refusal is given in its turn: a made-up number where bytes are no terms, and no room where the
-- answer has none.
use Rattle.std.specs.Prelude.{List, ℕ, length}
use Rattle.terms.specs.declared.rules.Rule.TheVariants.{Published}
use Rattle.terms.specs.Rules.{rule_number}
use Rattle.journal.specs.Resuming.{Outcome, Rooms, resumed}
use Rattle.call_bytes.specs.code.Handing.{term_numbers, room_of}
use Rattle.daemon.specs.Calls.{Lent}

-- What a call has of its own: the most modes, and the room of its work, rows and drops.
pub record Own : Type 0 where
  pub modes : ℕ
  pub work : ℕ
  pub rows : ℕ
  pub drops : ℕ

abbrev pub own_of : ℕ → List ℕ → List ℕ → List ℕ → Own
own_of most work rows drops = record { modes = most; work = length work; rows = length rows; drops = length drops }

-- The rooms of a run in what the call has and is lent.
unfoldable pub rooms_in : Own → Lent → Rooms
rooms_in own given = record {
  modes = own.modes;
  work = own.work;
  rows = room_of 4 own.rows (length given.rows) (length given.answer);
  journal = length given.journal;
  drops = own.drops;
}

-- Resuming, handed on.
unfoldable pub resume_handed : Own → ℕ → List ℕ → List ℕ → Lent → Outcome
resume_handed own modes terms read given = resumed (rooms_in own given) modes (rule_number Published) (term_numbers terms) read
