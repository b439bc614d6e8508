-- What `hatt` and `resume` promise: the numbers they return, and every element of what is lent after the call.
use Rattle.journal.specs.declared.resuming.Numbers.{Numbers}
use Rattle.refusal.specs.declared.Refusal.{Refusal}
use Rattle.std.specs.Prelude.{◌≡◌, List, [], ◌∷◌, ℕ, ◌*◌, length, replicate, Err, Ok, Result}
use Rattle.lists.specs.Written.{written_at}
use Rattle.refusal.specs.Numbers.{refused_numbers, done_numbers}
use Rattle.entities.specs.Limits.{work_width}
use Rattle.journal.specs.Resuming.{Outcome, done, refuses, Rooms}

-- "Resuming returns …, weight, trials, kept bytes (through the last LF) and new bytes"; a refusal "its number and a place, zeros elsewhere".
unfoldable pub numbers_of : Result Numbers Refusal → List ℕ
numbers_of (Ok numbers) = done_numbers (numbers.weight ∷ (numbers.trials ∷ (numbers.kept ∷ (numbers.new ∷ []))))
numbers_of (Err refusal) = refused_numbers 4 refusal

-- What the call returns.
unfoldable pub returned : Outcome → Result Numbers Refusal
returned (done ending) =
    Ok (record { weight = ending.weight; trials = ending.trials; kept = ending.kept; new = length ending.new })
returned (refuses refusal) = Err refusal

-- What is lent to a call: every element of work, rows, journal and drops.
pub record Lent : Type 0 where
  pub work : List ℕ
  pub rows : List ℕ
  pub journal : List ℕ
  pub drops : List ℕ

abbrev pub lent : List ℕ → List ℕ → List ℕ → List ℕ → Lent
lent work rows journal drops = record { work = work; rows = rows; journal = journal; drops = drops }

-- The rooms of what is lent, to a call that takes so many modes at most.
abbrev pub rooms_of : ℕ → Lent → Rooms
rooms_of most given =
    record {
      modes = most;
      work = length given.work;
      rows = length given.rows;
      journal = length given.journal;
      drops = length given.drops;
    }

-- "outputs beyond the written front stay"; the journal's "front then holds the new lines". Document 02: "a success zeroes the first 9T".
-- A refusal "alters nothing".
unfoldable pub lent_then : Outcome → Lent → Lent
lent_then (done ending) given = record {
  work = written_at 0 (replicate (work_width * ending.count) 0) given.work;
  rows = written_at 0 ending.rows given.rows;
  journal = written_at 0 ending.new given.journal;
  drops = written_at 0 ending.drops given.drops;
}
lent_then (refuses refusal) given = given

-- The answer of the meaning and its numbers, and every element of what was lent after the call.
pub record Answers (meant : Lent → Outcome) (before after : Lent) (r : Result Numbers Refusal) : Type 0 where
  pub answer : r ≡ returned (meant before)
  pub numbers : numbers_of r ≡ numbers_of (returned (meant before))
  pub leaves : after ≡ lent_then (meant before) before
