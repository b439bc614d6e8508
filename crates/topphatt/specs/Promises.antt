-- What `assign` promises: the number it returns, and every number of work and table after the call.
use Rattle.refusal.specs.declared.Refusal.{Refusal}
use Rattle.std.specs.Prelude.{◌≡◌, List, [], ◌∷◌, ℕ, ◌*◌, length, replicate, Err, Ok, Result}
use Rattle.lists.specs.Written.{written_at}
use Rattle.refusal.specs.Numbers.{refused_numbers, done_numbers}
use Rattle.entities.specs.Limits.{work_width}
use Rattle.topphatt.specs.Answer.{Outcome, done, refused, Rooms}

-- "The answer is … the sum of chosen weights"; a refusal "its number and a place, zeros elsewhere": refusal, place, weight.
unfoldable pub numbers_of : Result ℕ Refusal → List ℕ
numbers_of (Ok weight) = done_numbers (weight ∷ [])
numbers_of (Err refusal) = refused_numbers 1 refusal

-- What the call returns.
unfoldable pub returned : Outcome → Result ℕ Refusal
returned (done count weight table) = Ok weight
returned (refused refusal) = Err refusal

-- What is lent to a call: every number of work and table.
pub record Lent : Type 0 where
  pub work : List ℕ
  pub table : List ℕ

abbrev pub lent : List ℕ → List ℕ → Lent
lent work table = record { work = work; table = table }

-- The rooms of what is lent, to a call that takes so many modes at most.
abbrev pub rooms_of : ℕ → Lent → Rooms
rooms_of most given = record { modes = most; work = length given.work; table = length given.table }

-- Document 02: "a success zeroes the first 9T". "… outputs beyond the written front stay." A refusal "alters nothing".
unfoldable pub lent_then : Outcome → Lent → Lent
lent_then (done count weight codes) given = record {
  work = written_at 0 (replicate (work_width * count) 0) given.work;
  table = written_at 0 codes given.table;
}
lent_then (refused refusal) given = given

-- The answer of the meaning and its numbers, and every number of what was lent after the call.
pub record Assigns (meant : Lent → Outcome) (before after : Lent) (r : Result ℕ Refusal) : Type 0 where
  pub answer : r ≡ returned (meant before)
  pub numbers : numbers_of r ≡ numbers_of (returned (meant before))
  pub leaves : after ≡ lent_then (meant before) before
