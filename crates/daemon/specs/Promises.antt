-- What the calls from C that make a run promise: the number they return, and every byte of every lent slice after the call.
use Rattle.std.specs.Prelude.{◌≡◌, List, ◌++◌, ℕ, ◌+◌, ◌*◌, length}
use Rattle.lists.specs.Written.{written_at}
use Rattle.refusal.specs.Numbers.{number_of, place_of}
use Rattle.journal.specs.Resuming.{Ending, Outcome, done, refuses}
use Rattle.call_bytes.specs.Bytes.{two_bytes, eight_bytes}
use Rattle.daemon.specs.Calls.{Lent}

-- "The result is the refusal number times 65536 plus the place, 0 on success".
unfoldable pub result_of : Outcome → ℕ
result_of (done ending) = 0
result_of (refuses refusal) = number_of refusal * 65536 + place_of refusal

-- "weight, trials, kept and new bytes … then fill the front of one more lent slice".
unfoldable pub answer_bytes : Ending → List ℕ
answer_bytes ending =
    eight_bytes ending.weight ++ (eight_bytes ending.trials ++ (eight_bytes ending.kept ++ eight_bytes (length ending.new)))

-- The rows, the new lines and the answer, each over a front; a refused call writes nothing.
unfoldable pub lent_then : Outcome → Lent → Lent
lent_then (done ending) given = record {
  rows = written_at 0 (two_bytes ending.rows) given.rows;
  journal = written_at 0 ending.new given.journal;
  answer = written_at 0 (answer_bytes ending) given.answer;
}
lent_then (refuses refusal) given = given

-- The result of the meaning, and every byte of what was lent after the call.
pub record Called (meant : Lent → Outcome) (before after : Lent) (r : ℕ) : Type 0 where
  pub result : r ≡ result_of (meant before)
  pub leaves : after ≡ lent_then (meant before) before
