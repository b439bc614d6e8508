-- What assigning called from C promises: the number it returns, and every byte of every lent slice after the call.
use Rattle.std.specs.Prelude.{◌≡◌, ℕ, ◌+◌, ◌*◌}
use Rattle.lists.specs.Written.{written_at}
use Rattle.refusal.specs.Numbers.{number_of, place_of}
use Rattle.topphatt.specs.Answer.{Outcome, done, refused}
use Rattle.call_bytes.specs.Bytes.{two_bytes, eight_bytes}
use Rattle.assign_call.specs.Calls.{LentTable}

-- "The result is the refusal number times 65536 plus the place, 0 on success".
unfoldable pub assign_result_of : Outcome → ℕ
assign_result_of (done count weight codes) = 0
assign_result_of (refused refusal) = number_of refusal * 65536 + place_of refusal

-- The table and the weight, which is the answer, each over a front; a refused call writes nothing.
unfoldable pub table_then : Outcome → LentTable → LentTable
table_then (done count weight codes) given = record {
  table = written_at 0 (two_bytes codes) given.table;
  answer = written_at 0 (eight_bytes weight) given.answer;
}
table_then (refused refusal) given = given

-- The result of the meaning, and every byte of what was lent after the call.
pub record AssignCalled (meant : LentTable → Outcome) (before after : LentTable) (r : ℕ) : Type 0 where
  pub result : r ≡ assign_result_of (meant before)
  pub leaves : after ≡ table_then (meant before) before
