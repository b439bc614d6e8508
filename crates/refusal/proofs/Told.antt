-- An answer that is the one meant tells its numbers, and the refusal that `?` hands on is the answer.
use Rattle.std.proofs.Common.{◌≡◌, ap, List, ℕ, Result, Err, IsErr}
use Rattle.std.specs.Result.{IsErrAnd}
use Rattle.std.proofs.lemmas.Result.{err_from_is_err_and}
use Rattle.refusal.specs.Numbers.{Tells}

pub tells : {Answer : Type 0} {numbers_of : Answer → List ℕ} {meant r : Answer} → r ≡ meant → Tells numbers_of meant r
tells {numbers_of} e = record { answer = e; numbers = ap numbers_of e }

-- A refusal that `?` hands on.
pub handed_on : {T E : Type 0} {r : Result T E} {why : E} → IsErr r × IsErrAnd r (λ found. found ≡ why) → r ≡ Err why
handed_on {r} h = let found = err_from_is_err_and r h.1 in rw (found.1, found.2)
