-- The room that a call hands on fits where it is lent from, and of a room that its modes need nothing is lost.
use mathlib.Core.Path.{◌≡◌, refl, sym}
use mathlib.Core.Bool.{Bool, true, false, cond, ◌&&◌, true≢false}
use Prim.Native.Nat.{ℕ, ◌*◌, ◌/◌, ◌≤◌, min}
use native.Mathlib.Omega.{arith}
use borrow.Author.Tests.{le-leb, leb-true}
use lib.Dec.{leb}
use Rattle.lists.proofs.Tests.{both, same_test}
use Rattle.call_bytes.specs.code.Handing.{room_of}

-- The room fits into the call's own and into the lent bytes, and where there is any the answer's numbers fit.
pub record RoomFits (numbers own bytes answer room : ℕ) : Type 0 where
  pub in_own : room ≤ own
  pub in_bytes : 2 * room ≤ bytes
  pub answered : 1 ≤ room → 8 * numbers ≤ answer

pub room_fits : (numbers own bytes answer : ℕ) → RoomFits numbers own bytes answer (room_of numbers own bytes answer)
unfolding room_of
room_fits numbers own bytes answer = go (leb (8 * numbers) answer) refl
  where
    go : (b : Bool) → leb (8 * numbers) answer ≡ b → RoomFits numbers own bytes answer (cond b (min own (bytes / 2)) 0)
    go true e = record { in_own = omega arith; in_bytes = omega arith; answered = λ some. leb-true (8 * numbers) answer e }
    go false e = record { in_own = omega arith; in_bytes = omega arith; answered = λ some. absurd (omega arith) }

-- Of a room that a call has for itself nothing is lost: what fits the caller's bytes fits there.
pub room_in : (numbers own bytes answer need twice : ℕ) → 1 ≤ need → need ≤ own → twice ≡ 2 * need
    → leb need (room_of numbers own bytes answer) ≡ (leb twice bytes && leb (8 * numbers) answer)
unfolding room_of
room_in numbers own bytes answer need twice some fits double = go (leb (8 * numbers) answer)
  where
    go : (b : Bool) → leb need (cond b (min own (bytes / 2)) 0) ≡ (leb twice bytes && b)
    go true =
        same_test (leb need (min own (bytes / 2))) (leb twice bytes && true)
        (λ h. rw (le-leb twice bytes (omega (arith, leb-true need (min own (bytes / 2)) h, double))))
        (λ h. le-leb need (min own (bytes / 2)) (omega (arith, leb-true twice bytes (both (leb twice bytes) true h).0, fits, double)))
    go false =
        same_test (leb need 0) (leb twice bytes && false) (λ h. absurd (omega (arith, leb-true need 0 h, some)))
        (λ h. absurd (true≢false (sym (both (leb twice bytes) false h).1)))
