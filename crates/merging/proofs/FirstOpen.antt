-- The leaves marked open from the front, the rest left closed.
use Rattle.std.proofs.Common.{◌≡◌, ◌∙◌, ◌++◌, ℕ, ◌+◌, ◌-◌, ◌*◌, ◌≤◌, [], true, false, arith, ap, sym, replicate, length, take, drop, length-take}
use Rattle.std.proofs.lemmas.List.{length-replicate, drop-replicate}
use borrow.Author.Tests.{le-leb, lt-leb}
use native.Mathlib.Nat.{zero-add}
use Rattle.lists.specs.Ranges.{listed}
use Rattle.lists.proofs.Listed.{listed_joined, listed_same}
use Rattle.history.specs.History.{is_open}

pub leaves_open : (room modes : ℕ) → 2 * modes + 1 ≤ room
    → replicate (length (take (2 * modes + 1) (replicate room false))) true ++ drop (2 * modes + 1) (replicate room false) ≡ listed (is_open modes []) 0 room
unfolding is_open
leaves_open room modes h =
    let leaves = 2 * modes + 1 in
    let whole : leaves + (room - leaves) ≡ room = omega arith in
    let count : length (take leaves (replicate room false)) ≡ leaves = simp (length-take, length-replicate) (omega arith) in
    let open_here = listed_same (is_open modes []) true 0 leaves (λ i h l. le-leb i (2 * modes) (omega arith)) in
    let closed = listed_same (is_open modes []) false leaves (room - leaves) (λ i h l. lt-leb i (2 * modes) (omega arith)) in
    rw (count, drop-replicate leaves room false)
    (sym
    (ap (listed (is_open modes []) 0) (sym whole)
    ∙ listed_joined (is_open modes []) 0 leaves (room - leaves)
    ∙ rw (open_here, zero-add leaves, closed)))
