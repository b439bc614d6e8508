-- What good modes are.
use Rattle.std.proofs.Common.{◌≡◌, true, ℕ, ◌≤◌, leb}
use borrow.Author.Tests.{leb-true}
use Rattle.lists.proofs.Tests.{both}
use Rattle.terms.specs.Good.{modes_good}

-- Good modes are 1 to the most.
pub good_modes : (most modes : ℕ) → modes_good most modes ≡ true → (1 ≤ modes) × (modes ≤ most)
unfolding modes_good
good_modes most modes e =
    let parts = both (leb 1 modes) (leb modes most) e in
    (leb-true 1 modes parts.0, leb-true modes most parts.1)
