-- Ascending lists, number by number and place by place: a list that ascends from a number ascends from any smaller one, and has no larger number before a smaller one.
use mathlib.Core.Path.{◌≡◌, refl}
use mathlib.Core.Bool.{true, and-eq-true_iff}
use mathlib.Core.List.{List, [], ◌∷◌, Memᴰ}
use Prim.Native.Nat.{ℕ, zero, suc, ◌<◌, ◌≤◌}
use native.Mathlib.Omega.{arith}
use borrow.Author.Tests.{le-leb, leb-true}
use lib.Dec.{leb}
use lib.ListN.{length, get_or, take}
use Rattle.lists.specs.Members.{every}
use Rattle.lists.specs.Ordered.{Ascending}
use Rattle.lists.specs.Ranges.{ascends_from, ascends}
use Rattle.lists.proofs.Every.{every_cons}

pub ascends_cons : (low v : ℕ) (l : List ℕ) → low ≤ v → ascends_from v l ≡ true → ascends_from low (v ∷ l) ≡ true
unfolding ascends_from
ascends_cons low v l h e = rw (le-leb low v h) e

pub ascends_uncons : (low v : ℕ) (l : List ℕ) → ascends_from low (v ∷ l) ≡ true → (low ≤ v) × (ascends_from v l ≡ true)
unfolding ascends_from
ascends_uncons low v l e =
    let p = (and-eq-true_iff (leb low v) (ascends_from v l)).0 e in
    (leb-true low v p.0, p.1)

pub ascends_lower : (low lower : ℕ) (l : List ℕ) → lower ≤ low → ascends_from low l ≡ true → ascends_from lower l ≡ true
unfolding ascends_from
ascends_lower low lower [] h e = refl
ascends_lower low lower (v ∷ l) h e =
    let p = ascends_uncons low v l e in
    ascends_cons lower v l (omega arith) p.1

pub ascends_above : (low : ℕ) (l : List ℕ) → ascends_from low l ≡ true → (at : ℕ) → at < length l → low ≤ get_or l at 0
ascends_above low [] e at h = absurd (omega arith)
ascends_above low (v ∷ l) e zero h = (ascends_uncons low v l e).0
ascends_above low (v ∷ l) e (suc at) h =
    let p = ascends_uncons low v l e in
    omega (arith, ascends_above v l p.1 at (omega arith), p.0)

-- What stands before a place is at most what stands there.
up_to_from : (low : ℕ) (l : List ℕ) → ascends_from low l ≡ true → (at : ℕ) → at < length l → every (λ v. leb v (get_or l at 0)) (take at l) ≡ true
unfolding every
up_to_from low [] e at h = absurd (omega arith)
up_to_from low (v ∷ l) e zero h = refl
up_to_from low (v ∷ l) e (suc at) h =
    let p = ascends_uncons low v l e in
    every_cons (λ u. leb u (get_or l at 0)) v (take at l) (le-leb v (get_or l at 0) (ascends_above v l p.1 at (omega arith)))
    (up_to_from v l p.1 at (omega arith))

pub ascends_up_to : (l : List ℕ) → ascends l ≡ true → (at : ℕ) → at < length l → every (λ v. leb v (get_or l at 0)) (take at l) ≡ true
unfolding ascends
ascends_up_to l e at h = up_to_from 0 l e at h

-- Numbers of which each is below every later one ascend.
in_order_from : (low : ℕ) (l : List ℕ) → ((v : ℕ) → Memᴰ v l → low ≤ v) → Ascending ◌<◌ l → ascends_from low l ≡ true
unfolding ascends_from
in_order_from low [] above up = refl
in_order_from low (v ∷ l) above up =
    ascends_cons low v l (above v (Memᴰ.head refl)) (in_order_from v l (λ u m. omega (arith, up.0 u m)) up.1)

pub in_order : (l : List ℕ) → Ascending ◌<◌ l → ascends l ≡ true
unfolding ascends
in_order l up = in_order_from 0 l (λ v m. omega arith) up
