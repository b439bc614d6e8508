-- Where a number occurs: at a place, or nowhere; and whether it does.
use mathlib.Core.Path.{◌≡◌, refl, ap, sym}
use mathlib.Core.Bool.{Bool, true, false, not}
use mathlib.Core.List.{List, [], ◌∷◌}
use Prim.Native.Nat.{ℕ, zero, suc, ◌+◌, ◌<◌, ◌≤◌}
use native.Mathlib.Omega.{arith}
use borrow.Author.Tests.{eqb-true, eqb-false}
use lib.Dec.{eqb}
use lib.ListN.{length, get_or}
use Rattle.lists.specs.Counting.{same, occurrences}
use Rattle.lists.specs.Members.{some_of}
use Rattle.lists.proofs.Tests.{neither}
use Rattle.lists.proofs.Sums.{one_if, same_one, same_none}

pub occurs_at : (x : ℕ) (l : List ℕ) (i d : ℕ) → i < length l → get_or l i d ≡ x → 1 ≤ occurrences x l
unfolding occurrences
occurs_at x [] i d h e = absurd (omega arith)
occurs_at x (v ∷ l) zero d h e = omega (arith, same_one v x e)
occurs_at x (v ∷ l) (suc i) d h e = omega (arith, occurs_at x l i d (omega arith) e)

pub occurs_nowhere : (x : ℕ) (l : List ℕ) (i d : ℕ) → occurrences x l ≡ 0 → i < length l → same (get_or l i d) x ≡ 0
occurs_nowhere x l i d e h = same_none (get_or l i d) x (λ q. absurd (omega (arith, occurs_at x l i d h q)))

-- Two places at which a number stands.
pub occurs_twice : (v : ℕ) (l : List ℕ) (i j d : ℕ) → i < length l → j < length l → (i ≡ j → ⊥) → get_or l i d ≡ v → get_or l j d ≡ v
    → 2 ≤ occurrences v l
unfolding occurrences
occurs_twice v [] i j d h k apart e f = absurd (omega arith)
occurs_twice v (a ∷ l) zero zero d h k apart e f = absurd (apart refl)
occurs_twice v (a ∷ l) zero (suc j) d h k apart e f = omega (arith, same_one a v e, occurs_at v l j d (omega arith) f)
occurs_twice v (a ∷ l) (suc i) zero d h k apart e f = omega (arith, same_one a v f, occurs_at v l i d (omega arith) e)
occurs_twice v (a ∷ l) (suc i) (suc j) d h k apart e f =
    omega (arith, occurs_twice v l i j d (omega arith) (omega arith) (λ q. apart (ap suc q)) e f)

-- The test for one that is the number tells whether it occurs.
pub none_occurs : (v : ℕ) (l : List ℕ) → some_of (eqb v) l ≡ false → occurrences v l ≡ 0
unfolding some_of occurrences
none_occurs v [] e = refl
none_occurs v (a ∷ l) e =
    let r = neither (eqb v a) (some_of (eqb v) l) e in
    omega (arith, same_none a v (λ q. eqb-false v a r.0 (sym q)), none_occurs v l r.1)

pub some_occurs : (v : ℕ) (l : List ℕ) → some_of (eqb v) l ≡ true → 1 ≤ occurrences v l
unfolding some_of occurrences
some_occurs v [] e = let z : ◌≡◌ {A = ℕ} 0 1 = cc in absurd (omega arith)
some_occurs v (a ∷ l) e = go (eqb v a) refl (some_occurs v l)
  where
    go : (b : Bool) → eqb v a ≡ b → (some_of (eqb v) l ≡ true → 1 ≤ occurrences v l) → 1 ≤ same a v + occurrences v l
    go true q on = omega (arith, same_one a v (sym (eqb-true v a q)))
    go false q on = omega (arith, on (rw q at e))

pub one_or_none : (v : ℕ) (l : List ℕ) → occurrences v l ≤ 1 → occurrences v l + one_if (not (some_of (eqb v) l)) ≡ 1
one_or_none v l h = go (some_of (eqb v) l) refl
  where
    go : (b : Bool) → some_of (eqb v) l ≡ b → occurrences v l + one_if (not b) ≡ 1
    go true q = omega (arith, some_occurs v l q)
    go false q = omega (arith, none_occurs v l q)
