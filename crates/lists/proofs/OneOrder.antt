-- Numbers have one ascending order: two lists that ascend and have each number as often are the same list.
use Rattle.std.proofs.Common.{◌≡◌, ℕ, ◌<◌, List, [], ◌∷◌, true, arith, refl, ap, sym, eqb, cond}
use Rattle.std.proofs.lemmas.List.Sorted.{sum_by-IsPermutation}
use Rattle.std.specs.List.Sorted.{IsPermutation}
use Rattle.lists.specs.Counting.{same, occurrences}
use Rattle.lists.specs.Ranges.{ascends_from, ascends}
use Rattle.lists.proofs.Ascending.{ascends_cons, ascends_uncons, ascends_lower}
use Rattle.lists.proofs.Standard.{occurrences_is}
use Rattle.lists.proofs.Sums.{same_one, same_none}

-- A number below where a list begins is not in it.
none_lower : (v low : ℕ) (l : List ℕ) → v < low → ascends_from low l ≡ true → occurrences v l ≡ 0
unfolding occurrences
none_lower v low [] h up = refl
none_lower v low (a ∷ l) h up =
    let p = ascends_uncons low a l up in
    omega (arith, same_none a v (λ e. absurd (omega arith)), none_lower v low l h (ascends_lower a low l (omega arith) p.1))

not_below : (a b : ℕ) (l m : List ℕ) → occurrences a (a ∷ l) ≡ occurrences a (b ∷ m) → ascends_from b m ≡ true → a < b → ⊥
unfolding occurrences
not_below a b l m as_often up h =
    let none : occurrences a (b ∷ m) ≡ 0 = none_lower a b (b ∷ m) h (ascends_cons b b m (omega arith) up) in
    absurd (omega (arith, as_often, none, same_one a a refl))

one_order_from : (low : ℕ) (l m : List ℕ) → ascends_from low l ≡ true → ascends_from low m ≡ true
    → ((v : ℕ) → occurrences v l ≡ occurrences v m) → l ≡ m
unfolding occurrences
one_order_from low [] [] up also as_often = refl
one_order_from low [] (b ∷ m) up also as_often = absurd (omega (arith, as_often b, same_one b b refl))
one_order_from low (a ∷ l) [] up also as_often = absurd (omega (arith, as_often a, same_one a a refl))
one_order_from low (a ∷ l) (b ∷ m) up also as_often =
    let p = ascends_uncons low a l up in
    let q = ascends_uncons low b m also in
    let first : a ≡ b = omega (arith, not_below a b l m (as_often a) q.1, not_below b a m l (sym (as_often b)) p.1) in
    let rest : l ≡ m = one_order_from a l m p.1 (rw (← first) at q.1) (λ v. omega (arith, as_often v, ap (λ x. same x v) first)) in
    cc

-- Sorting moves numbers, and changes none.
pub as_often : (l m : List ℕ) → IsPermutation l m → (v : ℕ) → occurrences v m ≡ occurrences v l
as_often l m moved v = rw (occurrences_is v m, occurrences_is v l) (sum_by-IsPermutation (λ x. cond (eqb x v) 1 0) l m moved)

pub one_order : (l m : List ℕ) → ascends l ≡ true → ascends m ≡ true → ((v : ℕ) → occurrences v l ≡ occurrences v m) → l ≡ m
unfolding ascends
one_order l m up also same_often = one_order_from 0 l m up also same_often
