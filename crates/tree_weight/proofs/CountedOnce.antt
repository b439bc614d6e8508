-- Each operator counts once: the claims about the tree weight.
use mathlib.Core.Path.{◌≡◌, refl, ◌∙◌, sym, ap}
use mathlib.Core.Bool.{true}
use mathlib.Core.List.Memᴰ
use mathlib.Core.List.{List, [], ◌∷◌, ◌++◌, map, map-append, Memᴰ}
use mathlib.Core.Logic.{⊎_elim}
use Prim.Native.Nat.{ℕ, suc, ◌*◌, ◌<◌}
use native.Mathlib.Omega.{arith}
use lib.Dec.{ltb}
use lib.ListN.{length, get_or}
use Rattle.lists.specs.Counting.{sum, occurrences}
use Rattle.lists.specs.Members.{every, alike, firsts}
use Rattle.lists.specs.Ordered.{Ascending}
use Rattle.lists.proofs.Alike.{alike_self, alike_same}
use Rattle.lists.proofs.Every.{every_uncons}
use Rattle.lists.proofs.FirstsWeighed.{Apart, firsts_weigh, firsts_at_most, firsts_all}
use Rattle.lists.proofs.Replaced.{place_of_member}
use Rattle.lists.proofs.Sums.{sum_of, occurrences_append}
use Rattle.tree_weight.specs.Operators.{surviving, operators}
use Rattle.tree_weight.specs.Weight.{row_weight, listed_weight, tree_weight}
use Rattle.tree_weight.specs.CountedOnce.{OperatorsAmong, SameOperatorsWeighTheSame, ListedAgain, InAnyOrder, PairsCancel, AtMostListed, AllDifferent}
use Rattle.tree_weight.proofs.Survivors.{parity_survives}
use Rattle.tree_weight.proofs.SurvivingWeigh.{surviving_weighs}

among : (modes : ℕ) (terms others : List (List ℕ)) → OperatorsAmong modes terms others
    → (operator : List ℕ) → Memᴰ operator (map (surviving (2 * modes)) terms) → Memᴰ operator (map (surviving (2 * modes)) others)
among modes terms others all operator m =
    let from = Memᴰ.of_map (surviving (2 * modes)) terms m in
    let to = all from.0 from.1 in
    rw (sym from.2 ∙ to.2) (Memᴰ.map (surviving (2 * modes)) to.1)

pub same_operators_weigh_the_same : SameOperatorsWeighTheSame
unfolding tree_weight operators
same_operators_weigh_the_same modes table terms others there back =
    firsts_weigh alike alike_self alike_same (row_weight modes table) (map (surviving (2 * modes)) terms) (map (surviving (2 * modes)) others)
    (among modes terms others there) (among modes others terms back)

pub in_any_order : InAnyOrder
in_any_order modes table terms others there back =
    same_operators_weigh_the_same modes table terms others
    (λ term m. (term, there term m, refl)) (λ term m. (term, back term m, refl))

pub listed_again : ListedAgain
listed_again modes table before after term again =
    in_any_order modes table (before ++ (term ∷ after)) (before ++ after)
    (λ other m. ⊎_elim
    (λ front. Memᴰ.append_left after front)
    (λ rest. ⊎_elim (λ e. rw e again) (λ later. Memᴰ.append_right before later) (Memᴰ.cases_cons rest))
    (Memᴰ.append_cases before m))
    (λ other m. ⊎_elim
    (λ front. Memᴰ.append_left (term ∷ after) front)
    (λ rest. Memᴰ.append_right before (Memᴰ.tail rest))
    (Memᴰ.append_cases before m))

pub pairs_cancel : PairsCancel
unfolding tree_weight operators occurrences
pairs_cancel modes table before after front rest index =
    let bound = 2 * modes in
    let one : surviving bound (front ++ (index ∷ index ∷ rest)) ≡ surviving bound (front ++ rest) =
    parity_survives bound (front ++ (index ∷ index ∷ rest)) (front ++ rest)
    (λ v h. omega (arith, occurrences_append v front (index ∷ index ∷ rest), occurrences_append v front rest)) in
    ap (λ l. sum_of (row_weight modes table) (firsts alike l))
    (map-append (surviving bound) before ((front ++ (index ∷ index ∷ rest)) ∷ after)
    ∙ ap (λ s. map (surviving bound) before ++ (s ∷ map (surviving bound) after)) one
    ∙ sym (map-append (surviving bound) before ((front ++ rest) ∷ after)))

-- All rows weigh what their surviving indices weigh.
listed_survive : (modes : ℕ) (table : List ℕ) (terms : List (List ℕ)) → every (every (λ index. ltb index (2 * modes))) terms ≡ true
    → sum_of (row_weight modes table) (map (surviving (2 * modes)) terms) ≡ listed_weight modes table terms
unfolding listed_weight sum
listed_survive modes table [] below = refl
listed_survive modes table (term ∷ terms) below =
    let p = every_uncons (every (λ index. ltb index (2 * modes))) term terms below in
    omega (arith, surviving_weighs modes table term p.0, listed_survive modes table terms p.1)

pub at_most_listed : AtMostListed
unfolding tree_weight operators
at_most_listed modes table terms below =
    omega (arith, firsts_at_most alike alike_self alike_same (row_weight modes table) (map (surviving (2 * modes)) terms), listed_survive modes table terms below)

-- Rows of which no two have the same value have values that are all different.
values_apart : (f : List ℕ → List ℕ) (terms : List (List ℕ))
    → ((place later : ℕ) → place < later → later < length terms → f (get_or terms place []) ≡ f (get_or terms later []) → ⊥)
    → Ascending Apart (map f terms)
values_apart f [] apart = tt
values_apart f (term ∷ terms) apart = (
  λ value m e.
      let from = Memᴰ.of_map f terms m in
      let at = place_of_member from.0 terms [] from.1 in
      apart 0 (suc at.0) (omega arith) (omega (arith, at.1)) (e ∙ sym from.2 ∙ ap f (sym at.2)),
  values_apart f terms (λ place later h k. apart (suc place) (suc later) (omega arith) (omega arith)),
)

pub all_different : AllDifferent
unfolding tree_weight operators
all_different modes table terms below apart =
    ap (sum_of (row_weight modes table))
    (firsts_all alike alike_self alike_same (map (surviving (2 * modes)) terms) (values_apart (surviving (2 * modes)) terms apart))
    ∙ listed_survive modes table terms below
