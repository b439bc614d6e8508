-- A row weighs what its surviving indices weigh, and an empty row nothing.
use mathlib.Core.Path.{◌≡◌, refl, ◌∙◌, sym, ap}
use mathlib.Core.Bool.{Bool, true, false, cond}
use mathlib.Core.List.{List, [], ◌∷◌, map}
use Prim.Native.Nat.{ℕ, suc, ◌+◌, ◌*◌, ◌%◌, ◌<◌}
use lib.Dec.{eqb, ltb}
use Rattle.lists.specs.Counting.{sum, occurrences}
use Rattle.lists.specs.Members.{every}
use Rattle.lists.proofs.NumberByNumber.{total_parity, tallied}
use Rattle.terms.specs.Letters.{letter_of, counted_letter, not_none}
use Rattle.tree.specs.Table.{nodes}
use Rattle.tree_weight.specs.Operators.{surviving}
use Rattle.tree_weight.specs.Weight.{edge_under, edges, node_letter, node_weight, row_weight}
use Rattle.tree_weight.specs.CountedOnce.{SurvivingDecide}
use Rattle.tree_weight.proofs.Survivors.{surviving_below, surviving_parity}

-- Two rows of one parity everywhere have edges of one parity.
edges_parity : (f : ℕ → ℕ) (edge bound : ℕ) (l m : List ℕ) → every (λ v. ltb v bound) l ≡ true → every (λ v. ltb v bound) m ≡ true
    → ((v : ℕ) → v < bound → occurrences v l % 2 ≡ occurrences v m % 2) → occurrences edge (map f l) % 2 ≡ occurrences edge (map f m) % 2
edges_parity f edge bound l m below_l below_m same =
    ap (λ n. n % 2) (tallied f edge bound l below_l)
    ∙ total_parity (λ v. cond (eqb (f v) edge) (occurrences v l) 0) (λ v. cond (eqb (f v) edge) (occurrences v m) 0) bound
    (λ v h. go (eqb (f v) edge) (occurrences v l) (occurrences v m) (same v h))
    ∙ sym (ap (λ n. n % 2) (tallied f edge bound m below_m))
  where
    go : (b : Bool) (p q : ℕ) → p % 2 ≡ q % 2 → cond b p 0 % 2 ≡ cond b q 0 % 2
    go true p q e = e
    go false p q e = refl

pub surviving_decide : SurvivingDecide
unfolding node_letter edges counted_letter
surviving_decide modes table term node below =
    let f : ℕ → ℕ = λ index. edge_under table (suc modes) node (modes + index) in
    let same : (edge : ℕ) → occurrences edge (map f (surviving (2 * modes) term)) % 2 ≡ occurrences edge (map f term) % 2 =
    λ edge. edges_parity f edge (2 * modes) (surviving (2 * modes) term) term (surviving_below (2 * modes) term) below (surviving_parity (2 * modes) term) in
    rw (same 0, same 1, same 2)

-- The same of the weight over every node.
pub surviving_weighs : (modes : ℕ) (table term : List ℕ) → every (λ index. ltb index (2 * modes)) term ≡ true
    → row_weight modes table (surviving (2 * modes) term) ≡ row_weight modes table term
unfolding row_weight node_weight sum
surviving_weighs modes table term below = go (nodes modes)
  where
    go : (l : List ℕ)
        → sum (map (λ node. not_none (node_letter modes table (surviving (2 * modes) term) node)) l)
        ≡ sum (map (λ node. not_none (node_letter modes table term node)) l)
    go [] = refl
    go (node ∷ l) = rw (surviving_decide modes table term node below, go l)

pub empty_weighs : (modes : ℕ) (table : List ℕ) → row_weight modes table [] ≡ 0
unfolding row_weight node_weight node_letter edges occurrences counted_letter letter_of sum
empty_weighs modes table = go (nodes modes)
  where
    go : (l : List ℕ) → sum (map (node_weight modes table []) l) ≡ 0
    go [] = refl
    go (node ∷ l) = rw (go l)
