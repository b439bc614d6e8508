-- A term's strings multiplied give the letters of the term, and so weigh what it weighs.
use mathlib.Core.Path.{◌≡◌, refl, ap, ◌∙◌}
use mathlib.Core.Bool.{Bool, true, false, not}
use mathlib.Core.List.{List, [], ◌∷◌, map}
use Prim.Native.Nat.{ℕ, zero, suc, ◌+◌, ◌%◌}
use native.Mathlib.Nat.{zero-add}
use native.Mathlib.Omega.{arith}
use borrow.Author.Tests.{eqb-true, eqb-false, eq-eqb, ne_eqb}
use Rattle.lists.specs.Counting.{sum, same, occurrences}
use Rattle.lists.specs.Members.{firsts, firsts_after, some_of}
use Rattle.lists.proofs.Sums.{sum_map, same_none}
use Rattle.terms.specs.declared.letters.Letter.{Letter}
use Rattle.terms.specs.declared.letters.Letter.TheVariants.{Nothing, X, Y, Z}
use Rattle.terms.specs.Letters.{letter_of, odd, counted_letter, not_none}
use Rattle.tree.specs.Table.{nodes}
use Rattle.tree_weight.specs.Operators.{operators}
use Rattle.tree_weight.specs.Weight.{edge_under, edges, node_letter, node_weight, row_weight, tree_weight}
use Rattle.tree_weight.proofs.SurvivingWeigh.{surviving_weighs}
use Rattle.strings.specs.Strings.{edge_letter, majorana_letter, string}
use Rattle.strings.specs.Products.{times, multiplied, product, letters_in, ProductIsLetters, ProductWeighs}

odd_next : (number : ℕ) → odd (1 + number) ≡ not (odd number)
odd_next number = go (odd number) refl
  where
    go : (b : Bool) → odd number ≡ b → odd (1 + number) ≡ not b
    go true e = let was = eqb-true (number % 2) 1 e in ne_eqb ((1 + number) % 2) 1 (λ f. absurd (omega arith))
    go false e = let was = eqb-false (number % 2) 1 e in eq-eqb ((1 + number) % 2) 1 (omega arith)

-- A letter times that of three parities: its own parity turns.
x_turns : (x y z : Bool) → times X (letter_of x y z) ≡ letter_of (not x) y z
unfolding times letter_of
x_turns true true true = refl
x_turns true true false = refl
x_turns true false true = refl
x_turns true false false = refl
x_turns false true true = refl
x_turns false true false = refl
x_turns false false true = refl
x_turns false false false = refl

y_turns : (x y z : Bool) → times Y (letter_of x y z) ≡ letter_of x (not y) z
unfolding times letter_of
y_turns true true true = refl
y_turns true true false = refl
y_turns true false true = refl
y_turns true false false = refl
y_turns false true true = refl
y_turns false true false = refl
y_turns false false true = refl
y_turns false false false = refl

z_turns : (x y z : Bool) → times Z (letter_of x y z) ≡ letter_of x y (not z)
unfolding times letter_of
z_turns true true true = refl
z_turns true true false = refl
z_turns true false true = refl
z_turns true false false = refl
z_turns false true true = refl
z_turns false true false = refl
z_turns false false true = refl
z_turns false false false = refl

-- An edge's letter times that of counts is the letter of the counts with that edge.
edge_counted : (edge x y z : ℕ)
    → times (edge_letter edge) (counted_letter x y z) ≡ counted_letter (same edge 0 + x) (same edge 1 + y) (same edge 2 + z)
unfolding edge_letter counted_letter same times
edge_counted zero x y z = rw (odd_next x, zero-add y, zero-add z) (x_turns (odd x) (odd y) (odd z))
edge_counted (suc zero) x y z = rw (odd_next y, zero-add x, zero-add z) (y_turns (odd x) (odd y) (odd z))
edge_counted (suc (suc zero)) x y z = rw (odd_next z, zero-add x, zero-add y) (z_turns (odd x) (odd y) (odd z))
edge_counted (suc (suc (suc edge))) x y z =
    rw (
      same_none (suc (suc (suc edge))) 0 (λ e. omega arith),
      same_none (suc (suc (suc edge))) 1 (λ e. omega arith),
      same_none (suc (suc (suc edge))) 2 (λ e. omega arith),
      zero-add x,
      zero-add y,
      zero-add z,
    )

-- One Majorana more in a term multiplies its letter at every node.
majorana_joins : (modes : ℕ) (table : List ℕ) (majorana : ℕ) (term : List ℕ) (node : ℕ)
    → times (majorana_letter modes table majorana node) (node_letter modes table term node) ≡ node_letter modes table (majorana ∷ term) node
unfolding majorana_letter node_letter edges occurrences
majorana_joins modes table majorana term node =
    let under = edges modes table node term in
    edge_counted (edge_under table (suc modes) node (modes + majorana)) (occurrences 0 under) (occurrences 1 under) (occurrences 2 under)

multiplied_map : (f g h : ℕ → Letter) → ((a : ℕ) → times (f a) (g a) ≡ h a) → (l : List ℕ) → multiplied (map f l) (map g l) ≡ map h l
unfolding multiplied
multiplied_map f g h each [] = refl
multiplied_map f g h each (a ∷ l) = rw (each a, multiplied_map f g h each l)

pub product_is_letters : ProductIsLetters
unfolding product string node_letter edges occurrences counted_letter letter_of
product_is_letters modes table [] = go (nodes modes)
  where
    go : (l : List ℕ) → map (λ node. Nothing) l ≡ map (node_letter modes table []) l
    go [] = refl
    go (node ∷ l) = rw (go l)
product_is_letters modes table (majorana ∷ term) =
    rw (product_is_letters modes table term)
    (multiplied_map (majorana_letter modes table majorana) (node_letter modes table term) (node_letter modes table (majorana ∷ term))
    (majorana_joins modes table majorana term) (nodes modes))

pub product_weighs : ProductWeighs
unfolding letters_in tree_weight operators firsts firsts_after some_of sum row_weight node_weight
product_weighs modes table term below =
    let weight = ap letters_in (product_is_letters modes table term) ∙ sum_map not_none (node_letter modes table term) (nodes modes) in
    omega (arith, weight, surviving_weighs modes table term below)
