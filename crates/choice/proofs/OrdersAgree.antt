-- Of numbers that fit into 16 bits, the numbers that the code packs stand in the order that document 01 tells.
use mathlib.Core.Path.{◌≡◌, refl, ◌∙◌, sym}
use mathlib.Core.Bool.{Bool, true, false, ◌&&◌, ◌||◌}
use mathlib.Core.List.{List}
use Prim.Native.Nat.{ℕ, ◌<◌, ◌≤◌}
use native.Mathlib.Omega.{arith}
use borrow.Author.Tests.{ltb-true, ltb-false, eqb-true, eqb-false, lt-ltb, le-ltb}
use lib.Dec.{eqb, ltb}
use Rattle.lists.specs.Least.{lighter}
use Rattle.entities.specs.declared.Triple.{Triple}
use Rattle.terms.specs.Weight.{weight_of}
use Rattle.choice.specs.Choice.{Choice}
use Rattle.choice.specs.computed.Choosing.{larger, better}
use Rattle.choice.specs.code.Seeking.{weighed, packed, standing}

-- Numbers that fit into 16 bits.
pub record Fits (t : Triple) : Type 0 where
  pub x_fits : t.x < 65536
  pub y_fits : t.y < 65536
  pub z_fits : t.z < 65536

-- One test agrees with another; and where a first number decides, and on a tie what comes then.
same_lt : (m n a b : ℕ) → (m < n → a < b) → (n ≤ m → b ≤ a) → ltb m n ≡ ltb a b
same_lt m n a b less more = go (ltb m n) refl
  where
    go : (p : Bool) → ltb m n ≡ p → p ≡ ltb a b
    go true e = sym (lt-ltb a b (less (ltb-true m n e)))
    go false e = sym (le-ltb a b (more (ltb-false m n e)))

then_lt : (m n a b : ℕ) (rest : Bool) → (m < n → a < b) → (n < m → b ≤ a) → (m ≡ n → rest ≡ ltb a b) → (ltb m n || (eqb m n && rest)) ≡ ltb a b
then_lt m n a b rest less more tie = go (ltb m n) refl (eqb m n) refl
  where
    go : (p : Bool) → ltb m n ≡ p → (q : Bool) → eqb m n ≡ q → (p || (q && rest)) ≡ ltb a b
    go true e q f = sym (lt-ltb a b (less (ltb-true m n e)))
    go false e true f = tie (eqb-true m n f)
    go false e false f =
        let up = ltb-false m n e in
        let other = eqb-false m n f in
        sym (le-ltb a b (more (omega arith)))

module _ (t u : Triple) (h : Fits t) (k : Fits u) where
  packed_larger : larger t u ≡ ltb (packed u) (packed t)
  unfolding larger packed
  packed_larger =
      then_lt u.z t.z (packed u) (packed t) _ (λ less. omega arith) (λ more. omega arith)
      (λ z.
      then_lt u.y t.y (packed u) (packed t) _ (λ less. omega arith) (λ more. omega arith)
      (λ y. same_lt u.x t.x (packed u) (packed t) (λ less. omega arith) (λ more. omega arith)))

  packed_below : packed t < 281474976710656
  unfolding packed
  packed_below = omega arith

pub standing_better : (rows : List (List ℕ)) (c d : Choice) → Fits c.triple → Fits d.triple
    → lighter standing (weighed rows c.node c.triple) (weighed rows d.node d.triple) ≡ better rows c d
unfolding lighter standing weighed better
standing_better rows c d h k =
    let t = c.triple in
    let u = d.triple in
    let mine = packed_below t u h k in
    let other = packed_below u t k h in
    sym
    (then_lt (weight_of t rows) (weight_of u rows) (standing (weighed rows c.node t)) (standing (weighed rows d.node u)) _
    (λ less. omega arith) (λ more. omega arith)
    (λ tie.
    packed_larger t u h k
    ∙ same_lt (packed u) (packed t) (standing (weighed rows c.node t)) (standing (weighed rows d.node u))
    (λ less. omega arith) (λ more. omega arith)))
