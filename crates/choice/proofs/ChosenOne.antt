-- Document 01's words for the choice of a round leave no room: two choices that fit them are the same, triple and node.
use mathlib.Core.Path.{◌≡◌, sym}
use mathlib.Core.List.{List}
use mathlib.Core.Logic.{⊎_elim}
use Prim.Native.Nat.{ℕ}
use native.Mathlib.Omega.{arith}
use Rattle.entities.specs.declared.Triple.{Triple}
use Rattle.terms.specs.Weight.{weight_of}
use Rattle.choice.specs.Choice.{Choice, Larger, Chosen}

-- A triple isn't larger than one that is no smaller.
larger_not : (t u : Triple) → Larger t u → Larger u t → ⊥
larger_not t u h k =
    ⊎_elim
    (λ a. ⊎_elim (λ b. omega arith) (λ b. omega (arith, b.0)) k)
    (λ a.
    ⊎_elim (λ b. omega (arith, a.0))
    (λ b.
    ⊎_elim
    (λ c. ⊎_elim (λ d. omega arith) (λ d. omega (arith, d.0)) b.1)
    (λ c. ⊎_elim (λ d. omega (arith, c.0)) (λ d. omega (arith, c.1, d.1)) b.1)
    a.1)
    k)
    h

larger_self : (t : Triple) → Larger t t → ⊥
larger_self t h = larger_not t t h h

module _ (modes : ℕ) (table : List ℕ) (heuristic : ℕ) (assigned : List ℕ) (rows : List (List ℕ)) where
  pub chosen_one : (one other : Choice) → Chosen modes table heuristic assigned rows one → Chosen modes table heuristic assigned rows other
      → one ≡ other
  chosen_one one other c d =
      let same : weight_of one.triple rows ≡ weight_of other.triple rows =
      omega (arith, c.least other d.candidate, d.least one c.candidate) in
      ⊎_elim
      (λ less.
      ⊎_elim
      (λ more. absurd (larger_not one.triple other.triple less more))
      (λ tie. absurd (larger_self one.triple (rw (← tie.0) at less)))
      (d.largest one c.candidate same))
      (λ tie.
      ⊎_elim
      (λ more. absurd (larger_self one.triple (rw tie.0 at more)))
      (λ back. together one other (sym tie.0) (omega (arith, tie.1, back.1)))
      (d.largest one c.candidate same))
      (c.largest other d.candidate (sym same))
    where
      together : (a b : Choice) → a.triple ≡ b.triple → a.node ≡ b.node → a ≡ b
      together a b e f = go a.triple b.triple a.node b.node e f
        where
          go : (t u : Triple) (m n : ℕ) → t ≡ u → m ≡ n → ◌≡◌ {A = Choice} (record { node = m; triple = t }) (record { node = n; triple = u })
          go t u m n e f = cc
