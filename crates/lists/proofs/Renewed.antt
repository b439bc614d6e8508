-- A list renewed is as long as it was, and what stands at a place then is the rule's, by what stands before it.
use mathlib.Core.Path.{◌≡◌, refl, ap, ◌∙◌}
use mathlib.Core.List.{List, [], ◌∷◌, ◌++◌, append-nil, append_assoc}
use Prim.Native.Nat.{ℕ, zero, suc, ◌<◌}
use native.Mathlib.Omega.{arith}
use lib.ListN.{length, get_or, take}
use Rattle.lists.specs.Renewed.{renewed_after, renewed}

module _ {A : Type 0} (rule : List A → A → A) where
  length_renewed_after : (front l : List A) → length (renewed_after rule front l) ≡ length l
  unfolding renewed_after
  length_renewed_after front [] = refl
  length_renewed_after front (a ∷ l) = ap suc (length_renewed_after (front ++ (rule front a ∷ [])) l)

  pub length_renewed : (l : List A) → length (renewed rule l) ≡ length l
  unfolding renewed
  length_renewed l = length_renewed_after [] l

  renewed_after_at : (front l : List A) (place : ℕ) (d : A) → place < length l
      → get_or (renewed_after rule front l) place d ≡ rule (front ++ take place (renewed_after rule front l)) (get_or l place d)
  unfolding renewed_after
  renewed_after_at front [] place d h = absurd (omega arith)
  renewed_after_at front (a ∷ l) zero d h = rw (append-nil front)
  renewed_after_at front (a ∷ l) (suc place) d h =
      renewed_after_at (front ++ (rule front a ∷ [])) l place d (omega arith)
      ∙ ap (λ before. rule before (get_or l place d)) (append_assoc front (rule front a ∷ []) _)

  pub renewed_at : (l : List A) (place : ℕ) (d : A) → place < length l
      → get_or (renewed rule l) place d ≡ rule (take place (renewed rule l)) (get_or l place d)
  unfolding renewed
  renewed_at l place d h = renewed_after_at [] l place d h
