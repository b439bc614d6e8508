-- Merges kept the oldest first: the newest of them decides whether an entity is open and where it ends, or leaves it to those before.
use Rattle.std.proofs.Common.{◌≡◌, refl, ap, ◌∙◌, sym, Bool, true, false, ◌&&◌, List, [], ◌∷◌, ◌++◌, ℕ, ◌*◌, arith, eq-eqb, ne_eqb, length, reverse, length-append}
use Rattle.std.proofs.lemmas.List.{reverse-append, length-reverse}
use Rattle.entities.specs.declared.Triple.{Triple}
use Rattle.entities.specs.Parents.{parent_number}
use Rattle.history.specs.History.{among, is_open, next_parent, z_end}
use Rattle.history.proofs.Holders.{parent_end, other_end}
use Rattle.best.specs.Call.{sequence_numbers}

pub newest_first : (older : List Triple) (merge : Triple) → reverse (older ++ (merge ∷ [])) ≡ merge ∷ reverse older
newest_first older merge = reverse-append older (merge ∷ [])

pub parent_after : (modes : ℕ) (merges : List Triple) → next_parent modes (reverse merges) ≡ parent_number modes (length merges)
unfolding next_parent
parent_after modes merges = ap (parent_number modes) (length-reverse merges)

module _ (modes : ℕ) (older : List Triple) (merge : Triple) (entity : ℕ) where
  pub parent_opens : entity ≡ parent_number modes (length older) → is_open modes (reverse (older ++ (merge ∷ []))) entity ≡ true
  unfolding is_open
  parent_opens e = rw (newest_first older merge, eq-eqb entity _ (e ∙ sym (parent_after modes older)))

  pub parent_ends : entity ≡ parent_number modes (length older)
      → z_end modes (reverse (older ++ (merge ∷ []))) entity ≡ z_end modes (reverse older) merge.z
  parent_ends e = rw (newest_first older merge) (parent_end modes merge (reverse older) entity (e ∙ sym (parent_after modes older)))

  module _ (other : entity ≡ parent_number modes (length older) → ⊥) where
    pub child_closes : among merge entity ≡ true → is_open modes (reverse (older ++ (merge ∷ []))) entity ≡ false
    unfolding is_open
    child_closes e = rw (newest_first older merge, ne_eqb entity _ (λ q. other (q ∙ parent_after modes older)), e) (go (is_open modes (reverse older) entity))
      where
        go : (b : Bool) → (b && false) ≡ false
        go true = refl
        go false = refl

    pub others_stay : among merge entity ≡ false
        → is_open modes (reverse (older ++ (merge ∷ []))) entity ≡ is_open modes (reverse older) entity
    unfolding is_open
    others_stay e = rw (newest_first older merge, ne_eqb entity _ (λ q. other (q ∙ parent_after modes older)), e) (go (is_open modes (reverse older) entity))
      where
        go : (b : Bool) → (b && true) ≡ b
        go true = refl
        go false = refl

    pub others_end : z_end modes (reverse (older ++ (merge ∷ []))) entity ≡ z_end modes (reverse older) entity
    others_end = rw (newest_first older merge) (other_end modes merge (reverse older) entity (λ q. other (q ∙ parent_after modes older)))

pub length_numbers : (history : List Triple) → length (sequence_numbers history) ≡ 3 * length history
unfolding sequence_numbers
length_numbers [] = refl
length_numbers (merge ∷ history) =
    omega (arith, length-append (sequence_numbers history) (merge.x ∷ (merge.y ∷ (merge.z ∷ []))), length_numbers history)
