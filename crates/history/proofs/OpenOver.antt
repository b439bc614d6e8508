-- The open entity over a leaf, and a row's image as the open entities over its indices: what these weigh, the image weighs.
use mathlib.Core.Path.{◌≡◌, refl, ◌∙◌}
use mathlib.Core.Bool.{Bool, true, false}
use mathlib.Core.List.{List, [], ◌∷◌, map}
use Prim.Native.Nat.{ℕ, ◌*◌, ◌≤◌}
use borrow.Author.Tests.{eqb-false, le-leb}
use lib.Dec.{eqb}
use Rattle.lists.proofs.Sums.{sum_of, sum_map}
use Rattle.entities.specs.declared.Triple.{Triple}
use Rattle.reduction.specs.Reduction.{replacement, rewriting}
use Rattle.reduction.proofs.SortedRight.{sum_sorted}
use Rattle.history.specs.History.{next_parent, is_open}
use Rattle.history.specs.Images.{image}
use Rattle.history.proofs.Holders.{parent_open, stays_open}

-- The leaf itself at first; a merge of what is over it takes it to the merge's parent.
unfoldable pub open_over : ℕ → List Triple → ℕ → ℕ
open_over modes [] leaf = leaf
open_over modes (merge ∷ history) leaf = replacement merge (next_parent modes history) (open_over modes history leaf)

pub over_open : (modes : ℕ) (history : List Triple) (leaf : ℕ) → leaf ≤ 2 * modes → is_open modes history (open_over modes history leaf) ≡ true
unfolding open_over is_open replacement
over_open modes [] leaf h = le-leb leaf (2 * modes) h
over_open modes (merge ∷ history) leaf h = still (open_over modes history leaf) (over_open modes history leaf h)
  where
    still : (entity : ℕ) → is_open modes history entity ≡ true → is_open modes (merge ∷ history) (replacement merge (next_parent modes history) entity) ≡ true
    still entity o = go (eqb entity merge.x) refl (eqb entity merge.y) refl (eqb entity merge.z) refl
      where
        go : (x : Bool) → eqb entity merge.x ≡ x → (y : Bool) → eqb entity merge.y ≡ y → (z : Bool) → eqb entity merge.z ≡ z
            → is_open modes (merge ∷ history) (replacement merge (next_parent modes history) entity) ≡ true
        go true p y q z r = rw p (parent_open modes merge history)
        go false p true q z r = rw (p, q) (parent_open modes merge history)
        go false p false q true r = rw (p, q, r) (parent_open modes merge history)
        go false p false q false r =
            rw (p, q, r)
            (stays_open modes merge history entity o
            (record { not_x = eqb-false entity merge.x p; not_y = eqb-false entity merge.y q; not_z = eqb-false entity merge.z r }))

pub sum_image : (modes : ℕ) (history : List Triple) (weight : ℕ → ℕ) (term : List ℕ)
    → sum_of weight (image modes history term) ≡ sum_of (λ index. weight (open_over modes history index)) term
unfolding image open_over rewriting
sum_image modes [] weight term = refl
sum_image modes (merge ∷ history) weight term =
    let replaced = replacement merge (next_parent modes history) in
    sum_sorted weight (map replaced (image modes history term))
    ∙ sum_map weight replaced (image modes history term)
    ∙ sum_image modes history (λ entity. weight (replaced entity)) term
