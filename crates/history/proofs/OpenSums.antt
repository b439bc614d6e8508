-- A sum over the open entities, and how a merge changes it: three go, their parent comes.
use mathlib.Core.Path.{◌≡◌, refl, ◌∙◌, sym}
use mathlib.Core.Bool.{Bool, true, false, cond, not, ◌&&◌, ◌||◌}
use mathlib.Core.List.{List, [], ◌∷◌}
use mathlib.Core.Logic.{⊎_elim}
use Prim.Native.Nat.{ℕ, suc, ◌+◌, ◌*◌, ◌<◌, ◌≤◌}
use native.Mathlib.Nat.{add-suc, add-zero, mul-zero}
use native.Mathlib.Omega.{arith}
use borrow.Author.Tests.{ne_eqb, le-leb}
use lib.Dec.{eqb}
use lib.ListN.{length}
use Rattle.lists.proofs.Tests.{same_or_not}
use Rattle.lists.proofs.Totals.{total, without, without_there, total_same, total_ones, total_add, total_times, total_apart, total_single}
use Rattle.entities.specs.declared.Triple.{Triple}
use Rattle.history.specs.History.{next_parent, among, is_open}
use Rattle.history.specs.Lawful.{Lawful, LawfulHistory, OneRoot}
use Rattle.history.proofs.Holders.{open_below, parent_open}

pub parent_after : (modes : ℕ) (merge : Triple) (history : List Triple) → next_parent modes (merge ∷ history) ≡ suc (next_parent modes history)
unfolding next_parent
parent_after modes merge history = add-suc (2 * modes + 1) (length history)

-- What an entity adds to the sum: its value if it is open.
unfoldable pub share : ℕ → List Triple → (ℕ → ℕ) → ℕ → ℕ
share modes history value entity = cond (is_open modes history entity) (value entity) 0

-- The sum of the values of the open entities.
unfoldable pub open_sum : ℕ → List Triple → (ℕ → ℕ) → ℕ
open_sum modes history value = total (share modes history value) (next_parent modes history)

none_either : (b : Bool) → cond {A = ℕ} b 0 0 ≡ 0
none_either true = refl
none_either false = refl

module _ (modes : ℕ) (history : List Triple) where
  pub share_open : (value : ℕ → ℕ) (entity : ℕ) → is_open modes history entity ≡ true → share modes history value entity ≡ value entity
  unfolding share
  share_open value entity e = rw e

  pub share_closed : (value : ℕ → ℕ) (entity : ℕ) → is_open modes history entity ≡ false → share modes history value entity ≡ 0
  unfolding share
  share_closed value entity e = rw e

  pub open_same : (f g : ℕ → ℕ) → ((entity : ℕ) → is_open modes history entity ≡ true → f entity ≡ g entity)
      → open_sum modes history f ≡ open_sum modes history g
  unfolding open_sum share
  open_same f g h =
      total_same (share modes history f) (share modes history g) (next_parent modes history) (λ k l. go k (is_open modes history k) refl)
    where
      go : (k : ℕ) → (o : Bool) → is_open modes history k ≡ o → share modes history f k ≡ share modes history g k
      go k true e = rw e (h k e)
      go k false e = rw e

  pub open_add : (f g : ℕ → ℕ) → open_sum modes history (λ entity. f entity + g entity) ≡ open_sum modes history f + open_sum modes history g
  unfolding open_sum share
  open_add f g =
      total_same (share modes history (λ entity. f entity + g entity)) (λ k. share modes history f k + share modes history g k) (next_parent modes history)
      (λ k l. go k (is_open modes history k))
      ∙ total_add (share modes history f) (share modes history g) (next_parent modes history)
    where
      go : (k : ℕ) → (o : Bool) → cond o (f k + g k) 0 ≡ cond o (f k) 0 + cond o (g k) 0
      go k true = refl
      go k false = refl

  pub open_times : (c : ℕ) (f : ℕ → ℕ) → open_sum modes history (λ entity. c * f entity) ≡ c * open_sum modes history f
  unfolding open_sum share
  open_times c f =
      total_same (share modes history (λ entity. c * f entity)) (λ k. c * share modes history f k) (next_parent modes history)
      (λ k l. go k (is_open modes history k))
      ∙ total_times c (share modes history f) (next_parent modes history)
    where
      go : (k : ℕ) → (o : Bool) → cond o (c * f k) 0 ≡ c * cond o (f k) 0
      go k true = refl
      go k false = rw mul-zero

  -- Only one open entity has a value.
  pub open_single : (value : ℕ → ℕ) (point : ℕ) → is_open modes history point ≡ true
      → ((entity : ℕ) → is_open modes history entity ≡ true → (entity ≡ point → ⊥) → value entity ≡ 0)
      → open_sum modes history value ≡ value point
  unfolding open_sum share
  open_single value point opened others =
      total_single (share modes history value) (next_parent modes history) point (open_below modes history point opened)
      (λ k l apart. go k apart (is_open modes history k) refl)
      ∙ share_open value point opened
    where
      go : (k : ℕ) → (k ≡ point → ⊥) → (o : Bool) → is_open modes history k ≡ o → share modes history value k ≡ 0
      go k apart true e = rw e (others k e apart)
      go k apart false e = rw e

  module _ (merge : Triple) (lawful : Lawful modes history merge) (value : ℕ → ℕ) where
    left : ℕ → ℕ
    left = without merge.z (without merge.y (without merge.x (share modes history value)))

    left_open : (k : ℕ) → k < next_parent modes history → share modes (merge ∷ history) value k ≡ left k
    unfolding share is_open left without among
    left_open k l =
        rw (ne_eqb k (next_parent modes history) (λ q. omega arith))
        (go (is_open modes history k) (eqb k merge.x) (eqb k merge.y) (eqb k merge.z))
      where
        go : (o x y z : Bool) → cond (o && not (x || (y || z))) (value k) 0 ≡ cond z 0 (cond y 0 (cond x 0 (cond o (value k) 0)))
        go false x y z = simp none_either
        go true true y z = simp none_either
        go true false true z = simp none_either
        go true false false true = refl
        go true false false false = refl

    parent_share : share modes (merge ∷ history) value (next_parent modes history) ≡ value (next_parent modes history)
    unfolding share
    parent_share = rw (parent_open modes merge history)

    left_total : total (share modes history value) (next_parent modes history)
        ≡ value merge.x + value merge.y + value merge.z + total left (next_parent modes history)
    unfolding left
    left_total =
        let s = share modes history value in
        let p = next_parent modes history in
        let no_x = total_apart s p merge.x (open_below modes history merge.x lawful.x_open) in
        let no_y = total_apart (without merge.x s) p merge.y (open_below modes history merge.y lawful.y_open) in
        let no_z = total_apart (without merge.y (without merge.x s)) p merge.z (open_below modes history merge.z lawful.z_open) in
        let at_x = share_open value merge.x lawful.x_open in
        let at_y = without_there merge.x s merge.y (λ q. lawful.x_not_y (sym q)) ∙ share_open value merge.y lawful.y_open in
        let at_z =
        without_there merge.y (without merge.x s) merge.z (λ q. lawful.y_not_z (sym q))
        ∙ without_there merge.x s merge.z (λ q. lawful.x_not_z (sym q))
        ∙ share_open value merge.z lawful.z_open in
        omega arith

    pub open_step : open_sum modes (merge ∷ history) value + (value merge.x + value merge.y + value merge.z)
        ≡ open_sum modes history value + value (next_parent modes history)
    unfolding open_sum total
    open_step =
        rw (parent_after modes merge history, parent_share, total_same (share modes (merge ∷ history) value) left (next_parent modes history) left_open, left_total)
        (omega arith)

-- Before the first merge all leaves are open.
pub open_start : (modes : ℕ) (value : ℕ → ℕ) → open_sum modes [] value ≡ total value (2 * modes + 1)
unfolding open_sum share is_open next_parent
open_start modes value =
    rw (add-zero (2 * modes + 1))
    (total_same (share modes [] value) value (2 * modes + 1) (λ k l. share_open modes [] value k (le-leb k (2 * modes) (omega arith))))

-- Each merge leaves two fewer.
pub open_count : (modes : ℕ) (history : List Triple) → LawfulHistory modes history
    → open_sum modes history (λ entity. 1) + 2 * length history ≡ 2 * modes + 1
open_count modes [] lawful = rw (open_start modes (λ entity. 1), total_ones (2 * modes + 1)) (omega arith)
open_count modes (merge ∷ history) lawful =
    let step = open_step modes history merge lawful.0 (λ entity. 1) in
    let before = open_count modes history lawful.1 in
    omega arith

-- Where one entity alone is open, a sum over the open ones is its value.
module _ (modes : ℕ) (history : List Triple) (root : ℕ) (opened : is_open modes history root ≡ true)
    (alone : open_sum modes history (λ entity. 1) ≡ 1) where
  no_other : (k : ℕ) → is_open modes history k ≡ true → (k ≡ root → ⊥) → ⊥
  unfolding open_sum
  no_other k e apart =
      let ones = share modes history (λ entity. 1) in
      let one = share_open modes history (λ entity. 1) root opened in
      let one_more = without_there root ones k apart ∙ share_open modes history (λ entity. 1) k e in
      let first = total_apart ones (next_parent modes history) root (open_below modes history root opened) in
      let second = total_apart (without root ones) (next_parent modes history) k (open_below modes history k e) in
      omega arith

  pub alone_sum : (value : ℕ → ℕ) → open_sum modes history value ≡ value root
  alone_sum value = open_single modes history value root opened (λ k e apart. absurd (no_other k e apart))

-- "After n steps the last parent is the root."
module _ (modes : ℕ) (merge : Triple) (history : List Triple) (lawful : LawfulHistory modes (merge ∷ history)) (all : suc (length history) ≡ modes) where
  root_is : next_parent modes history ≡ 3 * modes
  unfolding next_parent
  root_is = omega arith

  root_open : is_open modes (merge ∷ history) (3 * modes) ≡ true
  root_open = rw root_is at (parent_open modes merge history)

  one_open : open_sum modes (merge ∷ history) (λ entity. 1) ≡ 1
  one_open = omega (arith, open_count modes (merge ∷ history) lawful)

pub root_sum : (modes : ℕ) (history : List Triple) → LawfulHistory modes history → length history ≡ modes → 1 ≤ modes
    → (value : ℕ → ℕ) → open_sum modes history value ≡ value (3 * modes)
root_sum modes [] lawful all some_modes value = absurd (omega arith)
root_sum modes (merge ∷ history) lawful all some_modes value =
    alone_sum modes (merge ∷ history) (3 * modes) (root_open modes merge history lawful all) (one_open modes merge history lawful all) value

pub one_root : (modes : ℕ) (history : List Triple) → LawfulHistory modes history → length history ≡ modes → 1 ≤ modes → OneRoot modes history
one_root modes [] lawful all some_modes = absurd (omega arith)
one_root modes (merge ∷ history) lawful all some_modes =
    let opened = root_open modes merge history lawful all in
    record {
      root_open = opened;
      alone = λ entity e.
          ⊎_elim (λ same. same)
          (λ apart. absurd (no_other modes (merge ∷ history) (3 * modes) opened (one_open modes merge history lawful all) entity e apart))
          (same_or_not entity (3 * modes));
    }
