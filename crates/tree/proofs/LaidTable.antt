-- Rows of four laid over a table: a place that no row is for stays as it was, and a node whose one row is among them has its children.
use mathlib.Core.Path.{◌≡◌, refl, ap, ◌∙◌, sym}
use mathlib.Core.Bool.{Bool, true, false}
use mathlib.Core.List.{List, [], ◌∷◌, ◌++◌}
use Prim.Native.Nat.{ℕ, zero, suc, ◌+◌, ◌*◌, ◌<◌, ◌≤◌}
use native.Mathlib.Nat.{add-zero}
use native.Mathlib.Omega.{arith}
use borrow.Author.Tests.{lt-ltb, eqb-true, eqb-false, ltb-true, ltb-false}
use lib.Dec.{eqb, ltb}
use lib.ListN.{length, get_or, take, drop, replicate, length-replicate}
use lib.Seq.{get_or-drop, take_at, length-take-le}
use Rattle.lists.specs.Counting.{occurrences}
use Rattle.lists.specs.Members.{every}
use Rattle.lists.specs.Written.{written_at}
use Rattle.lists.proofs.Every.{every_uncons}
use Rattle.lists.proofs.Counting.{occurs_not}
use Rattle.lists.proofs.Sums.{same_one, same_none}
use Rattle.lists.proofs.Written.{length_written, getD_before, getD_within, drop_written}
use Rattle.entities.specs.Codes.{absent}
use Rattle.tree.specs.Table.{child}
use Rattle.tree.specs.Laying.{row_over, laid_over, laid, modes_in, table_of}

-- The labels of rows of four.
unfoldable pub labels_of : List ℕ → List ℕ
labels_of [] = []
labels_of (label ∷ []) = []
labels_of (label ∷ (x ∷ [])) = []
labels_of (label ∷ (x ∷ (y ∷ []))) = []
labels_of (label ∷ (x ∷ (y ∷ (z ∷ rows)))) = label ∷ labels_of rows

-- A table has a node's row.
pub record Has (table : List ℕ) (label x y z : ℕ) : Type 0 where
  pub x_is : child table label 0 ≡ x
  pub y_is : child table label 1 ≡ y
  pub z_is : child table label 2 ≡ z

-- A table has each of the rows.
unfoldable pub HasAll : List ℕ → List ℕ → Type 0
HasAll table [] = Unit {0}
HasAll table (label ∷ []) = Unit {0}
HasAll table (label ∷ (x ∷ [])) = Unit {0}
HasAll table (label ∷ (x ∷ (y ∷ []))) = Unit {0}
HasAll table (label ∷ (x ∷ (y ∷ (z ∷ rows)))) = Has table label x y z × HasAll table rows

pub has_none : (table : List ℕ) → HasAll table []
unfolding HasAll
has_none table = tt

module _ (table : List ℕ) (label x y z : ℕ) where
  pub length_row : length (row_over table label (x ∷ (y ∷ (z ∷ [])))) ≡ length table
  unfolding row_over
  length_row = go (ltb (3 * label + 2) (length table)) refl
    where
      go : (b : Bool) → ltb (3 * label + 2) (length table) ≡ b → length (row_over table label (x ∷ (y ∷ (z ∷ [])))) ≡ length table
      go true q = rw q (length_written (3 * label) (x ∷ (y ∷ (z ∷ []))) table (omega (arith, ltb-true (3 * label + 2) (length table) q)))
      go false q = rw q

  module _ (fits : 3 * label + 2 < length table) where
    row_written : row_over table label (x ∷ (y ∷ (z ∷ []))) ≡ written_at (3 * label) (x ∷ (y ∷ (z ∷ []))) table
    unfolding row_over
    row_written = rw (lt-ltb (3 * label + 2) (length table) fits)

    pub row_has : Has (row_over table label (x ∷ (y ∷ (z ∷ [])))) label x y z
    unfolding child
    row_has =
        record {
          x_is = rw row_written (getD_within (3 * label) (x ∷ (y ∷ (z ∷ []))) table (omega arith) 0 absent (omega arith));
          y_is = rw row_written (getD_within (3 * label) (x ∷ (y ∷ (z ∷ []))) table (omega arith) 1 absent (omega arith));
          z_is = rw row_written (getD_within (3 * label) (x ∷ (y ∷ (z ∷ []))) table (omega arith) 2 absent (omega arith));
        }

  -- The row of another node leaves a node's children as they were.
  pub row_other : (other edge : ℕ) → (label ≡ other → ⊥) → edge < 3
      → child (row_over table label (x ∷ (y ∷ (z ∷ [])))) other edge ≡ child table other edge
  unfolding row_over child
  row_other other edge apart h = go (ltb (3 * label + 2) (length table)) refl
    where
      beyond : (l : List ℕ) → get_or l (3 * other + edge) absent ≡ get_or (drop (3 * other + edge) l) 0 absent
      beyond l = sym (get_or-drop (3 * other + edge) l 0 absent ∙ ap (λ n. get_or l n absent) (add-zero (3 * other + edge)))

      side : (b : Bool) → ltb label other ≡ b → 3 * label + 2 < length table
          → get_or (written_at (3 * label) (x ∷ (y ∷ (z ∷ []))) table) (3 * other + edge) absent ≡ get_or table (3 * other + edge) absent
      side true q fits =
          let low = ltb-true label other q in
          beyond (written_at (3 * label) (x ∷ (y ∷ (z ∷ []))) table)
          ∙ ap (λ l. get_or l 0 absent)
          (drop_written (3 * label) (x ∷ (y ∷ (z ∷ []))) table (omega arith) (3 * other + edge) (omega arith))
          ∙ sym (beyond table)
      side false q fits =
          let high = ltb-false label other q in
          getD_before (3 * label) (x ∷ (y ∷ (z ∷ []))) table (omega arith) (3 * other + edge) absent
          (below (eqb label other) refl)
        where
          below : (b : Bool) → eqb label other ≡ b → 3 * other + edge < 3 * label
          below true p = absurd (apart (eqb-true label other p))
          below false p = let high = ltb-false label other q in let e = eqb-false label other p in omega arith

      go : (b : Bool) → ltb (3 * label + 2) (length table) ≡ b
          → child (row_over table label (x ∷ (y ∷ (z ∷ [])))) other edge ≡ child table other edge
      go true q = rw q (side (ltb label other) refl (ltb-true (3 * label + 2) (length table) q))
      go false q = rw q

pub laid_length : (rows table : List ℕ) → length (laid_over table rows) ≡ length table
unfolding laid_over
laid_length [] table = refl
laid_length (label ∷ []) table = refl
laid_length (label ∷ (x ∷ [])) table = refl
laid_length (label ∷ (x ∷ (y ∷ []))) table = refl
laid_length (label ∷ (x ∷ (y ∷ (z ∷ rows)))) table =
    laid_length rows (row_over table label (x ∷ (y ∷ (z ∷ [])))) ∙ length_row table label x y z

-- A node without a row keeps its children.
pub laid_other : (rows table : List ℕ) (other edge : ℕ) → occurrences other (labels_of rows) ≡ 0 → edge < 3
    → child (laid_over table rows) other edge ≡ child table other edge
unfolding laid_over labels_of
laid_other [] table other edge none h = refl
laid_other (label ∷ []) table other edge none h = refl
laid_other (label ∷ (x ∷ [])) table other edge none h = refl
laid_other (label ∷ (x ∷ (y ∷ []))) table other edge none h = refl
laid_other (label ∷ (x ∷ (y ∷ (z ∷ rows)))) table other edge none h =
    let apart = occurs_not other label (labels_of rows) none in
    laid_other rows (row_over table label (x ∷ (y ∷ (z ∷ [])))) other edge apart.1 h ∙ row_other table label x y z other edge apart.0 h

-- Two tables have a node's row alike.
has_same : (table other : List ℕ) (label x y z : ℕ) → Has table label x y z → Has other label x y z → (edge : ℕ) → edge < 3
    → child table label edge ≡ child other label edge
has_same table other label x y z a b zero h = a.x_is ∙ sym b.x_is
has_same table other label x y z a b (suc zero) h = a.y_is ∙ sym b.y_is
has_same table other label x y z a b (suc (suc zero)) h = a.z_is ∙ sym b.z_is
has_same table other label x y z a b (suc (suc (suc edge))) h = absurd (omega arith)

-- Where no node has two rows, the table has them all.
pub laid_has : (rows table : List ℕ) → every (λ label. ltb (3 * label + 2) (length table)) (labels_of rows) ≡ true
    → ((label : ℕ) → occurrences label (labels_of rows) ≤ 1) → HasAll (laid_over table rows) rows
unfolding HasAll laid_over labels_of occurrences
laid_has [] table fit once = tt
laid_has (label ∷ []) table fit once = tt
laid_has (label ∷ (x ∷ [])) table fit once = tt
laid_has (label ∷ (x ∷ (y ∷ []))) table fit once = tt
laid_has (label ∷ (x ∷ (y ∷ (z ∷ rows)))) table fit once =
    let parts = every_uncons (λ label. ltb (3 * label + 2) (length table)) label (labels_of rows) fit in
    let room = ltb-true (3 * label + 2) (length table) parts.0 in
    let next = row_over table label (x ∷ (y ∷ (z ∷ []))) in
    let never : occurrences label (labels_of rows) ≡ 0 = omega (arith, once label, same_one label label refl) in
    let here = row_has table label x y z room in (
      record {
        x_is = laid_other rows next label 0 never (omega arith) ∙ here.x_is;
        y_is = laid_other rows next label 1 never (omega arith) ∙ here.y_is;
        z_is = laid_other rows next label 2 never (omega arith) ∙ here.z_is;
      },
      laid_has rows next (rw (length_row table label x y z) parts.1) (λ other. omega (arith, once other)),
    )

-- Laid over any table of its size, rows that a table has make its nodes.
pub has_laid : (whole rows table : List ℕ) → HasAll whole rows → length table ≡ length whole → (label edge : ℕ) → edge < 3
    → 3 * label + 2 < length whole → 1 ≤ occurrences label (labels_of rows) → child (laid_over table rows) label edge ≡ child whole label edge
unfolding HasAll laid_over labels_of occurrences
has_laid whole [] table has size label edge h fits there = absurd (omega arith)
has_laid whole (first ∷ []) table has size label edge h fits there = absurd (omega arith)
has_laid whole (first ∷ (x ∷ [])) table has size label edge h fits there = absurd (omega arith)
has_laid whole (first ∷ (x ∷ (y ∷ []))) table has size label edge h fits there = absurd (omega arith)
has_laid whole (first ∷ (x ∷ (y ∷ (z ∷ rows)))) table has size label edge h fits there =
    go (ltb 0 (occurrences label (labels_of rows))) refl
    (has_laid whole rows (row_over table first (x ∷ (y ∷ (z ∷ [])))) has.1 (length_row table first x y z ∙ size) label edge h fits)
  where
    go : (b : Bool) → ltb 0 (occurrences label (labels_of rows)) ≡ b
        → (1 ≤ occurrences label (labels_of rows) → child (laid_over (row_over table first (x ∷ (y ∷ (z ∷ [])))) rows) label edge ≡ child whole label edge)
        → child (laid_over (row_over table first (x ∷ (y ∷ (z ∷ [])))) rows) label edge ≡ child whole label edge
    go true q on = on (ltb-true 0 (occurrences label (labels_of rows)) q)
    go false q on =
        let never : occurrences label (labels_of rows) ≡ 0 = omega (arith, ltb-false 0 (occurrences label (labels_of rows)) q) in
        laid_other rows (row_over table first (x ∷ (y ∷ (z ∷ [])))) label edge never h ∙ same_row (this never (eqb first label) refl)
      where
        this : occurrences label (labels_of rows) ≡ 0 → (b : Bool) → eqb first label ≡ b → first ≡ label
        this never true q = eqb-true first label q
        this never false q = absurd (omega (arith, same_none first label (eqb-false first label q)))

        same_row : first ≡ label → child (row_over table first (x ∷ (y ∷ (z ∷ [])))) label edge ≡ child whole label edge
        same_row e =
            rw (← e)
            (has_same (row_over table first (x ∷ (y ∷ (z ∷ [])))) whole first x y z (row_has table first x y z (omega arith)) has.0 edge h)

-- Rows laid over the front of a table of their size.
pub laid_front : (rows before part : List ℕ) (end : ℕ) → end ≡ 3 * modes_in rows → end ≤ length before
    → part ≡ laid_over (replicate (length (take end before)) absent) rows → take (3 * modes_in rows) (part ++ drop end before) ≡ table_of rows
unfolding laid
laid_front rows before part end size room e =
    let is : part ≡ laid_over (replicate end absent) rows = e ∙ ap (λ n. laid_over (replicate n absent) rows) (length-take-le end before room) in
    let long : length part ≡ 3 * modes_in rows =
    ap length is ∙ laid_length rows (replicate end absent) ∙ length-replicate {A = ℕ} end absent ∙ size in
    take_at part (drop end before) (3 * modes_in rows) long ∙ is ∙ ap (λ n. laid_over (replicate n absent) rows) size
