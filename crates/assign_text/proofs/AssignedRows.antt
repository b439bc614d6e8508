-- Rows written anew one after the other, each with the children that a table has for its node.
use mathlib.Core.Path.{◌≡◌, refl, ap, ◌∙◌, sym}
use mathlib.Core.List.{List, [], ◌∷◌, ◌++◌, flat_map, append_assoc, append-nil}
use Prim.Native.Nat.{ℕ, suc, ◌+◌, ◌*◌, ◌<◌, ◌≤◌}
use native.Mathlib.Omega.{arith}
use lib.ListN.{length, get_or, set, take, drop, get_or-eq_default}
use lib.Seq.{take-suc, drop-drop}
use Rattle.lists.specs.Written.{written_at}
use Rattle.lists.proofs.Parts.{read_within}
use Rattle.lists.proofs.Joined.{flatMap_joined}
use Rattle.lists.proofs.Written.{length_written, front_written, drop_written}
use Rattle.lists.proofs.Writes.{all_of}
use Rattle.lists.proofs.Behind.{stores_written}
use Rattle.entities.specs.Codes.{absent}
use Rattle.terms.specs.Rows.{rows_of}
use Rattle.terms.proofs.RowSteps.{row_first, rows_more}
use Rattle.tree.specs.Table.{child}
use Rattle.tree.specs.Laying.{modes_in}
use Rattle.assign_text.specs.Assigning.{row_in, assigned_rows}

-- A child read, where the table has its node and where it hasn't.
pub child_beyond : (table : List ℕ) (label edge : ℕ) → length table ≤ 3 * label + edge → absent ≡ child table label edge
unfolding child
child_beyond table label edge h = sym (get_or-eq_default table absent {n = 3 * label + edge} h)

pub child_within : (table : List ℕ) (label edge : ℕ) → 3 * label + edge < length table → get_or table (3 * label + edge) 0 ≡ child table label edge
unfolding child
child_within table label edge h = read_within table (3 * label + edge) 0 absent h

-- The first number of a part that is there already.
first_stands : (part s : List ℕ) (at : ℕ) → at < length s → written_at (suc at) part s ≡ written_at at (get_or s at 0 ∷ part) s
unfolding written_at
first_stands part s at h =
    let behind : suc at + length part ≡ at + suc (length part) = omega arith in
    rw (take-suc s at 0 h, behind) (append_assoc (take at s) (get_or s at 0 ∷ []) (part ++ drop (at + suc (length part)) s))

-- Three stores behind the label make the row.
pub row_stored : (rows table : List ℕ) (at label x y z : ℕ) → at + 4 ≤ length rows → label ≡ get_or rows at 0
    → x ≡ child table label 0 → y ≡ child table label 1 → z ≡ child table label 2
    → set (set (set rows (at + 1) x) (at + 2) y) (at + 3) z ≡ written_at at (row_in table (get_or rows at 0)) rows
unfolding row_in
row_stored rows table at label x y z room e f g h =
    let second : at + 1 ≡ suc at = omega arith in
    let third : at + 2 ≡ suc (suc at) = omega arith in
    let fourth : at + 3 ≡ suc (suc (suc at)) = omega arith in
    let part = x ∷ (y ∷ (z ∷ [])) in
    rw (← e, ← f, ← g, ← h, second, third, fourth)
    (stores_written part rows (suc at) (omega arith) ∙ first_stands part rows at (omega arith) ∙ ap (λ l. written_at at (l ∷ part) rows) (sym e))

-- So many rows are written anew, and the others stand as they stood.
pub record Anew (before table rows : List ℕ) (done : ℕ) : Type 0 where
  pub some : done ≤ modes_in before
  pub size : length rows ≡ length before
  pub front : take (4 * done) rows ≡ flat_map (λ row. row_in table (get_or row 0 0)) (rows_of 4 done before)
  pub rest : drop (4 * done) rows ≡ drop (4 * done) before

module _ (before table : List ℕ) (whole : length before ≡ 4 * modes_in before) where
  pub anew_starts : Anew before table before 0
  unfolding rows_of flat_map
  anew_starts = record { some = omega arith; size = refl; front = refl; rest = refl }

  module _ (rows : List ℕ) (done : ℕ) (a : Anew before table rows done) where
    pub anew_goes : (after : List ℕ) → done < modes_in before → after ≡ written_at (4 * done) (row_in table (get_or rows (4 * done) 0)) rows
        → Anew before table after (done + 1)
    unfolding flat_map row_in
    anew_goes after h e =
        let anew : List ℕ → List ℕ = λ row. row_in table (get_or row 0 0) in
        let room : 4 * done + 4 ≤ length rows = omega (arith, a.size) in
        let next : 4 * done + 4 ≡ 4 * (done + 1) = omega arith in
        let label : get_or rows (4 * done) 0 ≡ get_or (take 4 (drop (4 * done) before)) 0 0 =
        sym (row_first 4 done rows room (omega arith)) ∙ ap (λ l. get_or (take 4 l) 0 0) a.rest in
        let all : flat_map anew (rows_of 4 (done + 1) before) ≡ flat_map anew (rows_of 4 done before) ++ row_in table (get_or rows (4 * done) 0) =
        ap (flat_map anew) (rows_more 4 done before) ∙ flatMap_joined anew (rows_of 4 done before) (take 4 (drop (4 * done) before) ∷ [])
        ∙ ap (λ l. flat_map anew (rows_of 4 done before) ++ l) (append-nil (anew (take 4 (drop (4 * done) before))) ∙ ap (row_in table) (sym label)) in
        record {
          some = omega arith;
          size = ap length e ∙ length_written (4 * done) (row_in table (get_or rows (4 * done) 0)) rows room ∙ a.size;
          front = rw (e, ← next, all, ← a.front) (front_written (4 * done) (row_in table (get_or rows (4 * done) 0)) rows room);
          rest =
              rw (e, ← next)
              (drop_written (4 * done) (row_in table (get_or rows (4 * done) 0)) rows room (4 * done + 4) (omega arith)
              ∙ sym (drop-drop 4 (4 * done) rows) ∙ ap (drop 4) a.rest ∙ drop-drop 4 (4 * done) before);
        }

    pub anew_ends : modes_in before ≤ done → rows ≡ assigned_rows before table
    unfolding assigned_rows
    anew_ends h =
        let last : done ≡ modes_in before = omega (arith, a.some) in
        all_of rows _ (4 * done) (omega (arith, a.size)) (a.front ∙ ap (λ n. flat_map (λ row. row_in table (get_or row 0 0)) (rows_of 4 n before)) last)
