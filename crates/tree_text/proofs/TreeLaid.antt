-- The nodes that were read, laid out in the front of a table.
use mathlib.Core.Path.{◌≡◌, ap, ◌∙◌, sym}
use mathlib.Core.List.{List}
use Prim.Native.Nat.{ℕ, ◌*◌, ◌≤◌}
use native.Mathlib.Omega.{arith}
use lib.ListN.{length, take}
use lib.Seq.{length-take-le}
use Rattle.tree.specs.Laying.{modes_in, table_of}
use Rattle.nodes_text.specs.TreeInput.{TreeSaid}
use Rattle.nodes_text.specs.code.Reading.{NodesFound}
use Rattle.tree_text.specs.code.Reading.{TreeRead, RowsFit}

-- So many rows in front of a room for the most have as many modes.
pub modes_front : (most count : ℕ) (rows : List ℕ) → count ≤ most → length rows ≡ 4 * most → modes_in (take (4 * count) rows) ≡ count
unfolding modes_in
modes_front most count rows few room = rw (length-take-le (4 * count) rows (omega arith)) (omega arith)

pub rows_fit : (most count : ℕ) (rows : List ℕ) → count ≤ most → length rows ≡ 4 * most → RowsFit most (take (4 * count) rows)
rows_fit most count rows few room =
    let exact = modes_front most count rows few room in
    record { exact = rw exact (length-take-le (4 * count) rows (omega arith)); few = omega arith }

pub tree_laid : {most : ℕ} {meant : TreeSaid} {rows : List ℕ} {count : ℕ} (table : List ℕ) → NodesFound most meant rows count → length rows ≡ 4 * most
    → take (3 * modes_in (take (4 * count) rows)) table ≡ table_of (take (4 * count) rows) → TreeRead most meant rows table count
tree_laid {most} {meant} {rows} {count} table read room front =
    let exact = modes_front most count rows read.few room in
    record { says = read.says; few = read.few; exact = exact; laid = ap (λ n. take (3 * n) table) (sym exact) ∙ front }
