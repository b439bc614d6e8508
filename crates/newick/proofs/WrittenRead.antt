-- "writing a read text gives the text".
use Rattle.std.specs.Prelude.{Err, Ok, Result}
use Rattle.refusal.specs.declared.Refusal.{Refusal}
use mathlib.Core.Path.{◌≡◌, refl, ap, ◌∙◌, sym}
use mathlib.Core.Bool.{Bool, true, false, cond}
use mathlib.Core.List.{List, [], ◌∷◌, ◌++◌, map, append-nil}
use Prim.Native.Nat.{ℕ, suc, ◌+◌, ◌*◌, ◌/◌, ◌<◌, ◌≤◌}
use native.Mathlib.Omega.{arith}
use borrow.Author.Tests.{lt-ltb, leb-true, ltb-true, ltb-false}
use lib.Dec.{ltb, leb}
use lib.ListN.{length, get_or, replicate, length-replicate, get_or-replicate}
use Rattle.lists.specs.Counting.{occurrences}
use Rattle.lists.specs.Members.{every}
use Rattle.lists.proofs.Every.{every_also, every_uncons, every_parts}
use Rattle.lists.proofs.Occurring.{occurs_twice}
use Rattle.lists.proofs.Sums.{one_same}
use Rattle.lists.proofs.Totals.{total_ones}
use Rattle.lists.proofs.Pigeonholes.{values_same, counted_all, counted_with}
use Rattle.refusal.specs.declared.Refusal.TheVariants.{Room, NotOneTree}
use Rattle.entities.specs.Codes.{absent}
use Rattle.tree.specs.Table.{child}
use Rattle.tree.specs.OneTree.{root_of}
use Rattle.tree.specs.Check.{tree_checked}
use Rattle.tree.proofs.Under.{met_top}
use Rattle.tree.proofs.AcceptedParts.{accepted_parts}
use Rattle.tree.proofs.AcceptedTree.{accepted_says}
use Rattle.tree.specs.Laying.{laid, modes_in}
use Rattle.tree.proofs.LaidTable.{labels_of, laid_other, laid_has}
use Rattle.newick.specs.Grammar.{Shape, leaf, none, node, is_node}
use Rattle.newick.specs.Writing.{shape_under, newick_text}
use Rattle.newick.specs.Reading.{Reading, got, stuck, crowded, text_read}
use Rattle.newick.specs.Names.{in_range, code_of}
use Rattle.newick.specs.Calls.{table_in, taken_as, read_as, newick_read, table_read, newick_table}
use Rattle.newick.specs.RoundTrip.{ReadIsWritten}
use Rattle.newick.proofs.Shapes.{name_of, rows_in}
use Rattle.newick.proofs.ShapeRows.{labels_in, code_in, Within, Stands, all_within}
use Rattle.newick.proofs.ShapeTable.{rows_count, labels_below, rows_stand, row_labels, stands_under}
use Rattle.newick.proofs.UnderShape.{labels_met}
use Rattle.newick.proofs.WholeText.{text_spells}

-- What a call that is done has read.
record Done (most : ℕ) (text : List ℕ) (room modes : ℕ) : Type 0 where
  name : ℕ
  rows : List ℕ
  at : ℕ
  reading : text_read most text ≡ got name rows at
  ranged : every (in_range modes) rows ≡ true
  accepted : tree_checked most modes (table_in rows) ≡ Ok tt
  modes_are : modes_in rows ≡ modes
  roomy : 3 * modes ≤ room

read_done : (most : ℕ) (text : List ℕ) (room modes : ℕ) → newick_read most text room ≡ Ok modes → Done most text room modes
unfolding newick_read read_as taken_as
read_done most text room modes e = go (text_read most text) refl e
  where
    roomed : (n : ℕ) (b : Bool) → leb (3 * n) room ≡ b → cond b (Ok n) (Err Room) ≡ Ok modes → (n ≡ modes) × (3 * n ≤ room)
    roomed n true q f = (cc, leb-true (3 * n) room q)
    roomed n false q f = let z : ◌≡◌ {A = ℕ} 0 1 = cc in absurd (omega arith)

    checked : (n : ℕ) (c : Result (Unit {0}) Refusal) → taken_as c n room ≡ Ok modes → (c ≡ Ok tt) × (n ≡ modes) × (3 * n ≤ room)
    checked n (Ok tt) f = let r = roomed n (leb (3 * n) room) refl f in (refl, r.0, r.1)
    checked n (Err refusal) f = let z : ◌≡◌ {A = ℕ} 0 1 = cc in absurd (omega arith)

    ranges : (rows : List ℕ) (c : Result (Unit {0}) Refusal) (b : Bool) → every (in_range (modes_in rows)) rows ≡ b
        → cond b (taken_as c (modes_in rows) room) (Err NotOneTree) ≡ Ok modes
        → (every (in_range (modes_in rows)) rows ≡ true) × (c ≡ Ok tt) × (modes_in rows ≡ modes) × (3 * modes_in rows ≤ room)
    ranges rows c true q f = let r = checked (modes_in rows) c f in (q, r.0, r.1, r.2)
    ranges rows c false q f = let z : ◌≡◌ {A = ℕ} 0 1 = cc in absurd (omega arith)

    go : (r : Reading) → text_read most text ≡ r → read_as most r room ≡ Ok modes → Done most text room modes
    go (got name rows at) q f =
        let r = ranges rows (tree_checked most (modes_in rows) (table_in rows)) (every (in_range (modes_in rows)) rows) refl f in
        record {
          name = name;
          rows = rows;
          at = at;
          reading = q;
          ranged = rw r.2 at r.0;
          accepted = rw r.2 at r.1;
          modes_are = r.2;
          roomy = rw r.2 at r.3;
        }
    go (stuck place) q f = let z : ◌≡◌ {A = ℕ} 0 1 = cc in absurd (omega arith)
    go (crowded place) q f = let z : ◌≡◌ {A = ℕ} 0 1 = cc in absurd (omega arith)

-- A node's own label is among its rows.
root_ranged : (modes : ℕ) (shape : Shape) → is_node shape ≡ true → every (in_range modes) (rows_in shape) ≡ true → in_range modes (name_of shape) ≡ true
unfolding is_node rows_in name_of
root_ranged modes (leaf number) root ranged = let z : ◌≡◌ {A = ℕ} 0 1 = cc in absurd (omega arith)
root_ranged modes none root ranged = let z : ◌≡◌ {A = ℕ} 0 1 = cc in absurd (omega arith)
root_ranged modes (node x y z label) root ranged =
    let test = in_range modes in
    let row : List ℕ = label ∷ (name_of x ∷ (name_of y ∷ (name_of z ∷ []))) in
    let behind_x = (every_parts test (rows_in x) (rows_in y ++ (rows_in z ++ row)) ranged).1 in
    let behind_y = (every_parts test (rows_in y) (rows_in z ++ row) behind_x).1 in
    (every_uncons test label (name_of x ∷ (name_of y ∷ (name_of z ∷ []))) (every_parts test (rows_in z) row behind_y).1).0

-- Rows of n nodes whose table is accepted: no node has two, for then another would have none, and three absent children.
module _ (most modes : ℕ) (shape : Shape) (small : 3 * modes ≤ 65535) (within : Within modes shape) (size : length (labels_in shape) ≡ modes)
    (table : List ℕ) (table_is : table ≡ laid modes (map (code_of modes) (rows_in shape))) (accepted : tree_checked most modes table ≡ Ok tt) where
  abbrev rows : List ℕ
  rows = map (code_of modes) (rows_in shape)

  labels : labels_of rows ≡ labels_in shape
  unfolding labels_of
  labels =
      ap labels_of (sym (append-nil rows)) ∙ row_labels modes small shape within [] ∙ append-nil (labels_in shape)

  blank_child : (label edge : ℕ) → 3 * label + edge < 3 * modes → child (replicate (3 * modes) absent) label edge ≡ absent
  unfolding child
  blank_child label edge h = get_or-replicate (3 * modes) (3 * label + edge) absent absent h

  has_row : (label : ℕ) → label < modes → 1 ≤ occurrences label (labels_in shape)
  unfolding laid child
  has_row label h = go (ltb 0 (occurrences label (labels_in shape))) refl
    where
      go : (b : Bool) → ltb 0 (occurrences label (labels_in shape)) ≡ b → 1 ≤ occurrences label (labels_in shape)
      go true q = ltb-true 0 (occurrences label (labels_in shape)) q
      go false q =
          let none : occurrences label (labels_of rows) ≡ 0 = rw labels (omega (arith, ltb-false 0 (occurrences label (labels_in shape)) q)) in
          let says = accepted_says most modes table accepted in
          let whole = (accepted_parts most modes table accepted).whole in
          let missing : (edge : ℕ) → edge < 3 → get_or table (3 * label + edge) absent ≡ absent =
          λ edge k. rw table_is (laid_other rows (replicate (3 * modes) absent) label edge none k ∙ blank_child label edge (omega arith)) in
          absurd
          (omega (
            arith,
            says.absent_once,
            occurs_twice absent table (3 * label + 0) (3 * label + 1) absent (omega arith) (omega arith) (λ e. absurd (omega arith)) (missing 0 (omega arith))
                (missing 1 (omega arith)),
          ))

  one_row : (label : ℕ) → label < modes → occurrences label (labels_in shape) ≡ 1
  one_row =
      values_same (λ label. occurrences label (labels_in shape)) (λ label. 1) modes has_row
      (omega (arith, counted_all modes (labels_in shape) (labels_below modes shape within), total_ones modes))

  at_most_one : (label : ℕ) → occurrences label (labels_of rows) ≤ 1
  at_most_one label = rw labels (go (ltb label modes) refl)
    where
      go : (b : Bool) → ltb label modes ≡ b → occurrences label (labels_in shape) ≤ 1
      go true q = omega (arith, one_row label (ltb-true label modes q))
      go false q =
          omega (
            arith,
            counted_with modes label (labels_in shape) (ltb-false label modes q),
            counted_all modes (labels_in shape) (labels_below modes shape within),
          )

  -- So the shape's nodes stand in the table, and going down it from the root gives the shape.
  stands : Stands modes table shape
  unfolding laid
  stands =
      let blank : List ℕ = replicate (3 * modes) absent in
      let fit : every (λ label. ltb (3 * label + 2) (length blank)) (labels_of rows) ≡ true =
      rw (labels, length-replicate (3 * modes) absent)
      (every_also (λ label. ltb label modes) (λ label. ltb (3 * label + 2) (3 * modes))
      (λ label q. lt-ltb (3 * label + 2) (3 * modes) (omega (arith, ltb-true label modes q)))
      (labels_in shape) (labels_below modes shape within)) in
      (rows_stand modes small table shape within [] (rw (append-nil rows, table_is) (laid_has rows blank fit at_most_one))).0

  down : shape_under modes table (suc modes) (code_in modes shape) ≡ shape
  down = stands_under modes small table shape within stands (suc modes) (omega (arith, size))

  root_is : code_in modes shape ≡ root_of modes table
  root_is =
      let says = accepted_says most modes table accepted in
      let whole = (accepted_parts most modes table accepted).whole in
      let root = root_of modes table in
      one_same (code_in modes shape) root
      (sym (met_top modes table whole root says.top modes (code_in modes shape))
      ∙ sym (labels_met modes table (suc modes) (code_in modes shape) root says.inside)
      ∙ rw down (one_row root says.inside))

  shape_again : shape_under modes table (suc modes) (root_of modes table) ≡ shape
  shape_again = rw (← root_is) down

table_told : (modes : ℕ) (rows others : List ℕ) → rows ≡ others → modes_in rows ≡ modes → table_in rows ≡ laid modes (map (code_of modes) others)
unfolding table_in
table_told modes rows others e f = rw (f, e)

pub written_read : ReadIsWritten
unfolding newick_table table_read newick_text modes_in
written_read most text room modes small e =
    let done = read_done most text room modes e in
    let read = text_spells most text done.name done.rows done.at done.reading in
    let shape = read.shape in
    let spells = read.spells in
    let table = table_in done.rows in
    let few : 3 * modes ≤ 65535 = omega (arith, (accepted_parts most modes table done.accepted).few) in
    let ranged : every (in_range modes) (rows_in shape) ≡ true = rw read.rows_are at done.ranged in
    let within = all_within modes few shape spells.numbers (root_ranged modes shape spells.root ranged) ranged in
    let count : length (rows_in shape) / 4 ≡ modes = rw read.rows_are at done.modes_are in
    let again = shape_again most modes shape few within (omega (arith, rows_count shape)) table
    (table_told modes done.rows (rows_in shape) read.rows_are done.modes_are) done.accepted in
    record {
      accepted = rw done.reading done.accepted;
      text_is = rw done.reading (rw again (sym spells.text_is));
      roomy = done.roomy;
    }
