-- "Reading a written tree gives the tree".
use Rattle.std.specs.Prelude.{Ok}
use mathlib.Core.Path.{◌≡◌, refl, ap, ◌∙◌, sym}
use mathlib.Core.Bool.{true}
use mathlib.Core.Logic.{inl}
use mathlib.Core.List.{List, [], ◌++◌, map, append-nil}
use Prim.Native.Nat.{ℕ, suc, ◌+◌, ◌*◌, ◌/◌, ◌%◌, ◌<◌, ◌≤◌}
use native.Mathlib.Omega.{arith}
use lib.ListN.{length, replicate, length-replicate}
use lib.Seq.{ext_get_or}
use Rattle.lists.specs.Counting.{occurrences}
use Rattle.lists.proofs.Totals.{total_same, total_ones}
use Rattle.lists.proofs.Pigeonholes.{counted_all}
use Rattle.entities.specs.Codes.{absent}
use Rattle.tree.specs.Table.{child}
use Rattle.tree.specs.OneTree.{root_of}
use Rattle.tree.specs.Check.{tree_checked}
use Rattle.tree.proofs.Under.{met}
use Rattle.tree.proofs.AcceptedParts.{accepted_parts}
use Rattle.tree.proofs.AcceptedTree.{accepted_tree}
use Rattle.tree.specs.Laying.{laid_over, laid, modes_in}
use Rattle.tree.proofs.LaidTable.{labels_of, HasAll, has_none, laid_length, has_laid}
use Rattle.newick.specs.Grammar.{Shape, is_node, Spells}
use Rattle.newick.specs.Writing.{shape_under, newick_text}
use Rattle.newick.specs.Reading.{got, text_read}
use Rattle.newick.specs.Names.{code_of}
use Rattle.newick.specs.Calls.{table_in, read_as, newick_read, table_read, newick_table}
use Rattle.newick.specs.RoundTrip.{ReadsBack, WrittenIsRead}
use Rattle.newick.proofs.Shapes.{name_of, rows_in}
use Rattle.newick.proofs.WholeUnder.{accepted_whole}
use Rattle.newick.proofs.ShapeText.{shape_node}
use Rattle.newick.proofs.ShapeRows.{labels_in, rows_in_range}
use Rattle.newick.proofs.ShapeTable.{rows_count, within_fits, labels_below, stands_rows, row_labels}
use Rattle.newick.proofs.UnderShape.{UnderShape, labels_met, under_shape}
use Rattle.newick.proofs.WholeText.{text_ahead}

-- Rows laid out are the table that has them all.
laid_same : (modes : ℕ) (table rows : List ℕ) → length table ≡ 3 * modes → HasAll table rows
    → ((label : ℕ) → label < modes → 1 ≤ occurrences label (labels_of rows)) → laid modes rows ≡ table
unfolding laid child
laid_same modes table rows whole has there =
    let blank : List ℕ = replicate (3 * modes) absent in
    let size : length (laid_over blank rows) ≡ 3 * modes = laid_length rows blank ∙ length-replicate (3 * modes) absent in
    ext_get_or absent (laid_over blank rows) table (size ∙ sym whole)
    (λ place h.
    let label = place / 3 in
    let edge = place % 3 in
    let here : 3 * label + edge ≡ place = omega arith in
    rw here at
    (has_laid table rows blank has (length-replicate (3 * modes) absent ∙ sym whole) label edge (omega arith) (omega arith)
    (there label (omega arith))))

module _ (most modes : ℕ) (table : List ℕ) (small : 3 * most ≤ 65535) (accepted : tree_checked most modes table ≡ Ok tt) where
  fits : 3 * modes ≤ 65535
  fits = omega (arith, (accepted_parts most modes table accepted).few)

  -- The shape that is spelled.
  abbrev shape : Shape
  shape = shape_under modes table (suc modes) (root_of modes table)

  shape_is : UnderShape modes table (root_of modes table) shape
  shape_is =
      let parts = accepted_parts most modes table accepted in
      let tree = accepted_tree most modes table accepted in
      under_shape modes table parts.whole parts.good (suc modes) (root_of modes table) (accepted_whole most modes table accepted)
      (inl (omega (arith, tree.inside)))

  shape_root : is_node shape ≡ true
  unfolding is_node
  shape_root = rw (shape_node modes table modes (root_of modes table) (accepted_tree most modes table accepted).inside)

  text_spells : Spells shape (newick_text modes table)
  unfolding newick_text
  text_spells = record { root = shape_root; numbers = within_fits modes fits shape shape_is.within; text_is = refl }

  label_once : (label : ℕ) → label < modes → occurrences label (labels_in shape) ≡ 1
  unfolding met
  label_once label h =
      labels_met modes table (suc modes) (root_of modes table) label h ∙ (accepted_tree most modes table accepted).each_once label (omega arith)

  all_labels : length (labels_in shape) ≡ modes
  all_labels =
      sym (counted_all modes (labels_in shape) (labels_below modes shape shape_is.within))
      ∙ total_same (λ label. occurrences label (labels_in shape)) (λ label. 1) modes label_once
      ∙ total_ones modes

  all_rows : length (rows_in shape) ≡ 4 * modes
  all_rows = omega (arith, rows_count shape, all_labels)

  text_is_read : text_read most (newick_text modes table) ≡ got (name_of shape) (rows_in shape) (length (newick_text modes table))
  text_is_read =
      text_ahead most (newick_text modes table) shape text_spells (omega (arith, all_rows, (accepted_parts most modes table accepted).few))

  rows_modes : modes_in (rows_in shape) ≡ modes
  unfolding modes_in
  rows_modes = omega (arith, all_rows)

  rows_table : table_in (rows_in shape) ≡ table
  unfolding table_in labels_of
  rows_table =
      let rows : List ℕ = map (code_of modes) (rows_in shape) in
      let plain : rows ++ [] ≡ rows = append-nil rows in
      let has = rw plain at (stands_rows modes fits table shape shape_is.within shape_is.stands [] (has_none table)) in
      let labels : labels_of rows ≡ labels_in shape =
      ap labels_of (sym plain) ∙ row_labels modes fits shape shape_is.within [] ∙ append-nil (labels_in shape) in
      rw rows_modes
      (laid_same modes table rows (accepted_parts most modes table accepted).whole has (λ label h. rw labels (omega (arith, label_once label h))))

  reads_back : ReadsBack most modes table
  unfolding newick_read newick_table read_as table_read
  reads_back =
      record {
        answer = λ room. rw (text_is_read, rows_modes, rows_in_range modes fits shape shape_is.within, rows_table, accepted);
        table_is = rw text_is_read rows_table;
      }

pub read_written : WrittenIsRead
read_written = reads_back
