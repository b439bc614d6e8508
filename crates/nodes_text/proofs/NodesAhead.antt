-- Lines read as nodes one after the other: those passed and those ahead give the answer.
use mathlib.Core.Path.{◌≡◌, refl, ap, ◌∙◌, sym}
use mathlib.Core.Bool.{Bool, true, false, and-false}
use mathlib.Core.List.{List, [], ◌∷◌, ◌++◌, flat_map, append_assoc, append-nil}
use Prim.Native.Nat.{ℕ, suc, ◌+◌, ◌*◌, ◌<◌, ◌≤◌}
use native.Mathlib.Omega.{arith}
use borrow.Author.Tests.{eq-eqb, ne_eqb, le-leb}
use borrow.Rule.Slice.PartMut.{put_mid}
use lib.Dec.{eqb, leb}
use lib.ListN.{length, take}
use Rattle.lists.specs.Members.{leading}
use Rattle.lists.specs.Written.{written_at}
use Rattle.lists.proofs.Written.{length_written, put_written, front_written}
use Rattle.fields.specs.Lines.{lines, kept_of}
use Rattle.fields.specs.Fields.{fields}
use Rattle.nodes_text.specs.TreeInput.{says_node, node_row, nodes_formed, malformed, tree_whole, tree_said}
use Rattle.nodes_text.specs.code.Reading.{NodeRead, NodePut, NodesFound}
use Rattle.nodes_text.proofs.NodeLines.{row_of_four}

-- A row read into its place.
pub node_put : (line : List ℕ) (place k : ℕ) (before part : List ℕ) (r : Bool) → k ≡ 4 → NodeRead line part r → NodePut line place before (put_mid place k before part) r
node_put line place k before part r size read =
    record {
      good = read.good;
      row = λ e.
          let row = read.row e in
          let four = row_of_four line part (sym read.good ∙ e) in
          put_written place part before k (ap length row ∙ four ∙ sym size) ∙ ap (λ l. written_at place l before) row;
    }

-- The line says a node.
abbrev is_node : List ℕ → Bool
is_node line = says_node (fields line)

-- So many lines are passed, all of them nodes, and their rows stand in front.
pub record Passing (most : ℕ) (texts : List (List ℕ)) (rows : List ℕ) (ahead : List (List ℕ)) (count : ℕ) : Type 0 where
  pub few : count ≤ most
  pub size : length rows ≡ 4 * most
  pub formed : leading is_node texts ≡ count + leading is_node ahead
  pub many : length texts ≡ count + length ahead
  pub stand : flat_map node_row texts ≡ take (4 * count) rows ++ flat_map node_row ahead

pub passing_starts : (most : ℕ) (texts : List (List ℕ)) (rows : List ℕ) → length rows ≡ 4 * most → Passing most texts rows texts 0
passing_starts most texts rows e = record { few = omega arith; size = e; formed = omega arith; many = omega arith; stand = refl }

-- No line is left: what stands behind the last LF, and whether there was a line, tell whether that was a tree.
module _ (most : ℕ) (text rows : List ℕ) (count : ℕ) (p : Passing most (lines text) rows [] count) where
  all_formed : nodes_formed most text ≡ count
  unfolding nodes_formed leading
  all_formed =
      let f : leading is_node (lines text) ≡ count = omega (arith, p.formed) in
      rw f (omega (arith, p.few))

  all_lines : length (lines text) ≡ count
  all_lines = omega (arith, p.many)

  pub passing_cut : length (kept_of text) < length text → tree_said most text ≡ malformed count
  unfolding tree_said tree_whole
  passing_cut h =
      rw (
        all_formed,
        all_lines,
        ne_eqb (length (kept_of text)) (length text) (λ f. omega arith),
        and-false (eqb count count),
        and-false (leb 1 count),
      )

  pub passing_none : count ≡ 0 → tree_said most text ≡ malformed 0
  unfolding tree_said tree_whole
  passing_none f = rw (all_formed, all_lines, f)

  pub passing_all : length (kept_of text) ≡ length text → (count ≡ 0 → ⊥) → NodesFound most (tree_said most text) rows count
  unfolding tree_said tree_whole flat_map
  passing_all h some =
      let rows_are : flat_map node_row (lines text) ≡ take (4 * count) rows = p.stand ∙ append-nil (take (4 * count) rows) in
      record {
        says = rw (
          all_formed,
          all_lines,
          h,
          eq-eqb count count refl,
          eq-eqb (length text) (length text) refl,
          le-leb 1 count (omega arith),
          rows_are,
        );
        few = p.few;
      }

module _ (most : ℕ) (text rows line : List ℕ) (rest : List (List ℕ)) (count : ℕ) (p : Passing most (lines text) rows (line ∷ rest) count) where
  -- A line that is no node, or one too many.
  passing_stops : nodes_formed most text ≡ count → tree_said most text ≡ malformed count
  unfolding tree_said tree_whole
  passing_stops f =
      rw (f, p.many, ne_eqb count (count + suc (length rest)) (λ e. omega arith), and-false (leb 1 (count + suc (length rest))))

  pub too_many : most ≤ count → tree_said most text ≡ malformed count
  unfolding nodes_formed
  too_many h = passing_stops (omega (arith, p.formed, p.few))

  pub no_node : is_node line ≡ false → tree_said most text ≡ malformed count
  unfolding nodes_formed leading
  no_node e =
      let f : leading is_node (lines text) ≡ count = p.formed ∙ rw e (omega arith) in
      passing_stops (rw f (omega (arith, p.few)))

  pub passing_goes : (after : List ℕ) → count < most → (r : Bool) → r ≡ true → NodePut line (4 * count) rows after r
      → Passing most (lines text) after rest (count + 1)
  unfolding leading flat_map
  passing_goes after h r is_so put =
      let good = sym put.good ∙ is_so in
      let row = put.row is_so in
      let four = row_of_four line after good in
      let room : 4 * count + length (node_row line) ≤ length rows = omega (arith, p.size) in
      let place : 4 * (count + 1) ≡ 4 * count + length (node_row line) = omega arith in
      let front : take (4 * (count + 1)) after ≡ take (4 * count) rows ++ node_row line =
      rw (row, place) (front_written (4 * count) (node_row line) rows room) in
      record {
        few = omega arith;
        size = ap length row ∙ length_written (4 * count) (node_row line) rows room ∙ p.size;
        formed = p.formed ∙ rw good (omega arith);
        many = p.many ∙ omega arith;
        stand = p.stand ∙ rw front (sym (append_assoc (take (4 * count) rows) (node_row line) (flat_map node_row rest)));
      }
