-- The text of strings as it is written, letter by letter and line by line; and its exact length, whatever the tree.
use mathlib.Core.Path.{◌≡◌, refl, ap, ◌∙◌, sym}
use mathlib.Core.List.{List, [], ◌∷◌, ◌++◌, map, flat_map, append_assoc}
use Prim.Native.Nat.{ℕ, ◌+◌, ◌-◌, ◌*◌, ◌<◌, ◌≤◌}
use native.Mathlib.Nat.{zero-add}
use native.Mathlib.Omega.{arith}
use lib.ListN.{length, set, length-append}
use Rattle.lists.specs.Counting.{sum}
use Rattle.lists.specs.Ranges.{listed}
use Rattle.lists.specs.Written.{written_at}
use Rattle.lists.proofs.Behind.{Wrote, then_wrote, nothing_written, written_one}
use Rattle.lists.proofs.Listed.{length_listed, listed_more, map_listed}
use Rattle.lists.proofs.Partway.{Partway, parts_start, parts_room, parts_piece, parts_end}
use Rattle.lists.proofs.Ranges.{listed_start, flatMap_on, flatMap_done}
use Rattle.lists.proofs.Sums.{sum_of, length_flatMap}
use Rattle.fields.specs.Decimal.{decimal}
use Rattle.tree.specs.Table.{nodes}
use Rattle.strings.specs.Strings.{majorana_letter, string}
use Rattle.strings.specs.Text.{string_sign, string_bytes, string_line, majoranas, strings_text, line_length, strings_length}

module _ (modes : ℕ) (table : List ℕ) (majorana : ℕ) where
  -- The byte at a node.
  abbrev pub byte_at : ℕ → ℕ
  byte_at node = string_sign (majorana_letter modes table majorana node)

  pub bytes_listed : string_bytes modes table majorana ≡ listed byte_at 0 modes
  unfolding string_bytes string nodes
  bytes_listed =
      ap (map string_sign) (map_listed (majorana_letter modes table majorana) (λ node. node) 0 modes)
      ∙ map_listed string_sign (majorana_letter modes table majorana) 0 modes

  -- One letter behind those of the nodes before.
  pub bytes_start : (at : ℕ) (text : List ℕ) → text ≡ written_at at (listed byte_at 0 0) text
  unfolding listed
  bytes_start at text = sym (nothing_written at text)

  pub bytes_next : (at node : ℕ) (text after : List ℕ) → at + node < length text → after ≡ written_at at (listed byte_at 0 node) text
      → set after (at + node) (byte_at node) ≡ written_at at (listed byte_at 0 (node + 1)) text
  bytes_next at node text after room e =
      rw (e, listed_more byte_at 0 node, zero-add node)
      (written_one at (listed byte_at 0 node) text (at + node) (byte_at node) (omega (arith, length_listed byte_at 0 node)) room)

  pub bytes_end : (at node : ℕ) (text after : List ℕ) → node ≡ modes → after ≡ written_at at (listed byte_at 0 node) text
      → after ≡ written_at at (string_bytes modes table majorana) text
  bytes_end at node text after all e = e ∙ ap (λ n. written_at at (listed byte_at 0 n) text) all ∙ ap (λ part. written_at at part text) (sym bytes_listed)

  -- A line's parts and its length.
  abbrev pub number_field : List ℕ
  number_field = decimal majorana ++ (9 ∷ [])

  line_parts : (number_field ++ string_bytes modes table majorana) ++ (10 ∷ []) ≡ string_line modes table majorana
  unfolding string_line
  line_parts = simp append_assoc

  bytes_long : length (string_bytes modes table majorana) ≡ modes
  bytes_long = ap length bytes_listed ∙ length_listed byte_at 0 modes

  pub line_long : length (string_line modes table majorana) ≡ length (decimal majorana) + (modes + 2)
  line_long =
      omega (
        arith,
        ap length line_parts,
        length-append (number_field ++ string_bytes modes table majorana) (10 ∷ []),
        length-append number_field (string_bytes modes table majorana),
        length-append (decimal majorana) (9 ∷ []),
        bytes_long,
      )

  -- The number's field, the letters and LF, written one behind the other, are the line.
  pub line_wrote : {at letters end : ℕ} {text numbered lettered : List ℕ} → at + length (string_line modes table majorana) ≤ length text
      → Wrote at number_field text numbered letters → end ≡ letters + modes → lettered ≡ written_at letters (string_bytes modes table majorana) numbered
      → Wrote at (string_line modes table majorana) text (set lettered end 10) (end + 1)
  line_wrote {at} {letters} {end} {text} {numbered} {lettered} room number behind written =
      let size = length-append (decimal majorana) (9 ∷ []) in
      let bytes : Wrote letters (string_bytes modes table majorana) numbered lettered end = record { behind = omega (arith, behind, bytes_long); written = written } in
      let two = then_wrote number bytes (omega (arith, number.behind, line_long)) in
      record {
        behind = omega (arith, behind, number.behind, line_long);
        written =
            ap (λ s. set s end 10) two.written
            ∙ written_one at (number_field ++ string_bytes modes table majorana) text end 10 two.behind (omega (arith, behind, number.behind, line_long))
            ∙ ap (λ part. written_at at part text) line_parts;
      }

-- One line behind those before, of all.
module _ (modes : ℕ) (table text : List ℕ) (room : length (strings_text modes table) ≤ length text) where
  abbrev ahead : ℕ → List ℕ
  ahead majorana = flat_map (string_line modes table) (listed (λ number. number) majorana (2 * modes - majorana))

  abbrev pub PuttingLines : List ℕ → ℕ → ℕ → Type 0
  PuttingLines after at majorana = Partway (strings_text modes table) 0 text (ahead majorana) after at

  pub lines_start : PuttingLines text 0 0
  unfolding strings_text majoranas
  lines_start = parts_start (strings_text modes table) 0 text (omega (arith, room)) (ahead 0) (ap (flat_map (string_line modes table)) (listed_start (λ number. number) (2 * modes)))

  module _ {after : List ℕ} {at : ℕ} (majorana : ℕ) (w : PuttingLines after at majorana) where
    here : majorana < 2 * modes → Partway (strings_text modes table) 0 text (string_line modes table majorana ++ ahead (majorana + 1)) after at
    here h = rw (flatMap_on (string_line modes table) (λ number. number) (2 * modes) majorana h) at w

    pub line_room : majorana < 2 * modes → at + length (string_line modes table majorana) ≤ length after
    line_room h =
        omega (
          arith,
          parts_room (strings_text modes table) 0 text (omega (arith, room)) (here h),
          length-append (string_line modes table majorana) (ahead (majorana + 1)),
        )

    pub lines_next : {next : List ℕ} {end : ℕ} → majorana < 2 * modes → end ≡ at + length (string_line modes table majorana)
        → next ≡ written_at at (string_line modes table majorana) after → PuttingLines next end (majorana + 1)
    lines_next h e f = parts_piece (strings_text modes table) 0 text (omega (arith, room)) (string_line modes table majorana) (ahead (majorana + 1)) (here h) e f

    pub lines_end : 2 * modes ≤ majorana → after ≡ written_at 0 (strings_text modes table) text
    lines_end h =
        let all : Partway (strings_text modes table) 0 text [] after at = rw (flatMap_done (string_line modes table) (λ number. number) (2 * modes) majorana h) at w in
        (parts_end (strings_text modes table) 0 text (omega (arith, room)) all).1

-- All lines are as long as the definition says.
pub text_long : (modes : ℕ) (table : List ℕ) → length (strings_text modes table) ≡ strings_length modes
unfolding strings_text strings_length line_length sum
text_long modes table = length_flatMap (string_line modes table) (majoranas modes) ∙ go (majoranas modes)
  where
    go : (l : List ℕ) → sum_of (λ majorana. length (string_line modes table majorana)) l ≡ sum_of (line_length modes) l
    go [] = refl
    go (majorana ∷ l) = rw (line_long modes table majorana, go l)
