-- What is printed of nodes is read back as those nodes.
use mathlib.Core.Path.{◌≡◌, refl, ap, ◌∙◌, sym}
use mathlib.Core.Bool.{Bool, true, false, ◌&&◌, true≢false}
use mathlib.Core.List.{List, [], ◌∷◌, ◌++◌, map, flat_map}
use mathlib.Core.Logic.{⊎_elim}
use Prim.Native.Nat.{ℕ, zero, suc, ◌+◌, ◌*◌, ◌/◌, ◌<◌, ◌≤◌, min}
use native.Mathlib.Omega.{arith}
use borrow.Author.Tests.{eq-eqb, eqb-true, lt-ltb, ltb-true, le-leb, leb-true}
use lib.Dec.{eqb, ltb, leb}
use lib.ListN.{length, get_or, take, drop, length-map, length-drop, take-append-drop}
use lib.Seq.{get_or-take, get_or-drop}
use Rattle.lists.specs.Members.{every, leading, alike}
use Rattle.lists.proofs.Parts.{nothing_in}
use Rattle.lists.proofs.Tests.{both, same_or_not, not_so}
use Rattle.lists.proofs.Every.{every_cons, every_uncons, every_at, every_by_place, every_mapped}
use Rattle.lists.proofs.Alike.{alike_self, alike_same}
use Rattle.lists.proofs.Leading.{leading_all}
use Rattle.entities.specs.Codes.{absent}
use Rattle.fields.specs.Texts.{spelt}
use Rattle.fields.specs.Decimal.{is_digit, is_number, decimal}
use Rattle.fields.specs.Lines.{lines, kept_of, is_line}
use Rattle.fields.specs.Fields.{fields, tabbed}
use Rattle.fields.proofs.DecimalRead.{decimal_without, value_decimal, decimal_is_number}
use Rattle.fields.proofs.Tabbed.{no_tab}
use Rattle.fields.proofs.NumbersTabbed.{decimal_no_tab, fields_line, tabbed_free}
use Rattle.fields.proofs.LinesJoined.{no_feed, line_ended, lines_read_back}
use Rattle.terms.specs.Rows.{rows_of}
use Rattle.terms.proofs.RowSteps.{length_rows, rows_at, row_length}
use Rattle.text.specs.Output.{line_of, code_text, node_line, node_lines}
use Rattle.text.proofs.PrintedLines.{code_absent, code_number}
use Rattle.nodes_text.specs.TreeInput.{is_code, code_said, says_node, node_row, nodes_formed, nodes, tree_whole, tree_said}
use Rattle.tree_text.specs.Answers.{NodesRead}

-- A number's text is no `-`.
decimal_no_dash : (code : ℕ) → code < absent → alike (decimal code) (spelt "-") ≡ false
unfolding is_number is_digit every
decimal_no_dash code h =
    not_so (alike (decimal code) (spelt "-"))
    (λ e. true≢false (sym (decimal_is_number code (omega arith)) ∙ ap is_number (alike_same (decimal code) (spelt "-") e)))

-- A code's text has neither tab nor LF, is a code, and says it.
record Spelt (code : ℕ) (text : List ℕ) : Type 0 where
  no_tabs : every no_tab text ≡ true
  no_feeds : no_feed text ≡ true
  is : is_code text ≡ true
  says : code_said text ≡ code

spelt_code : (code : ℕ) → code ≤ absent → Spelt code (code_text code)
unfolding every no_tab no_feed is_code code_said alike is_digit
spelt_code code h =
    ⊎_elim
    (λ e. rw (code_absent code e, e) (record { no_tabs = refl; no_feeds = refl; is = refl; says = refl }))
    (λ e.
    let below : code < absent = omega arith in
    let other = decimal_no_dash code below in
    let number = value_decimal code h in
    rw (code_number code e)
    (record {
      no_tabs = decimal_no_tab code;
      no_feeds = decimal_without 10 code refl;
      is = rw (other, decimal_is_number code h, number, lt-ltb code absent below);
      says = rw (other, number);
    }))
    (same_or_not code absent)

-- A code that can be printed.
unfoldable fits : ℕ → Bool
fits code = leb code absent

codes_spelt : (codes : List ℕ) → every fits codes ≡ true → map code_said (map code_text codes) ≡ codes
unfolding fits
codes_spelt [] e = refl
codes_spelt (code ∷ codes) e =
    let p = every_uncons fits code codes e in
    rw ((spelt_code code (leb-true code absent p.0)).says, codes_spelt codes p.1)

-- A row that can be: four codes, of which the first is a number.
unfoldable is_row : List ℕ → Bool
is_row row = eqb (length row) 4 && (every fits row && ltb (get_or row 0 0) absent)

record LineSays (row : List ℕ) : Type 0 where
  a_line : is_line (node_line row) ≡ true
  a_node : says_node (fields (node_line row)) ≡ true
  its_row : node_row (node_line row) ≡ row

line_says : (row : List ℕ) → is_row row ≡ true → LineSays row
unfolding is_row fits node_line line_of node_row says_node every no_tab no_feed
line_says [] e = absurd (true≢false (sym e))
line_says (label ∷ rest) e =
    let row = label ∷ rest in
    let p = both (eqb (length row) 4) _ e in
    let q = both (every fits row) _ p.1 in
    let size = eqb-true (length row) 4 p.0 in
    let texts = map code_text row in
    let each : (code : ℕ) → fits code ≡ true → Spelt code (code_text code) = λ code f. spelt_code code (leb-true code absent f) in
    let tabs : every (every no_tab) (spelt "node" ∷ texts) ≡ true =
    every_cons (every no_tab) (spelt "node") texts refl (every_mapped fits (every no_tab) code_text (λ code f. (each code f).no_tabs) row q.0) in
    let feeds : every no_feed (spelt "node" ∷ texts) ≡ true =
    every_cons no_feed (spelt "node") texts refl (every_mapped fits no_feed code_text (λ code f. (each code f).no_feeds) row q.0) in
    let parts = fields_line (spelt "node") texts tabs in
    let below = ltb-true label absent q.1 in
    let number = code_number label (λ f. omega arith) in
    record {
      a_line = line_ended (tabbed (spelt "node" ∷ texts)) (tabbed_free (spelt "node" ∷ texts) feeds);
      a_node =
          rw (
            parts,
            alike_self (spelt "node"),
            eq-eqb (length (spelt "node" ∷ texts)) 5 (omega (arith, length-map row code_text)),
            every_mapped fits is_code code_text (λ code f. (each code f).is) row q.0,
            number,
            decimal_no_dash label below,
          );
      its_row = rw parts (codes_spelt row q.0);
    }

-- The lines of rows one behind the other.
lines_joined_up : (rows : List (List ℕ)) → flat_map node_line rows ≡ flat_map (λ line. line) (map node_line rows)
unfolding flat_map
lines_joined_up [] = refl
lines_joined_up (row ∷ rows) = ap (λ l. node_line row ++ l) (lines_joined_up rows)

rows_again : (rows : List (List ℕ)) → every is_row rows ≡ true → flat_map node_row (map node_line rows) ≡ flat_map (λ row. row) rows
unfolding flat_map
rows_again [] e = refl
rows_again (row ∷ rows) e =
    let p = every_uncons is_row row rows e in
    rw ((line_says row p.0).its_row, rows_again rows p.1)

rows_joined : (count : ℕ) (rows : List ℕ) → length rows ≡ 4 * count → flat_map (λ row. row) (rows_of 4 count rows) ≡ rows
unfolding flat_map rows_of
rows_joined zero rows e = sym (nothing_in rows (omega arith))
rows_joined (suc count) rows e = rw (rows_joined count (drop 4 rows) (rw (length-drop 4 rows) (omega arith))) (take-append-drop 4 rows)

-- The theorem.
pub nodes_read : NodesRead
unfolding node_lines tree_said tree_whole nodes_formed kept_of is_row fits
nodes_read most modes rows some few size codes labels =
    let count : length rows / 4 ≡ modes = omega arith in
    let parts = rows_of 4 modes rows in
    let texts = map node_line parts in
    let many : length texts ≡ modes = length-map parts node_line ∙ length_rows 4 modes rows in
    let good : every is_row parts ≡ true =
    every_by_place is_row parts []
    (λ i h.
    let below : i < modes = omega (arith, length_rows 4 modes rows) in
    let room : 4 * i + 4 ≤ length rows = omega arith in
    let at : (k : ℕ) → k < 4 → get_or (take 4 (drop (4 * i) rows)) k 0 ≡ get_or rows (4 * i + k) 0 =
    λ k l. get_or-take 4 (drop (4 * i) rows) k 0 l ∙ get_or-drop (4 * i) rows k 0 in
    let first : 4 * i + 0 ≡ 4 * i = omega arith in
    rw (
      rows_at 4 modes i rows below,
      eq-eqb (length (take 4 (drop (4 * i) rows))) 4 (row_length 4 i rows room),
      every_by_place (λ code. leb code absent) (take 4 (drop (4 * i) rows)) 0
          (λ k l.
          let l4 : k < 4 = omega (arith, row_length 4 i rows room) in
          rw (at k l4) (le-leb (get_or rows (4 * i + k) 0) absent (codes (4 * i + k) (omega arith)))),
    )
    (rw (at 0 (omega arith), first) (lt-ltb (get_or rows (4 * i) 0) absent (labels i below)))) in
    let all_lines : every is_line texts ≡ true = every_mapped is_row is_line node_line (λ row e. (line_says row e).a_line) parts good in
    let all_nodes : every (λ line. says_node (fields line)) texts ≡ true =
    every_mapped is_row (λ line. says_node (fields line)) node_line (λ row e. (line_says row e).a_node) parts good in
    let lead : leading (λ line. says_node (fields line)) texts ≡ modes =
    leading_all (λ line. says_node (fields line)) texts [] (λ i h. every_at (λ line. says_node (fields line)) texts i [] h all_nodes) ∙ many in
    let back : lines (flat_map (λ line. line) texts) ≡ texts = lines_read_back texts all_lines in
    let least : min most modes ≡ modes = omega arith in
    rw (
      count,
      lines_joined_up parts,
      back,
      lead,
      many,
      least,
      le-leb 1 modes some,
      eq-eqb modes modes refl,
      eq-eqb (length (flat_map (λ line. line) texts)) (length (flat_map (λ line. line) texts)) refl,
    )
    (ap nodes (rows_again parts good ∙ rows_joined modes rows size))
