-- What an assignment left in what it was lent, and how that is printed.
use Rattle.std.specs.Prelude.{Err, Ok, Result}
use mathlib.Core.Path.{◌≡◌, refl, ap, ◌∙◌, sym}
use mathlib.Core.List.{List, [], ◌∷◌, ◌++◌}
use Prim.Native.Nat.{ℕ, ◌*◌, ◌≤◌}
use native.Mathlib.Omega.{arith}
use lib.ListN.{length, take, length-map}
use Rattle.lists.proofs.Written.{part_written}
use Rattle.lists.proofs.Behind.{Wrote, then_wrote}
use Rattle.refusal.specs.declared.Refusal.{Refusal}
use Rattle.refusal.specs.declared.Refusal.TheVariants.{Malformed}
use Rattle.refusal.specs.Numbers.{place_of}
use Rattle.entities.specs.Limits.{most_modes, most_terms, work_width}
use Rattle.fields.specs.Texts.{spelt}
use Rattle.fields.specs.Decimal.{decimal}
use Rattle.terms.specs.Rules.{rule_number}
use Rattle.topphatt.specs.Answer.{answer_table, Outcome, done, refused, Asked, asked, outcome}
use Rattle.topphatt.specs.Promises.{returned, Lent, rooms_of, lent_then, Assigns}
use Rattle.topphatt.proofs.AssignDone.{assign_done}
use Rattle.terms_text.specs.Input.{Said, given, malformed as terms_malformed, said}
use Rattle.terms_text.specs.Jobs.{Request}
use Rattle.text.specs.Running.{program_rooms}
use Rattle.text.specs.Output.{node_lines, refusal_text}
use Rattle.text.specs.code.Printing.{Puts}
use Rattle.text.proofs.PrintedLines.{wrote_puts}
use Rattle.nodes_text.specs.TreeInput.{malformed, tree_said}
use Rattle.tree_text.specs.Answers.{weight_line}
use Rattle.assign_text.specs.Assigning.{assign_rooms, assigned_with, assigned_rows, assign_printed, assign_as, heuristic_of, assign_text}
use Rattle.tree_text.specs.code.Reading.{TreeRead}
use Rattle.assign_text.specs.code.Finding.{meant_text}
use Rattle.tree_text.proofs.AnswersPrinted.{weight_parts}

-- The table of an assignment that is done is as long as the given one.
table_length : (call : Asked) (count weight : ℕ) (codes : List ℕ) → outcome (assign_rooms program_rooms) call ≡ done count weight codes
    → length codes ≡ length call.tree
unfolding answer_table
table_length call count weight codes e =
    let known = assign_done (assign_rooms program_rooms) call count weight codes e in
    ap length known.answer_is ∙ length-map call.tree _

module _ (modes rule heuristic : ℕ) (tree numbers rows : List ℕ) (lends after : Lent) (r : Result ℕ Refusal) (work : length lends.work ≡ work_width * most_terms)
    (table : length lends.table ≡ 3 * most_modes)
    (assigns : Assigns (λ lent. outcome (rooms_of most_modes lent) (asked modes rule tree heuristic numbers)) lends after r) where
  abbrev meant : Outcome
  meant = outcome (assign_rooms program_rooms) (asked modes rule tree heuristic numbers)

  same_rooms : rooms_of most_modes lends ≡ assign_rooms program_rooms
  same_rooms = rw (work, table)

  same_answer : r ≡ returned meant
  same_answer = rw (← same_rooms) assigns.answer

  same_left : after ≡ lent_then meant lends
  same_left = rw (← same_rooms) assigns.leaves

  pub refused_printed : (refusal : Refusal) → r ≡ Err refusal → refusal_text refusal ≡ meant_text rows tree rule heuristic (given modes numbers)
  unfolding meant_text assigned_with assign_printed returned
  refused_printed refusal e = go meant (sym e ∙ same_answer)
    where
      go : (means : Outcome) → Err refusal ≡ returned means → refusal_text refusal ≡ assign_printed rows means
      go (done count weight codes) f = let z : ◌≡◌ {A = ℕ} 0 1 = cc in absurd (omega arith)
      go (refused other) f = ap refusal_text (cc)

  pub done_printed : (weight : ℕ) → r ≡ Ok weight → length tree ≤ 3 * most_modes
      → weight_line weight ++ node_lines (assigned_rows rows (take (length tree) after.table)) ≡ meant_text rows tree rule heuristic (given modes numbers)
  unfolding meant_text assigned_with assign_printed returned lent_then
  done_printed weight e fits = go meant refl (sym e ∙ same_answer) same_left
    where
      go : (means : Outcome) → meant ≡ means → Ok weight ≡ returned means → after ≡ lent_then means lends
          → weight_line weight ++ node_lines (assigned_rows rows (take (length tree) after.table)) ≡ assign_printed rows means
      go (done count found codes) m f left =
          let same : weight ≡ found = cc in
          let long = table_length (asked modes rule tree heuristic numbers) count found codes m in
          let stands : take (length tree) after.table ≡ codes = rw (left, ← long) (part_written 0 codes lends.table (omega (arith, table))) in
          rw (same, stands)
      go (refused refusal) m f left = let z : ◌≡◌ {A = ℕ} 0 1 = cc in absurd (omega arith)

-- Malformed terms are refused.
pub terms_refused : (rule heuristic : ℕ) (rows table : List ℕ) (terms : Said) (why : Refusal) → (why ≡ Malformed (place_of why)) × (terms ≡ terms_malformed (place_of why))
    → refusal_text why ≡ meant_text rows table rule heuristic terms
unfolding meant_text assigned_with assign_printed
terms_refused rule heuristic rows table terms why bad = rw (bad.1, ← bad.0)

-- What a tree's text was read to say is assigned on.
module _ (tree name : List ℕ) (asks : Request) where
  pub assign_malformed : (why : Refusal) → (why ≡ Malformed (place_of why)) × (tree_said most_modes tree ≡ malformed (place_of why))
      → assign_text program_rooms tree name asks ≡ refusal_text why
  unfolding assign_text assign_as
  assign_malformed why bad = rw (bad.1, ← bad.0)

  pub assign_read : {rows table : List ℕ} {count : ℕ} → TreeRead most_modes (tree_said most_modes tree) rows table count
      → (rule heuristic : ℕ) → rule ≡ rule_number asks.rule → heuristic ≡ heuristic_of name
      → meant_text (take (4 * count) rows) (take (3 * count) table) rule heuristic (said most_terms asks.text) ≡ assign_text program_rooms tree name asks
  unfolding meant_text assign_text assign_as
  assign_read read rule heuristic named e = rw (named, e, read.says, read.laid)

-- A weight's line and the lines of rows, part by part.
pub found_wrote : (weight : ℕ) (rows before : List ℕ) → {s1 s2 : List ℕ} {e1 e2 : ℕ}
    → Wrote 0 (spelt "weight\t" ++ (decimal weight ++ (10 ∷ []))) before s1 e1 → Wrote e1 (node_lines rows) s1 s2 e2
    → e1 ≤ length before → e2 ≤ length before → Puts (weight_line weight ++ node_lines rows) before s2 e2
found_wrote weight rows before a b h k = rw (← weight_parts weight) (wrote_puts (then_wrote a b h) k)
