-- The program's own rooms suffice for whatever the texts say, so 5 is never printed of an assignment.
use Rattle.std.specs.Prelude.{Err, Ok, Result}
use Rattle.refusal.specs.declared.Refusal.{Refusal}
use mathlib.Core.Path.{◌≡◌, refl, ap}
use mathlib.Core.Bool.{Bool, true, false, cond, not}
use mathlib.Core.List.{List}
use Prim.Native.Nat.{ℕ, ◌*◌, ◌≤◌}
use native.Mathlib.Omega.{arith}
use borrow.Author.Tests.{le-leb}
use lib.Dec.{eqb, ltb, leb}
use lib.ListN.{length, get_or}
use Rattle.refusal.specs.declared.Refusal.TheVariants.{Modes, Room, TreeLength, ChildCode, NotOneTree, WrongPair, Heuristic, Malformed, Rule as NoRule}
use Rattle.refusal.specs.Numbers.{number_of}
use Rattle.entities.specs.Limits.{most_modes, most_terms, work_width}
use Rattle.fields.specs.Fields.{tabbed}
use Rattle.terms.specs.Rules.{rule_number, rule_good}
use Rattle.terms.specs.Good.{modes_good, checked}
use Rattle.terms.proofs.RowSteps.{length_terms}
use Rattle.terms.proofs.GoodTerms.{accepted}
use Rattle.tree.specs.OneTree.{one_tree}
use Rattle.tree.specs.Pairs.{pairs_right}
use Rattle.tree.specs.Check.{codes_good, tree_checked}
use Rattle.tree.proofs.AcceptedParts.{accepted_parts}
use Rattle.topphatt.specs.Answer.{Outcome, done, refused, Asked, done_by, with_room, with_terms, with_tree, outcome}
use Rattle.terms_text.specs.Input.{Said, given, malformed as terms_malformed, said}
use Rattle.text.specs.Running.{program_rooms}
use Rattle.text.specs.Output.{line_of, refusal_text}
use Rattle.terms_text.proofs.TermsRefused.{terms_refusal}
use Rattle.text.proofs.RoomSuffices.{refusal_five}
use Rattle.nodes_text.specs.TreeInput.{TreeSaid, nodes, malformed, tree_said}
use Rattle.tree.specs.Laying.{table_of}
use Rattle.tree_text.specs.Answers.{weight_line}
use Rattle.assign_text.specs.Assigning.{heuristic_of, assign_rooms, assigned_with, assign_printed, assign_as, assign_text, AssignSuffices}

-- The number with which an assignment ends, none where it isn't refused.
unfoldable number_in : Outcome → ℕ
number_in (done count weight table) = 0
number_in (refused refusal) = number_of refusal

-- The number with which a check ends.
unfoldable number_checked : Result (Unit {0}) Refusal → ℕ
number_checked (Ok tt) = 0
number_checked (Err refusal) = number_of refusal

check_never : (modes : ℕ) (table : List ℕ) → number_checked (tree_checked most_modes modes table) ≡ 5 → ⊥
unfolding number_checked tree_checked
check_never modes table =
    go (modes_good most_modes modes) (eqb (length table) (3 * modes)) (ltb (codes_good modes table) (length table)) (one_tree modes table)
    (ltb (pairs_right modes table) modes)
  where
    go : (a b c d e : Bool)
        → number_checked (cond (not a) (Err Modes)
        (cond (not b) (Err TreeLength)
        (cond c (Err (ChildCode (codes_good modes table)))
        (cond (not d) (Err NotOneTree) (cond e (Err (WrongPair (pairs_right modes table))) (Ok tt))))))
        ≡ 5
        → ⊥
    go false b c d e h = omega arith
    go true false c d e h = omega arith
    go true true true d e h = omega arith
    go true true false false e h = omega arith
    go true true false true true h = omega arith
    go true true false true false h = omega arith

module _ (call : Asked) where
  abbrev number_with : Result ℕ Refusal → ℕ
  number_with found = number_in (with_terms (assign_rooms program_rooms) call found)

  -- Terms that are refused have other numbers, and with room for all an assignment is done.
  terms_never : call.modes ≤ most_modes → (found : Result ℕ Refusal) → checked call.modes call.numbers ≡ found → number_with found ≡ 5 → ⊥
  unfolding number_in with_terms with_room done_by
  terms_never few (Ok count) e h =
      let short = (accepted call.modes call.numbers count e).at_most in
      let z : ◌≡◌ {A = ℕ} 0 5 =
      rw (
        length_terms 8 count call.numbers,
        le-leb (9 * count) (work_width * most_terms) (omega (arith, short)),
        le-leb (3 * call.modes) (3 * most_modes) (omega arith),
      ) at h in
      omega arith
  terms_never few (Err why) e h = omega (arith, h, terms_refusal call.modes call.numbers why e)

  assign_never : number_in (outcome (assign_rooms program_rooms) call) ≡ 5 → ⊥
  unfolding number_in number_checked outcome with_tree
  assign_never h = by_tests (modes_good most_modes call.modes) (rule_good call.rule) h
    where
      by_heuristic : (b : Bool) → call.modes ≤ most_modes
          → number_in (cond (not b) (refused Heuristic) (with_terms (assign_rooms program_rooms) call (checked call.modes call.numbers))) ≡ 5
          → ⊥
      by_heuristic true few k = terms_never few (checked call.modes call.numbers) refl k
      by_heuristic false few k = omega arith

      by_tree : (found : Result (Unit {0}) Refusal) → tree_checked most_modes call.modes call.tree ≡ found
          → number_in (with_tree (assign_rooms program_rooms) call found) ≡ 5
          → ⊥
      by_tree (Ok tt) e k = by_heuristic (leb call.heuristic 2) (accepted_parts most_modes call.modes call.tree e).few k
      by_tree (Err refusal) e k = check_never call.modes call.tree (rw e k)

      by_tests : (b c : Bool)
          → number_in
          (cond (not b) (refused Modes)
          (cond (not c) (refused NoRule) (with_tree (assign_rooms program_rooms) call (tree_checked most_modes call.modes call.tree))))
          ≡ 5
          → ⊥
      by_tests false c k = omega arith
      by_tests true false k = omega arith
      by_tests true true k = by_tree (tree_checked most_modes call.modes call.tree) refl k

-- Where the text of 5 is printed, the assignment ended with it: what is done begins otherwise.
five_ended : (rows : List ℕ) (end : Outcome) → assign_printed rows end ≡ refusal_text Room → number_in end ≡ 5
unfolding number_in assign_printed weight_line refusal_text line_of tabbed
five_ended rows (done count weight table) e = absurd (omega (arith, ap (λ text. get_or text 0 0) e))
five_ended rows (refused refusal) e = refusal_five refusal e

-- The theorem: 5 is never printed.
pub assign_suffices : AssignSuffices
unfolding assign_text assign_as assigned_with number_in
assign_suffices tree name asks = go (tree_said most_modes tree)
  where
    with_terms_said : (rows : List ℕ) (terms : Said)
        → assign_printed rows (assigned_with (assign_rooms program_rooms) (rule_number asks.rule) (heuristic_of name) (table_of rows) terms) ≡ refusal_text Room
        → ⊥
    with_terms_said rows (given modes numbers) e = assign_never _ (five_ended rows _ e)
    with_terms_said rows (terms_malformed line) e = let z = five_ended rows (refused (Malformed line)) e in omega arith

    go : (found : TreeSaid) → assign_as (assign_rooms program_rooms) (rule_number asks.rule) (heuristic_of name) found (said most_terms asks.text) ≡ refusal_text Room → ⊥
    go (nodes rows) e = with_terms_said rows (said most_terms asks.text) e
    go (malformed line) e = let z = refusal_five (Malformed line) e in omega arith
