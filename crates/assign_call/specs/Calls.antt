-- "terms come in 16s (else 2), a tree in 6n (else 13), and all other rooms double …; work is the call's own. … Too short a slice there is 5."
use Rattle.refusal.specs.declared.Refusal.{Refusal}
use Rattle.std.specs.Prelude.{cond, not, ◌&&◌, List, ℕ, ◌*◌, ◌%◌, eqb, leb, length, Err, Ok, Result}
use Rattle.refusal.specs.declared.Refusal.TheVariants.{Modes, TermNumbers, Room, TreeLength, Heuristic}
use Rattle.terms.specs.declared.rules.Rule.TheVariants.{Published}
use Rattle.terms.specs.Rules.{rule_number}
use Rattle.terms.specs.Good.{modes_good, checked}
use Rattle.tree.specs.Check.{tree_checked}
use Rattle.topphatt.specs.Answer.{Outcome, refused, Asked, asked, task_of, done_by}
use Rattle.call_bytes.specs.Bytes.{words}

-- What is lent to a call that assigns: every byte of table and answer.
pub record LentTable : Type 0 where
  pub table : List ℕ
  pub answer : List ℕ

abbrev pub lent_table : List ℕ → List ℕ → LentTable
lent_table table answer = record { table = table; answer = answer }

-- 3 and 4 of the terms, then 5: room for a table of 3n numbers and for the weight.
unfoldable pub assign_terms : Asked → LentTable → Result ℕ Refusal → Outcome
assign_terms call given (Ok count) =
    cond (not (leb (6 * call.modes) (length given.table) && leb 8 (length given.answer))) (refused Room) (done_by (task_of call count))
assign_terms call given (Err refusal) = refused refusal

-- 14 to 16 of the tree, 17, and 2 for terms that don't come in 16s.
unfoldable pub assign_tree : Asked → List ℕ → LentTable → Result (Unit {0}) Refusal → Outcome
assign_tree call terms given (Ok tt) =
    cond (not (leb call.heuristic 2)) (refused Heuristic)
    (cond (not (eqb (length terms % 16) 0)) (refused TermNumbers)
    (assign_terms call given (checked call.modes call.numbers)))
assign_tree call terms given (Err refusal) = refused refusal

-- The meaning of `dewgoblin_assign`, from the most modes that it takes, the modes, the tree's bytes, the heuristic, the terms' bytes and
-- what is lent: 1, and 13 for a tree that isn't 6n bytes. "the C calls keep the published rule".
unfoldable pub assign_called : ℕ → ℕ → List ℕ → ℕ → List ℕ → LentTable → Outcome
assign_called most modes tree heuristic terms given =
    cond (not (modes_good most modes)) (refused Modes)
    (cond (not (eqb (length tree) (6 * modes))) (refused TreeLength)
    (assign_tree (asked modes (rule_number Published) (words tree) heuristic (words terms)) terms given (tree_checked most modes (words tree))))
