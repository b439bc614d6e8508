-- What the code hands on to `assign`, so that each refusal is given in its turn: no numbers where the bytes are no tree, and no room where the
-- answer has none.
use Rattle.std.specs.Prelude.{cond, List, [], ℕ, ◌*◌, eqb, length}
use Rattle.terms.specs.declared.rules.Rule.TheVariants.{Published}
use Rattle.terms.specs.Rules.{rule_number}
use Rattle.topphatt.specs.Answer.{Outcome, asked, Rooms, outcome}
use Rattle.call_bytes.specs.Bytes.{words}
use Rattle.call_bytes.specs.code.Handing.{term_numbers, room_of}
use Rattle.assign_call.specs.Calls.{LentTable}

-- The numbers of a tree; bytes that aren't 6n are no table, which is refused by 13.
unfoldable pub tree_numbers : ℕ → List ℕ → List ℕ
tree_numbers modes bytes = cond (eqb (length bytes) (6 * modes)) (words bytes) []

-- The rooms of an assignment in what the call has and is lent.
unfoldable pub table_rooms_in : Rooms → LentTable → Rooms
table_rooms_in own given = record {
  modes = own.modes;
  work = own.work;
  table = room_of 1 own.table (length given.table) (length given.answer);
}

-- Assigning, handed on.
unfoldable pub assign_handed : Rooms → ℕ → List ℕ → ℕ → List ℕ → LentTable → Outcome
assign_handed own modes tree heuristic terms given =
    outcome (table_rooms_in own given) (asked modes (rule_number Published) (tree_numbers modes tree) heuristic (term_numbers terms))
