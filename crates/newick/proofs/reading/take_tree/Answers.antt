-- The codes fill the front of one array and the tree that of the other; each answer is one arm of the meaning.
use mathlib.Core.Path.{◌≡◌, refl, ap, sym, ◌∙◌}
use mathlib.Core.List.{List, ◌++◌}
use Prim.Native.Nat.{ℕ, ◌*◌}
use native.Mathlib.Omega.{arith}
use lib.ListN.{length, take}
use lib.Seq.{length-take-le, take_at}
use Rattle.tree.specs.Check.{tree_checked}
use Rattle.newick.specs.Reading.{got}
use Rattle.newick.specs.Calls.{table_in, taken_as, read_as, table_after}
use Rattle.newick.proofs.TreeTaken.{table_is, out_of_range, all_in_range, laid_alike}
use Rattle.refusal.proofs.Told.{handed_on}
use Rattle.newick.proofs.reading.take_tree.Goals as goal
use Rattle.newick.proofs.reading.take_tree.Goals.{After-check_tree}

-- All numbers are in range, so the tree is the table that the nodes make, and the answer is the check's of that table.
tree_is : (c : After-check_tree) → c.lay_rows.new.table ≡ table_in c.args.rows.now
tree_is c =
    let size : length c.put_codes.new.codes ≡ 4 * c.args.modes =
    c.put_codes.auto.codes ∙ length-take-le (4 * c.args.modes) _ (omega (arith, c.requires.0)) in
    c.lay_rows.ensures
    ∙ laid_alike (length-take-le (3 * c.args.modes) _ (omega (arith, c.requires.0))) (take_at c.put_codes.new.codes _ (4 * c.args.modes) size)
    ∙ table_is c.args.modes c.args.rows.now c.requires.1 c.put_codes.new.codes (c.put_codes.ensures.codes c.if-not-put_codes.false)

front_is : (c : After-check_tree) (rest : List ℕ) → take (3 * c.args.modes) (c.lay_rows.new.table ++ rest) ≡ table_in c.args.rows.now
front_is c rest =
    let size : length c.lay_rows.new.table ≡ 3 * c.args.modes =
    c.lay_rows.auto.table ∙ length-take-le (3 * c.args.modes) _ (omega (arith, c.requires.0)) in
    take_at c.lay_rows.new.table rest (3 * c.args.modes) size ∙ tree_is c

checked : (c : After-check_tree) → c.check_tree.result ≡ tree_checked 256 c.args.modes (table_in c.args.rows.now)
checked c = c.check_tree.ensures.answer ∙ ap (tree_checked 256 c.args.modes) (front_is c _)

-- What the nodes are read as is what is taken of the check's answer.
read_is : (c : After-check_tree) (name at room : ℕ)
    → taken_as c.check_tree.result c.args.modes room ≡ read_as 256 (got name c.args.rows.now at) room
read_is c name at room =
    ap (λ w. taken_as w c.args.modes room) (checked c)
    ∙ sym
    (all_in_range c.args.modes c.args.rows.now c.requires.1 256 name at room (sym c.put_codes.ensures.good ∙ c.if-not-put_codes.false))

pub returns-then-not-put_codes : goal.returns-then-not-put_codes
unfolding table_after
returns-then-not-put_codes c =
    let out = sym c.put_codes.ensures.good ∙ c.if-not-put_codes.true in
    record {
      by_index = λ name at. sym (out_of_range c.args.modes c.args.rows.now c.requires.1 256 name at (length c.args.table.now) out);
      table_after = refl;
    }

pub returns-in_err-check_tree : goal.returns-in_err-check_tree
unfolding table_after taken_as
returns-in_err-check_tree c =
    let here = (goal.at.returns-in_err-check_tree c).After-check_tree in
    let room = length c.args.table.now in
    let refused = handed_on c.from_residual.ensures in
    record {
      by_index = λ name at. refused ∙ ap (λ w. taken_as w c.args.modes room) (sym c.in_err-check_tree.was) ∙ read_is here name at room;
      table_after = rw refused;
    }

pub returns : goal.returns
returns c =
    let here = (goal.at.returns c).After-check_tree in
    let room = length c.args.table.now in
    let take = c.take_table in
    record {
      by_index = λ name at. take.ensures.value ∙ ap (λ w. taken_as w c.args.modes room) (sym c.in_ok-check_tree.was) ∙ read_is here name at room;
      table_after = take.ensures.table_after ∙ ap (λ t. table_after take.result t c.args.table.now) (front_is here _);
    }
