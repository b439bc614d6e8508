-- The absent child is one byte, a leaf its name.
use native.Mathlib.Omega.{arith}
use Rattle.lists.proofs.Behind.{set_written}
use Rattle.newick.proofs.ShapeText.{end_absent, end_leaf}
use Rattle.newick.proofs.writing.put_end.Goals as goal

pub bounds-text-at : goal.bounds-text-at
bounds-text-at c =
    let args = c.args in
    let room = rw (end_absent args.modes args.code c.if-code.true) at c.requires.code_in_bounds in
    omega arith

pub returns-then-code : goal.returns-then-code
returns-then-code c =
    let args = c.args in
    let text = end_absent args.modes args.code c.if-code.true in
    let room = rw text at c.requires.code_in_bounds in
    record { value = rw text (omega arith); text_after = rw text (set_written args.text.now args.at 101 (omega arith)) }

pub put_name-requires : goal.put_name-requires
put_name-requires c =
    let room = rw (end_leaf c.args.modes c.args.code c.if-code.false) at c.requires.code_in_bounds in
    omega arith

pub returns : goal.returns
returns c =
    let put = c.put_name.ensures in
    record {
      value = rw (end_leaf c.args.modes c.args.code c.if-code.false) (omega (arith, put.value));
      text_after = rw (end_leaf c.args.modes c.args.code c.if-code.false) (put.text_after);
    }
