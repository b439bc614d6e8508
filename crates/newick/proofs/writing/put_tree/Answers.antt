-- The text has the length that was asked for, so the tree under the root and `;` behind it fit.
use mathlib.Core.Path.{◌≡◌, refl}
use Prim.Native.Nat.{◌≤◌}
use native.Mathlib.Omega.{arith}
use lib.ListN.{length}
use Rattle.tree.specs.Writing.{text_after}
use Rattle.tree.proofs.AcceptedParts.{AcceptedParts, accepted_parts}
use Rattle.tree.proofs.WritingAnswered.{short_answer, whole_answer}
use Rattle.newick.specs.Writing.{newick_text, text_length}
use Rattle.newick.proofs.TextLength.{accepted_length}
use Rattle.newick.proofs.TreeWrote.{tree_room, tree_wrote}
use Rattle.newick.proofs.writing.put_tree.Goals as goal
use Rattle.newick.proofs.writing.put_tree.Goals.{After-climb-root, Start}

parts : (c : Start) → AcceptedParts 256 c.args.modes c.args.tree.now
parts c = accepted_parts 256 c.args.modes c.args.tree.now c.requires

size : (c : Start) → length (newick_text c.args.modes c.args.tree.now) ≡ text_length c.args.modes
size c = accepted_length 256 c.args.modes c.args.tree.now (omega (arith, (parts c).few)) c.requires

-- Where the code goes on there is room.
room : (c : After-climb-root)
    → let args = c.args in length (newick_text args.modes args.tree.now) ≤ length args.text.now
room c = omega (arith, size c.before.before.before.before.before.before, c.text_length-length.ensures.0)

pub text_length-length-requires : goal.text_length-length-requires
text_length-length-requires c = (parts (goal.at.text_length-length-requires c).Start).few

pub returns-then-text-length : goal.returns-then-text-length
unfolding text_after
returns-then-text-length c =
    let args = c.args in
    record {
      value =
          short_answer (newick_text args.modes args.tree.now) (length args.text.now)
          (omega (arith, size (goal.at.returns-then-text-length c).Start, c.text_length-length.ensures.0));
      text_after = refl;
    }

pub put_child-end-requires : goal.put_child-end-requires
put_child-end-requires c =
    let args = c.args in
    let fits = tree_room args.modes args.tree.now c.climb-root.result c.climb-root.ensures args.text.now (room (goal.at.put_child-end-requires c).After-climb-root) in
    omega (arith, fits)

pub invariant_of-table : goal.invariant_of-table
invariant_of-table c = record { whole = (parts (goal.at.invariant_of-table c).Start).whole }

pub bounds-text-end : goal.bounds-text-end
bounds-text-end c =
    let args = c.args in
    let put = c.put_child-end in
    let fits = tree_room args.modes args.tree.now c.climb-root.result c.climb-root.ensures args.text.now (room (goal.at.bounds-text-end c).After-climb-root) in
    omega (arith, fits, put.ensures.value, put.auto.text)

pub returns : goal.returns
unfolding text_after
returns c =
    let args = c.args in
    let put = c.put_child-end.ensures in
    let counted = c.text_length-length in
    record {
      value = whole_answer (newick_text args.modes args.tree.now) (length args.text.now) counted.result
          (omega (arith, counted.ensures.0, size (goal.at.returns c).Start)) (room (goal.at.returns c).After-climb-root);
      text_after = tree_wrote args.modes args.tree.now c.climb-root.result c.climb-root.ensures args.text.now (room (goal.at.returns c).After-climb-root) put.value put.text_after;
    }
