-- Each return reads none or all.
use mathlib.Core.Path.{sym}
use Prim.Native.Nat.{◌*◌, ◌≤◌}
use native.Mathlib.Omega.{arith}
use lib.ListN.{length}
use lib.Seq.{length-take-le}
use Rattle.assign_call.proofs.TreeSame.{tree_beyond, tree_none, tree_all}
use Rattle.assign_call.proofs.read_tree.Goals as goal

pub returns-then-modes-gt256 : goal.returns-then-modes-gt256
returns-then-modes-gt256 c =
    let args = c.args in
    tree_beyond 256 args.modes args.bytes.now args.numbers.now c.if-modes-gt256.true

pub returns-then-bytes-modes : goal.returns-then-bytes-modes
returns-then-bytes-modes c =
    let args = c.args in
    tree_none 256 args.modes args.bytes.now args.numbers.now c.if-bytes-modes.true

pub slice_bounds-read_words-end-2 : goal.slice_bounds-read_words-end-2
slice_bounds-read_words-end-2 c =
    let args = c.args in
    sym (length-take-le (3 * args.modes) args.numbers.now (omega (arith, c.requires, c.if-modes-gt256.false)))

pub read_words-requires : goal.read_words-requires
read_words-requires c =
    let args = c.args in
    let room : 3 * args.modes ≤ length args.numbers.now = omega (arith, c.requires, c.if-modes-gt256.false) in
    rw (length-take-le (3 * args.modes) args.numbers.now room) (omega (arith, c.if-bytes-modes.false))

pub returns : goal.returns
returns c =
    let args = c.args in
    tree_all 256 args.modes args.bytes.now args.numbers.now c.if-bytes-modes.false (omega (arith, c.requires, c.if-modes-gt256.false)) _ _ c.read_words.ensures
