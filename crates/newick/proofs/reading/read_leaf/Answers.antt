-- There is no number, or the leaf is named by it.
use mathlib.Core.Path.{sym}
use mathlib.Core.List.{List}
use Prim.Native.Nat.{ℕ, ◌*◌}
use native.Mathlib.Omega.{arith}
use lib.ListN.{take}
use Rattle.newick.specs.Reading.{Reading, got, leaf_name}
use Rattle.newick.specs.code.Promises.{meant, stopped, end_of, place_of, closed_of}
use Rattle.newick.proofs.PartsRead.{numbered_none, numbered_some}
use Rattle.newick.proofs.reading.read_leaf.Goals as goal

-- What is to follow the number.
abbrev leaf : ℕ → List ℕ → ℕ → ℕ → Reading
leaf closed numbers number end = got (leaf_name number) (take (4 * closed) numbers) end

pub returns-then-number-at : goal.returns-then-number-at
unfolding meant stopped end_of place_of closed_of
returns-then-number-at c =
    let read = c.read_digits-number in
    let none = c.if-number-at.true in
    record {
      by_index = λ numbers. sym (numbered_none c.args.text.now c.args.at (leaf c.args.closed numbers) read.result read.ensures none);
      result_in_bounds = (c.requires, omega arith);
    }

pub returns : goal.returns
unfolding meant end_of closed_of leaf_name
returns c =
    let read = c.read_digits-number in
    let apart = c.if-number-at.false in
    record {
      by_index = λ numbers. sym (numbered_some c.args.text.now c.args.at (leaf c.args.closed numbers) read.result read.ensures apart);
      result_in_bounds = (read.ensures.within, omega arith);
    }
