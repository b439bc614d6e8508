-- A number beyond the table is passed over; any other turns its entry.
use mathlib.Core.Path.{◌≡◌}
use Prim.Native.Nat.{◌%◌}
use native.Mathlib.Omega.{arith}
use lib.ListN.{take}
use Rattle.lists.specs.Counting.{occurrences}
use Rattle.tallying.proofs.Parities.{turned_beyond, turned_here}
use Rattle.tallying.proofs.raising.turn.Goals as goal
use Rattle.tallying.proofs.raising.turn.Goals.{After-odd_in-odd, Then-bound-place}

-- Where those before are all below it, it is odd from now on.
first : (d : Then-bound-place)
    → (let args = d.args in 0 ≡ occurrences d.from-place.result (take args.at args.term.now) % 2)
first d =
    let none = d.requires.at_in_bounds.1 d.from-place.result d.if-bound-place.true in
    omega arith

-- What was counted is the parity of the number in those before it.
parity : (c : After-odd_in-odd)
    → (let args = c.args in c.odd_in-odd.result ≡ occurrences c.from-place.result (take args.at args.term.now) % 2)
parity c = let counted = c.odd_in-odd.ensures.0 in rw c.from-place.ensures counted

pub returns-then-table-place : goal.returns-then-table-place
returns-then-table-place c =
    turned_beyond c.args.term.now c.args.at c.args.table.now c.requires.at_in_bounds.0 (omega arith)

pub returns-then-bound-place : goal.returns-then-bound-place
returns-then-bound-place c =
    let number = c.from-place in
    turned_here c.args.term.now c.args.at c.args.table.now c.requires.at_in_bounds.0
    number.result _ 0 number.ensures (omega arith) (first (goal.at.returns-then-bound-place c).Then-bound-place) (omega arith)

pub returns : goal.returns
returns c =
    let odd = parity (goal.at.returns c).After-odd_in-odd in
    let number = c.from-place in
    let entry = c.requires.by_index number.result (omega arith) in
    turned_here c.args.term.now c.args.at c.args.table.now c.requires.at_in_bounds.0
    number.result _ _ number.ensures (omega arith) odd (omega arith)
