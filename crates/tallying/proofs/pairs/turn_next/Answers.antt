-- A mode beyond the table is passed over; where neither leaf stands before, the weight goes from z's parity to 1; else as turn_pair has it.
use mathlib.Core.Path.{◌≡◌, ap}
use Prim.Native.Nat.{ℕ, ◌+◌, ◌-◌, ◌*◌, ◌/◌, ◌%◌, ◌≤◌}
use native.Mathlib.Omega.{arith}
use lib.ListN.{take}
use Rattle.lists.specs.Counting.{occurrences}
use Rattle.tallying.specs.code.Pairs.{beside}
use Rattle.tallying.proofs.PairsTurned.{Partners, pair_beyond, pair_idle, pair_here, goes_up}
use Rattle.tallying.proofs.pairs.turn_next.Goals as goal
use Rattle.tallying.proofs.pairs.turn_next.Goals.{Else-mode-bound}

-- Where those before are all below both leaves.
module _ (d : Else-mode-bound) where
  abbrev number : ℕ
  number = d.from-mode.result

  abbrev other : ℕ
  other = 2 * (number / 2) + (1 - number % 2)

  partners : Partners number other
  partners = (λ e. omega arith, λ e. omega arith)

  none : (n : ℕ) → 2 * (number / 2) ≤ n → occurrences n (take d.args.at d.args.term.now) % 2 ≡ 0
  none n h = ap (λ o. o % 2) (d.requires.at_in_bounds.1 n (omega arith))

  up : d.args.odd ≡ 0 → (beside d.args.odd (number / 2) (take d.args.at d.args.term.now) ≡ 0)
      × (beside d.args.odd (number / 2) (take (d.args.at + 1) d.args.term.now) ≡ 1)
  up e =
      goes_up d.args.odd d.args.term.now d.args.at d.requires.at_in_bounds.0 number other d.from-mode.ensures partners d.requires.at_in_bounds.2
      (omega (arith, none other (omega arith))) (omega (arith, none number (omega arith)))

pub returns-then-table-mode : goal.returns-then-table-mode
returns-then-table-mode c =
    pair_beyond c.args.odd c.args.term.now c.args.at c.requires.at_in_bounds.0 c.args.table.now (omega (arith, c.from-mode.ensures))

pub overflow_add-table : goal.overflow_add-table
overflow_add-table c =
    let d = (goal.at.overflow_add-table c).Else-mode-bound in
    omega (arith, up d c.if-odd-eq0.true, c.requires.by_index (number d / 2) (omega arith))

pub returns-then-odd-eq0 : goal.returns-then-odd-eq0
returns-then-odd-eq0 c =
    let d = (goal.at.returns-then-odd-eq0 c).Else-mode-bound in
    let args = c.args in
    pair_here args.odd args.term.now args.at c.requires.at_in_bounds.0 args.table.now (number d) (other d) c.from-mode.ensures (partners d) _ (omega arith)
    (omega (arith, up d c.if-odd-eq0.true))

pub returns-else-odd-eq0 : goal.returns-else-odd-eq0
returns-else-odd-eq0 c =
    let d = (goal.at.returns-else-odd-eq0 c).Else-mode-bound in
    let args = c.args in
    pair_idle args.odd args.term.now args.at c.requires.at_in_bounds.0 args.table.now (number d) (other d) c.from-mode.ensures (partners d)
    (omega (arith, none d (other d) (omega arith), c.requires.at_in_bounds.2))
