-- A mode beyond the table is passed over; a number whose partner's parity is not z's leaves the weight at 1; any other turns it.
use mathlib.Core.Path.{◌≡◌, refl, ap}
use mathlib.Core.List.{List}
use Prim.Native.Nat.{ℕ, ◌+◌, ◌%◌, ◌/◌, ◌<◌}
use native.Mathlib.Omega.{arith}
use lib.ListN.{length, get_or, take, set}
use Rattle.lists.specs.Counting.{occurrences}
use Rattle.tallying.specs.code.Pairs.{beside, PairTurned}
use Rattle.tallying.proofs.PairsTurned.{Partners, pair_beyond, pair_idle, pair_here, goes_up, goes_down}
use Rattle.tallying.proofs.pairs.turn_pair.Goals as goal
use Rattle.tallying.proofs.pairs.turn_pair.Goals.{After-odd_in-2, then-table-mode-via-then-table-mode, then-table-mode-via-else-table-mode+then-odd_in-odd}

-- Behind both parities, where the partner's is z's: what the mode's leaves weigh before and after, and the table with its entry changed so.
module _ (d : After-odd_in-2) where
  abbrev number : ℕ
  number = d.from-mode.result

  abbrev passed : List ℕ
  passed = take d.args.at d.args.term.now

  abbrev before : ℕ
  before = beside d.args.odd (number / 2) passed

  abbrev after : ℕ
  after = beside d.args.odd (number / 2) (take (d.args.at + 1) d.args.term.now)

  partners : Partners number d.partner.result
  partners =
      let is = d.from-mode.ensures in
      let told = d.partner.ensures in
      (λ e. omega (arith, told.0 (omega arith)), λ e. omega (arith, told.1 (omega arith)))

  agree : occurrences d.partner.result passed % 2 ≡ d.args.odd
  agree = let counted = d.odd_in.ensures.0 in omega arith

  own_is : d.odd_in-2.result ≡ occurrences number passed % 2
  own_is =
      let counted = d.odd_in-2.ensures.0 in
      omega (arith, ap (λ n. occurrences n passed) d.from-mode.ensures)

  up : d.odd_in-2.result ≡ d.args.odd → (before ≡ 0) × (after ≡ 1)
  up e =
      goes_up d.args.odd d.args.term.now d.args.at d.requires.at_in_bounds.0 number _ d.from-mode.ensures partners d.requires.at_in_bounds.1 agree
      (omega (arith, own_is))

  down : (d.odd_in-2.result ≡ d.args.odd → ⊥) → (before ≡ 1) × (after ≡ 0)
  down apart =
      goes_down d.args.odd d.args.term.now d.args.at d.requires.at_in_bounds.0 number _ d.from-mode.ensures partners d.requires.at_in_bounds.1 agree
      (omega (arith, own_is, d.requires.at_in_bounds.1))

  put : (value : ℕ) → number / 2 < length d.args.table.now → value + before ≡ get_or d.args.table.now (number / 2) 0 + after
      → PairTurned d.args.odd d.args.term.now d.args.at d.args.table.now (set d.args.table.now (number / 2) value)
  put = pair_here d.args.odd d.args.term.now d.args.at d.requires.at_in_bounds.0 d.args.table.now number _ d.from-mode.ensures partners

pub returns-then-table-mode : goal.returns-then-table-mode
returns-then-table-mode c =
    let args = c.args in
    let h = c.requires.at_in_bounds.0 in
    elim c.then-table-mode.branch [
      | then-table-mode-via-then-table-mode w ↦ pair_beyond args.odd args.term.now args.at h args.table.now (omega (arith, c.from-mode.ensures))
      | then-table-mode-via-else-table-mode+then-odd_in-odd w ↦ pair_idle args.odd args.term.now args.at h args.table.now _ w.partner.result refl w.partner.ensures (omega arith)
    ]

pub overflow_add-table : goal.overflow_add-table
overflow_add-table c =
    let d = (goal.at.overflow_add-table c).After-odd_in-2 in
    let told = up d c.if-odd_in-odd-2.true in
    omega (arith, c.requires.by_index (number d / 2) (omega arith))

pub returns-then-odd_in-odd-2 : goal.returns-then-odd_in-odd-2
returns-then-odd_in-odd-2 c =
    let d = (goal.at.returns-then-odd_in-odd-2 c).After-odd_in-2 in
    let told = up d c.if-odd_in-odd-2.true in
    put d _ (omega arith) (omega arith)

pub overflow_sub-table : goal.overflow_sub-table
overflow_sub-table c =
    let d = (goal.at.overflow_sub-table c).After-odd_in-2 in
    let told = down d c.if-odd_in-odd-2.false in
    omega (arith, c.requires.by_index (number d / 2) (omega arith))

pub returns-else-odd_in-odd-2 : goal.returns-else-odd_in-odd-2
returns-else-odd_in-odd-2 c =
    let d = (goal.at.returns-else-odd_in-odd-2 c).After-odd_in-2 in
    let told = down d c.if-odd_in-odd-2.false in
    let entry = c.requires.by_index (number d / 2) (omega arith) in
    put d _ (omega arith) (omega arith)
