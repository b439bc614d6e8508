-- The sequence of a number is lawful, and all merges.
use mathlib.Core.List.{[]}
use Prim.Native.Nat.{ℕ, ◌<◌, ◌≤◌}
use native.Mathlib.Omega.{arith}
use lib.ListN.{length, get_or}
use Rattle.finished.specs.Finished.{AllMerged}
use Rattle.best.specs.Sequences.{sequences}
use Rattle.best.specs.Call.{most_to_try}
use Rattle.best.proofs.EqualParts.{member_at}
use Rattle.best.proofs.SequencesRight.{sequences_right}

pub numbered_merged : (modes k : ℕ) → k < length (sequences modes) → 1 ≤ modes → modes ≤ most_to_try → AllMerged modes (get_or (sequences modes) k [])
numbered_merged modes k h some few =
    let known = (sequences_right modes).no_other (get_or (sequences modes) k []) (member_at (sequences modes) k [] h) in
    record { lawful = known.0; all = known.1; some_modes = some; few_modes = omega (arith, few) }
