-- Each code passed has its place.
use Rattle.std.proofs.Common.{◌≡◌, ℕ, ◌<◌, get_or}
use Rattle.tree.specs.Table.{place_of_code}
use Rattle.tree_weight.proofs.climbing.fill_places.Given as goal

abbrev pub invariant-loop-code : goal.invariant-loop-code
invariant-loop-code l = (k : ℕ) → k < l.code → get_or l.places k 0 ≡ place_of_code l.tree k
