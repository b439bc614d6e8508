-- Each place passed has its number's code.
use Rattle.std.proofs.Common.{◌≡◌, ℕ, ◌*◌, ◌<◌, ◌≤◌, get_or}
use Rattle.entities.specs.Codes.{child_code}
use Rattle.best.proofs.search.Operators.put_tree.Given as goal

abbrev pub invariant-loop-number : goal.invariant-loop-number
invariant-loop-number l = record {
  passed : (k : ℕ) → k < l.number-index → get_or l.tree k 0 ≡ child_code l.self.modes (2 * l.self.modes) (get_or l.initial.tree k 0);
  ahead : (k : ℕ) → l.number-index ≤ k → get_or l.tree k 0 ≡ get_or l.initial.tree k 0;
}
