-- The nodes of a round are below the number of modes.
use mathlib.Core.Path.{◌≡◌}
use mathlib.Core.Bool.{Bool, true, false, cond}
use mathlib.Core.List.{List, []}
use Prim.Native.Nat.{ℕ, ◌-◌}
use native.Mathlib.Omega.{arith}
use borrow.Author.Tests.{lt-ltb}
use lib.Dec.{ltb, eqb}
use lib.ListN.{length, take, drop}
use Rattle.lists.specs.Members.{every, firsts}
use Rattle.lists.specs.Ranges.{listed}
use Rattle.lists.proofs.Every.{every_kept, every_first, every_taken, every_dropped}
use Rattle.lists.proofs.Ranges.{every_from}
use Rattle.tree.specs.Table.{nodes}
use Rattle.slots.specs.Nodes.{remaining, farthest, narrowed, active}

abbrev pub Below : ℕ → List ℕ → Type 0
Below modes l = every (λ v. ltb v modes) l ≡ true

pub listed_below : (modes : ℕ) → Below modes (listed (λ v. v) 0 modes)
listed_below modes = every_from (λ v. ltb v modes) 0 modes (λ v low high. lt-ltb v modes (omega arith))

pub remaining_below : (modes : ℕ) (table assigned : List ℕ) → Below modes (remaining modes table assigned)
unfolding remaining nodes
remaining_below modes table assigned = every_kept (λ v. ltb v modes) _ (listed (λ v. v) 0 modes) (listed_below modes)

pub farthest_below : (modes : ℕ) (table left : List ℕ) → Below modes left → Below modes (farthest modes table left)
unfolding farthest
farthest_below modes table left e = every_kept (λ v. ltb v modes) _ left e

narrowed_below : (modes heuristic : ℕ) (like : ℕ → ℕ → Bool) (far : List ℕ) → Below modes far → Below modes (narrowed heuristic like far)
unfolding narrowed firsts
narrowed_below modes heuristic like far e = go (eqb heuristic 0) (eqb heuristic 1)
  where
    go : (a b : Bool) → Below modes (cond a (firsts like far) (cond b (take 1 far) (drop (length far - 1) far)))
    go true b = every_first (λ v. ltb v modes) like [] far e
    go false true = every_taken (λ v. ltb v modes) 1 far e
    go false false = every_dropped (λ v. ltb v modes) (length far - 1) far e

pub active_below : (modes : ℕ) (table : List ℕ) (heuristic : ℕ) (assigned : List ℕ)
    → Below modes (active modes table heuristic assigned)
unfolding active
active_below modes table heuristic assigned =
    narrowed_below modes heuristic _ (farthest modes table (remaining modes table assigned))
    (farthest_below modes table (remaining modes table assigned) (remaining_below modes table assigned))
