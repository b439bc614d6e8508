-- A child read, the nodes as a range, and a step up from a node and along a z-chain.
use mathlib.Core.Path.{◌≡◌, refl}
use mathlib.Core.Bool.{true, ◌||◌}
use mathlib.Core.List.{List}
use Prim.Native.Nat.{ℕ, zero, suc, ◌+◌, ◌-◌, ◌*◌, ◌<◌, ◌≤◌}
use native.Mathlib.Omega.{arith}
use borrow.Author.Tests.{lt-ltb, le-ltb}
use lib.Dec.{eqb, ltb}
use lib.ListN.{length, get_or}
use Rattle.lists.specs.Ranges.{listed}
use Rattle.lists.proofs.Ranges.{listed_start}
use Rattle.lists.proofs.Parts.{read_within}
use Rattle.lists.proofs.Leading.{leads}
use Rattle.entities.specs.Codes.{absent}
use Rattle.tree.specs.Table.{nodes, child, parent_of, climb}
use Rattle.tree.specs.Pairs.{chain_end}
use Rattle.tree.specs.Check.{codes_good}

pub child_read : (table : List ℕ) (node edge : ℕ) → 3 * node + edge < length table → get_or table (3 * node + edge) 0 ≡ child table node edge
unfolding child
child_read table node edge h = read_within table (3 * node + edge) 0 absent h

-- Where all lead, each code is below 3n or absent.
pub code_good : (modes : ℕ) (table : List ℕ) → length table ≤ codes_good modes table → (i : ℕ) → i < length table
    → (ltb (get_or table i absent) (3 * modes) || eqb (get_or table i absent) absent) ≡ true
unfolding codes_good
code_good modes table good i h = leads (λ code. ltb code (3 * modes) || eqb code absent) table i absent (omega arith)

-- The nodes as a range that a loop counts through.
pub nodes_start : (modes : ℕ) → nodes modes ≡ listed (λ node. node) 0 (modes - 0)
unfolding nodes
nodes_start modes = listed_start (λ node. node) modes

-- A node that is its own parent stays where it is.
pub climb_rests : (table : List ℕ) (steps node : ℕ) → parent_of table node ≡ node → climb table steps node ≡ node
unfolding climb
climb_rests table zero node e = refl
climb_rests table (suc steps) node e = rw e (climb_rests table steps node e)

-- A z-chain goes on from a node, and ends at any other code.
module _ (modes : ℕ) (table : List ℕ) where
  pub chain_goes : (steps code : ℕ) → code < modes → chain_end modes table (suc steps) code ≡ chain_end modes table steps (child table code 2)
  unfolding chain_end
  chain_goes steps code h = rw (lt-ltb code modes h)

  pub chain_rests : (steps code : ℕ) → modes ≤ code → chain_end modes table steps code ≡ code
  unfolding chain_end
  chain_rests zero code h = refl
  chain_rests (suc steps) code h = rw (le-ltb code modes h) (chain_rests steps code h)
