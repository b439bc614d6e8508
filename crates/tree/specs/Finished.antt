-- What a finished tree guarantees: "what may be relied on without running the check".
use Rattle.std.specs.Prelude.{◌≡◌, List, ℕ, Ok}
use Rattle.entities.specs.Codes.{absent}
use Rattle.tree.specs.OneTree.{root_of}
use Rattle.tree.specs.Pairs.{chain_end}
use Rattle.tree.specs.Check.{tree_checked}
use Rattle.tree.specs.Accepted.{IsTree}

-- A tree with this root "that the check accepts …: each node and leaf once, each pair 2k and 2k+1 ending z-chains from one node's X and Y
-- children, the absent child ending the root's"; `most` is the most modes that the check takes.
pub record FinishedTree (most modes root : ℕ) (table : List ℕ) : Type 0 where
  pub accepted : tree_checked most modes table ≡ Ok tt
  pub is_tree : IsTree modes table root
  pub absent_ends : chain_end modes table modes root ≡ absent

-- Acceptance is all of that: every accepted table is such a tree.
abbrev pub AcceptedFinished : Type 0
AcceptedFinished =
    (most modes : ℕ) (table : List ℕ) → tree_checked most modes table ≡ Ok tt → FinishedTree most modes (root_of modes table) table
