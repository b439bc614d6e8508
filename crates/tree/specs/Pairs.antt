-- "for each k, leaves 2k and 2k+1 end the z-chains from one node's X and Y children, 2k under X".
use Rattle.std.specs.Prelude.{Bool, cond, ◌&&◌, List, ℕ, zero, suc, ◌+◌, ◌*◌, eqb, ltb}
use Rattle.lists.specs.Members.{some_of, leading}
use Rattle.tree.specs.Table.{nodes, child}

-- The end of the z-chain from a code: the code itself unless it is a node, whose Z child goes on.
unfoldable pub chain_end : ℕ → List ℕ → ℕ → ℕ → ℕ
chain_end modes table zero code = code
chain_end modes table (suc steps) code = chain_end modes table steps (cond (ltb code modes) (child table code 2) code)

-- Leaves 2k and 2k+1 end the z-chains from this node's X and Y children, 2k under X.
unfoldable pub pair_under : ℕ → List ℕ → ℕ → ℕ → Bool
pair_under modes table k node =
    eqb (chain_end modes table modes (child table node 0)) (modes + 2 * k)
    && eqb (chain_end modes table modes (child table node 1)) (modes + 2 * k + 1)

-- They do so from one node.
unfoldable pub pair_right : ℕ → List ℕ → ℕ → Bool
pair_right modes table k = some_of (pair_under modes table k) (nodes modes)

-- How many pairs are right before the least k whose pair is wrong.
unfoldable pub pairs_right : ℕ → List ℕ → ℕ
pairs_right modes table = leading (pair_right modes table) (nodes modes)
