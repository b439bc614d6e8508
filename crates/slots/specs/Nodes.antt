-- "Each round: the remaining nodes farthest from the root; `x_first` keeps the lowest number, `z_first` the highest; `min_weight` keeps all but drops a node whose three slots equal an earlier one's."
use Rattle.std.specs.Prelude.{◌≡◌, Bool, cond, not, ◌&&◌, List, [], ◌∷◌, map, ℕ, zero, suc, ◌-◌, ◌/◌, max, eqb, ltb, length, take, drop, replicate, Ok}
use Rattle.lists.specs.Members.{keep, alike, firsts}
use Rattle.tree.specs.Table.{nodes, place_of_code}
use Rattle.tree.specs.Check.{tree_checked}
use Rattle.slots.specs.Slots.{slot, slots, unfixed, is_fixed}

-- How many steps up from a node lead to the root, which stands nowhere; so many are counted at most.
unfoldable pub distance : List ℕ → ℕ → ℕ → ℕ
distance table zero node = 0
distance table (suc steps) node =
    let above = distance table steps (place_of_code table node / 3) in
    cond (ltb (place_of_code table node) (length table)) (suc above) 0

-- "nodes whose every slot is a fixed leaf, a child or (Z) empty".
unfoldable pub complete : ℕ → List ℕ → List ℕ → ℕ → Bool
complete modes table assigned node =
    is_fixed (slot modes table assigned node 0)
    && (is_fixed (slot modes table assigned node 1) && not (unfixed (slot modes table assigned node 2)))

-- The round list: the complete nodes have left it, and a complete node stays complete. Before the first round none has left; `FirstRound`
-- says that this makes no difference.
unfoldable pub remaining : ℕ → List ℕ → List ℕ → List ℕ
remaining modes table assigned = keep (λ node. not (complete modes table assigned node)) (nodes modes)

-- The largest of a list.
unfoldable pub largest : List ℕ → ℕ
largest [] = 0
largest (v ∷ l) = max v (largest l)

-- "the remaining nodes farthest from the root".
unfoldable pub farthest : ℕ → List ℕ → List ℕ → List ℕ
farthest modes table left =
    keep (λ node. eqb (distance table modes node) (largest (map (distance table modes) left))) left

-- What a heuristic keeps of ascending nodes: 0 is `min_weight`, 1 `x_first`, 2 `z_first`.
unfoldable pub narrowed : ℕ → (ℕ → ℕ → Bool) → List ℕ → List ℕ
narrowed heuristic like far =
    cond (eqb heuristic 0) (firsts like far) (cond (eqb heuristic 1) (take 1 far) (drop (length far - 1) far))

-- The nodes of a round.
unfoldable pub active : ℕ → List ℕ → ℕ → List ℕ → List ℕ
active modes table heuristic assigned =
    narrowed heuristic (λ node other. alike (slots modes table assigned node) (slots modes table assigned other))
    (farthest modes table (remaining modes table assigned))

-- In the first round, in which no pair has a mode, the farthest of all nodes are the farthest of those that aren't complete.
abbrev pub FirstRound : Type 0
FirstRound =
    (most modes : ℕ) (table : List ℕ) → tree_checked most modes table ≡ Ok tt
    → farthest modes table (remaining modes table (replicate modes modes)) ≡ farthest modes table (nodes modes)
