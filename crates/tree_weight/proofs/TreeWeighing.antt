-- The tree weight step by step: up from a code, along a term's indices, the nodes and the rows.
use mathlib.Core.Path.{◌≡◌}
use mathlib.Core.List.{List, map}
use Prim.Native.Nat.{ℕ, suc, ◌+◌, ◌-◌, ◌*◌, ◌/◌, ◌%◌, ◌<◌, ◌≤◌}
use borrow.Author.Tests.{eq-eqb, ne_eqb, lt-ltb, le-ltb}
use lib.ListN.{length, get_or, take, drop, drop_of_length-le}
use Rattle.lists.specs.Counting.{sum, same, occurrences}
use Rattle.lists.specs.Ranges.{listed}
use Rattle.lists.proofs.Steps.{drop_step}
use Rattle.terms.specs.Rows.{term, terms_of}
use Rattle.terms.proofs.RowSteps.{terms_step, terms_end}
use Rattle.terms.proofs.LetterLaws.{not_none_apart}
use Rattle.tree.specs.Table.{place_of_code}
use Rattle.tree.proofs.TableSteps.{nodes_start}
use Rattle.tree_weight.specs.Weight.{edge_under, edges, node_letter, node_weight, row_weight, listed_weight, NoNodeWeightChanges}

-- The edge of a node under which a code stands: none, its place's, or that of the node above it.
module _ (table : List ℕ) (steps node code : ℕ) where
  pub edge_none : length table ≤ place_of_code table code → edge_under table (suc steps) node code ≡ 3
  unfolding edge_under
  edge_none h = rw (le-ltb (place_of_code table code) (length table) h)

  module _ (h : place_of_code table code < length table) where
    pub edge_here : place_of_code table code / 3 ≡ node → edge_under table (suc steps) node code ≡ place_of_code table code % 3
    unfolding edge_under
    edge_here e = rw (lt-ltb (place_of_code table code) (length table) h, eq-eqb (place_of_code table code / 3) node e)

    pub edge_above : (place_of_code table code / 3 ≡ node → ⊥) → edge_under table (suc steps) node code ≡ edge_under table steps node (place_of_code table code / 3)
    unfolding edge_under
    edge_above e = rw (lt-ltb (place_of_code table code) (length table) h, ne_eqb (place_of_code table code / 3) node e)

-- Along a term's indices: the edges counted and those ahead are all.
module _ (modes : ℕ) (table : List ℕ) (node : ℕ) (s : List ℕ) (at edge : ℕ) where
  pub edges_step : at < length s
      → occurrences edge (edges modes table node (drop at s))
      ≡ same (edge_under table (suc modes) node (modes + get_or s at 0)) edge + occurrences edge (edges modes table node (drop (at + 1) s))
  unfolding edges occurrences
  edges_step h = rw (drop_step s at 0 h)

  pub edges_end : length s ≤ at → occurrences edge (edges modes table node (drop at s)) ≡ 0
  unfolding edges occurrences
  edges_end h = rw (drop_of_length-le s h)

-- "1 where the parities … aren't all equal".
pub no_node_weight_changes : NoNodeWeightChanges
unfolding node_weight node_letter
no_node_weight_changes modes table term node =
    let under = edges modes table node term in
    not_none_apart (occurrences 0 under) (occurrences 1 under) (occurrences 2 under)

pub row_start : (modes : ℕ) (table s : List ℕ) → row_weight modes table s ≡ sum (map (node_weight modes table s) (listed (λ node. node) 0 (modes - 0)))
unfolding row_weight
row_start modes table s = rw (nodes_start modes)

-- Along the work rows: the weight of those passed and of those ahead is the weight of all.
module _ (modes : ℕ) (table : List ℕ) (count place : ℕ) (s : List ℕ) where
  pub tree_step : place < count
      → listed_weight modes table (terms_of 9 (count - place) (drop (9 * place) s))
      ≡ row_weight modes table (term (take 9 (drop (9 * place) s))) + listed_weight modes table (terms_of 9 (count - (place + 1)) (drop (9 * (place + 1)) s))
  unfolding listed_weight sum
  tree_step h = rw (terms_step 9 count place s h)

  pub tree_end : count ≤ place → listed_weight modes table (terms_of 9 (count - place) (drop (9 * place) s)) ≡ 0
  unfolding listed_weight sum
  tree_end h = rw (terms_end 9 count place s h)
