-- The way up from a code of one tree: the edges of the nodes on it. A node on the way is nearer the root than the code, so no way comes back;
-- every code but the root is under the root; and under one edge of a node there is the child that stands there and what is under that child.
use mathlib.Core.Path.{◌≡◌, refl, ap, ◌∙◌, sym}
use mathlib.Core.Bool.{Bool, true, false, cond}
use mathlib.Core.List.{List}
use Prim.Native.Nat.{ℕ, zero, suc, ◌*◌, ◌%◌, ◌<◌, ◌≤◌}
use native.Mathlib.Omega.{arith}
use borrow.Author.Tests.{eq-eqb, ne_eqb, eqb-true, eqb-false, ltb-true, ltb-false}
use lib.Dec.{eqb, ltb}
use lib.ListN.{length, get_or}
use Rattle.lists.specs.Counting.{same, occurrences}
use Rattle.lists.proofs.Sums.{same_one, same_none}
use Rattle.terms.specs.Letters.{not_none}
use Rattle.terms.specs.declared.letters.Letter.TheVariants.{Nothing}
use Rattle.tree.specs.Table.{place_of_code, parent_of, climb}
use Rattle.tree.proofs.OneTreeSays.{OneTreeSays}
use Rattle.tree.proofs.Standing.{place_within, stands_there, place_nowhere, own_parent, parent_is, above_below}
use Rattle.tree.proofs.Under.{above}
use Rattle.tree_weight.specs.Weight.{edge_under}
use Rattle.tree_weight.proofs.TreeWeighing.{edge_none, edge_here, edge_above}
use Rattle.strings.specs.Strings.{edge_letter}

-- An edge has a letter, and there is none where there is no edge.
pub edge_lettered : (edge : ℕ) → edge < 3 → not_none (edge_letter edge) ≡ 1
unfolding edge_letter
edge_lettered zero h = refl
edge_lettered (suc zero) h = refl
edge_lettered (suc (suc zero)) h = refl
edge_lettered (suc (suc (suc edge))) h = absurd (omega arith)

pub no_edge_lettered : (edge : ℕ) → 3 ≤ edge → edge_letter edge ≡ Nothing
unfolding edge_letter
no_edge_lettered zero h = absurd (omega arith)
no_edge_lettered (suc zero) h = absurd (omega arith)
no_edge_lettered (suc (suc zero)) h = absurd (omega arith)
no_edge_lettered (suc (suc (suc edge))) h = refl

-- Only nodes have anything under them.
pub no_node_above : (modes : ℕ) (table : List ℕ) → length table ≡ 3 * modes → (steps node code : ℕ) → modes ≤ node → 3 ≤ edge_under table steps node code
unfolding edge_under
no_node_above modes table whole zero node code h = omega arith
no_node_above modes table whole (suc steps) node code h =
    go (ltb (place_of_code table code) (length table)) refl (eqb (above table code) node) refl (no_node_above modes table whole steps node (above table code) h)
  where
    go : (b : Bool) → ltb (place_of_code table code) (length table) ≡ b → (c : Bool) → eqb (above table code) node ≡ c
        → 3 ≤ edge_under table steps node (above table code)
        → 3 ≤ cond b (cond c (place_of_code table code % 3) (edge_under table steps node (above table code))) 3
    go false q c r on = omega arith
    go true q true r on =
        let low = ltb-true (place_of_code table code) (length table) q in
        let same = eqb-true (above table code) node r in
        absurd (omega arith)
    go true q false r on = on

module _ (modes : ℕ) (table : List ℕ) (whole : length table ≡ 3 * modes) (root : ℕ) (says : OneTreeSays modes table root) where
  -- The edge of a node under which a code stands, with steps enough for any.
  abbrev pub edge_of : ℕ → ℕ → ℕ
  edge_of node code = edge_under table (suc modes) node code

  -- Every code but the root stands in the table, under a node.
  stands : (code : ℕ) → code < 3 * modes → (code ≡ root → ⊥) → 1 ≤ occurrences code table
  stands code h other = go (ltb code modes) refl
    where
      go : (b : Bool) → ltb code modes ≡ b → 1 ≤ occurrences code table
      go true q = omega (arith, says.node_once code (ltb-true code modes q) other)
      go false q = omega (arith, says.leaf_once code (ltb-false code modes q) h)

  pub up_node : (code : ℕ) → code < 3 * modes → (code ≡ root → ⊥) → above table code < modes
  up_node code h other = above_below modes table code whole (stands code h other)

  -- Each code climbs to the root in a step more than a node does.
  pub arrives : (code : ℕ) → code < 3 * modes → climb table (suc modes) code ≡ root
  unfolding climb
  arrives code h = go (eqb code root) refl
    where
      go : (b : Bool) → eqb code root ≡ b → climb table modes (parent_of table code) ≡ root
      go true q = rw (eqb-true code root q, own_parent root table says.top) (says.reached root says.inside)
      go false q =
          let other = eqb-false code root q in
          rw (parent_is code table (stands code h other)) (says.reached (above table code) (up_node code h other))

  -- One step less.
  pub arrives_on : (steps code : ℕ) → code < 3 * modes → (code ≡ root → ⊥) → climb table (suc steps) code ≡ root → climb table steps (above table code) ≡ root
  unfolding climb
  arrives_on steps code h other e = rw (parent_is code table (stands code h other)) at e

  -- Above the root there is nothing, in however many steps.
  pub root_none : (steps node : ℕ) → edge_under table (suc steps) node root ≡ 3
  root_none steps node = edge_none table steps node root (omega (arith, place_nowhere root table says.top))

  -- A step more changes nothing where the steps suffice.
  enough : (steps node code : ℕ) → code < 3 * modes → climb table steps code ≡ root → edge_under table steps node code ≡ edge_under table (suc steps) node code
  unfolding climb edge_under
  enough zero node code h e = rw e (sym (root_none 0 node))
  enough (suc steps) node code h e = go (eqb code root) refl (eqb (above table code) node) refl (enough steps node (above table code))
    where
      go : (b : Bool) → eqb code root ≡ b → (c : Bool) → eqb (above table code) node ≡ c
          → (above table code < 3 * modes → climb table steps (above table code) ≡ root
          → edge_under table steps node (above table code) ≡ edge_under table (suc steps) node (above table code))
          → edge_under table (suc steps) node code ≡ edge_under table (suc (suc steps)) node code
      go true q c r on = rw (eqb-true code root q) (root_none steps node ∙ sym (root_none (suc steps) node))
      go false q true r on =
          let within = place_within code table (stands code h (eqb-false code root q)) in
          let here = eqb-true (above table code) node r in
          edge_here table steps node code within here ∙ sym (edge_here table (suc steps) node code within here)
      go false q false r on =
          let other = eqb-false code root q in
          let within = place_within code table (stands code h other) in
          let apart = eqb-false (above table code) node r in
          edge_above table steps node code within apart
          ∙ on (omega (arith, up_node code h other)) (arrives_on steps code h other e)
          ∙ sym (edge_above table (suc steps) node code within apart)

  -- One step up.
  module _ (code : ℕ) (h : code < 3 * modes) (other : code ≡ root → ⊥) where
    pub under_here : edge_of (above table code) code ≡ place_of_code table code % 3
    under_here = edge_here table modes (above table code) code (place_within code table (stands code h other)) refl

    pub under_above : (node : ℕ) → (above table code ≡ node → ⊥) → edge_of node code ≡ edge_of node (above table code)
    under_above node apart =
        let up = up_node code h other in
        edge_above table modes node code (place_within code table (stands code h other)) apart
        ∙ enough modes node (above table code) (omega arith) (says.reached (above table code) up)

  -- How many steps the way up has, of at most so many.
  unfoldable height : ℕ → ℕ → ℕ
  height zero code = 0
  height (suc steps) code = cond (eqb code root) 0 (suc (height steps (above table code)))

  height_enough : (steps code : ℕ) → code < 3 * modes → climb table steps code ≡ root → height steps code ≡ height (suc steps) code
  unfolding climb height
  height_enough zero code h e = rw (eq-eqb code root e)
  height_enough (suc steps) code h e = go (eqb code root) refl (height_enough steps (above table code))
    where
      go : (b : Bool) → eqb code root ≡ b
          → (above table code < 3 * modes → climb table steps (above table code) ≡ root
          → height steps (above table code) ≡ height (suc steps) (above table code))
          → cond b 0 (suc (height steps (above table code))) ≡ cond b 0 (suc (height (suc steps) (above table code)))
      go true q on = refl
      go false q on =
          let other = eqb-false code root q in
          ap suc (on (omega (arith, up_node code h other)) (arrives_on steps code h other e))

  abbrev rank : ℕ → ℕ
  rank code = height (suc modes) code

  rank_up : (code : ℕ) → code < 3 * modes → (code ≡ root → ⊥) → rank code ≡ suc (rank (above table code))
  unfolding height
  rank_up code h other =
      let up = up_node code h other in
      rw (ne_eqb code root other) (ap suc (height_enough modes (above table code) (omega arith) (says.reached (above table code) up)))

  -- A node over a code is nearer the root.
  nearer : (steps node code : ℕ) → code < 3 * modes → edge_under table steps node code < 3 → rank node < rank code
  unfolding edge_under
  nearer zero node code h e = absurd (omega arith)
  nearer (suc steps) node code h e = go (eqb code root) refl (eqb (above table code) node) refl (nearer steps node (above table code))
    where
      go : (b : Bool) → eqb code root ≡ b → (c : Bool) → eqb (above table code) node ≡ c
          → (above table code < 3 * modes → edge_under table steps node (above table code) < 3 → rank node < rank (above table code))
          → rank node < rank code
      go true q c r on = absurd (omega (arith, e, ap (edge_under table (suc steps) node) (eqb-true code root q), root_none steps node))
      go false q true r on =
          omega (arith, rank_up code h (eqb-false code root q), ap rank (eqb-true (above table code) node r))
      go false q false r on =
          let other = eqb-false code root q in
          let up = edge_above table steps node code (place_within code table (stands code h other)) (eqb-false (above table code) node r) in
          omega (arith, rank_up code h other, on (omega (arith, up_node code h other)) (omega (arith, e, up)))

  -- So no code is under itself, nor its own parent.
  pub never_back : (code : ℕ) → code < 3 * modes → 3 ≤ edge_of code code
  never_back code h = go (ltb (edge_of code code) 3) refl
    where
      go : (b : Bool) → ltb (edge_of code code) 3 ≡ b → 3 ≤ edge_of code code
      go true q = absurd (omega (arith, nearer (suc modes) code code h (ltb-true (edge_of code code) 3 q)))
      go false q = ltb-false (edge_of code code) 3 q

  pub up_apart : (code : ℕ) → code < 3 * modes → (code ≡ root → ⊥) → above table code ≡ code → ⊥
  up_apart code h other e = omega (arith, rank_up code h other, ap rank e)

  -- Every other code is under the root.
  pub under_root : (steps code : ℕ) → code < 3 * modes → (code ≡ root → ⊥) → climb table steps code ≡ root → edge_of root code < 3
  unfolding climb
  under_root zero code h other e = absurd (other e)
  under_root (suc steps) code h other e = go (eqb (above table code) root) refl (under_root steps (above table code))
    where
      go : (b : Bool) → eqb (above table code) root ≡ b
          → (above table code < 3 * modes → (above table code ≡ root → ⊥) → climb table steps (above table code) ≡ root → edge_of root (above table code) < 3)
          → edge_of root code < 3
      go true q on =
          let here : edge_of root code ≡ place_of_code table code % 3 = rw (eqb-true (above table code) root q) at (under_here code h other) in
          omega (arith, here)
      go false q on =
          let apart = eqb-false (above table code) root q in
          omega (arith, under_above code h other root apart, on (omega (arith, up_node code h other)) apart (arrives_on steps code h other e))

  -- A child, and the edge at which it stands.
  module _ (top : ℕ) (low : top < 3 * modes) (apart : top ≡ root → ⊥) where
    abbrev edge : ℕ
    edge = place_of_code table top % 3

    -- A code whose way up the child isn't on: it isn't under the child's edge either.
    beside : (code : ℕ) → 3 ≤ edge_of top code → (edge_of (above table top) code ≡ edge → ⊥)
        → not_none (edge_letter (edge_of top code)) ≡ same (edge_of (above table top) code) edge
    beside code none differs =
        ap not_none (no_edge_lettered (edge_of top code) none) ∙ sym (same_none (edge_of (above table top) code) edge differs)

    at_root : not_none (edge_letter (edge_of top root)) ≡ same (edge_of (above table top) root) edge
    at_root = beside root (omega (arith, root_none modes top)) (λ e. omega (arith, root_none modes (above table top)))

    -- Two codes of one place are one code.
    one_place : (code : ℕ) → code < 3 * modes → (code ≡ root → ⊥) → above table code ≡ above table top → place_of_code table code % 3 ≡ edge → code ≡ top
    one_place code h other e f =
        let place : place_of_code table code ≡ place_of_code table top = omega arith in
        sym (stands_there code 0 table (stands code h other)) ∙ ap (λ i. get_or table i 0) place ∙ stands_there top 0 table (stands top low apart)

    -- A code other than the child is under the child exactly where it is under the child's edge.
    pub under_child : (steps code : ℕ) → code < 3 * modes → climb table steps code ≡ root → (code ≡ top → ⊥)
        → not_none (edge_letter (edge_of top code)) ≡ same (edge_of (above table top) code) edge
    unfolding climb
    under_child zero code h e other = rw e at_root
    under_child (suc steps) code h e other =
        go (eqb code root) refl (eqb (above table code) (above table top)) refl (eqb (above table code) top) refl (under_child steps (above table code))
      where
        go : (r : Bool) → eqb code root ≡ r → (b : Bool) → eqb (above table code) (above table top) ≡ b → (c : Bool) → eqb (above table code) top ≡ c
            → (above table code < 3 * modes → climb table steps (above table code) ≡ root → (above table code ≡ top → ⊥)
            → not_none (edge_letter (edge_of top (above table code))) ≡ same (edge_of (above table top) (above table code)) edge)
            → not_none (edge_letter (edge_of top code)) ≡ same (edge_of (above table top) code) edge
        go true er b eb c ec on = rw (eqb-true code root er) at_root
        go false er true eb c ec on =
            let out = eqb-false code root er in
            let both = eqb-true (above table code) (above table top) eb in
            let away = up_apart top low apart in
            let here : edge_of (above table top) code ≡ place_of_code table code % 3 = rw both at (under_here code h out) in
            let up : edge_of top code ≡ edge_of top (above table top) = under_above code h out top (λ e. away (sym both ∙ e)) ∙ ap (edge_of top) both in
            beside code (omega (arith, up, under_above top low apart top away, never_back top low))
            (λ e. other (one_place code h out both (sym here ∙ e)))
        go false er false eb true ec on =
            let out = eqb-false code root er in
            let child = eqb-true (above table code) top ec in
            let here : edge_of top code ≡ place_of_code table code % 3 = rw child at (under_here code h out) in
            let up : edge_of (above table top) code ≡ edge =
            under_above code h out (above table top) (eqb-false (above table code) (above table top) eb) ∙ ap (edge_of (above table top)) child
            ∙ under_here top low apart in
            edge_lettered (edge_of top code) (omega (arith, here)) ∙ sym (same_one (edge_of (above table top) code) edge up)
        go false er false eb false ec on =
            let out = eqb-false code root er in
            let far = eqb-false (above table code) top ec in
            rw (under_above code h out top far, under_above code h out (above table top) (eqb-false (above table code) (above table top) eb))
            (on (omega (arith, up_node code h out)) (arrives_on steps code h out e) far)
