-- The codes met going down from a code, and how often one is met: as often as its own parent is, one step less.
use mathlib.Core.Path.{◌≡◌, refl}
use mathlib.Core.Bool.{Bool, true, false}
use mathlib.Core.List.{List, ◌++◌}
use Prim.Native.Nat.{ℕ, zero, suc, ◌+◌, ◌*◌, ◌/◌, ◌<◌, ◌≤◌}
use native.Mathlib.Omega.{arith}
use borrow.Author.Tests.{lt-ltb, le-ltb, ltb-true, ltb-false}
use lib.Dec.{ltb}
use lib.ListN.{length}
use Rattle.lists.specs.Counting.{same, occurrences}
use Rattle.lists.proofs.Sums.{same_none, occurrences_append}
use Rattle.tree.specs.Table.{child, place_of_code}
use Rattle.tree.specs.Accepted.{under}
use Rattle.tree.proofs.Standing.{held_once, held_never, above_below}

-- The node under which a code stands that stands in the table.
abbrev pub above : List ℕ → ℕ → ℕ
above table code = place_of_code table code / 3

-- How often a code is met under another.
unfoldable pub met : ℕ → List ℕ → ℕ → ℕ → ℕ → ℕ
met modes table nodes code sought = occurrences sought (under modes table nodes code)

module _ (modes : ℕ) (table : List ℕ) where
  pub met_leaf : (nodes code sought : ℕ) → modes ≤ code → met modes table nodes code sought ≡ same code sought
  unfolding met under occurrences
  met_leaf zero code sought h = rw (le-ltb code modes h) (omega arith)
  met_leaf (suc nodes) code sought h = rw (le-ltb code modes h) (omega arith)

  pub met_none : (code sought : ℕ) → code < modes → met modes table 0 code sought ≡ 0
  unfolding met under occurrences
  met_none code sought h = rw (lt-ltb code modes h)

  pub met_node : (nodes code sought : ℕ) → code < modes
      → met modes table (suc nodes) code sought
      ≡ same code sought
      + (met modes table nodes (child table code 0) sought + (met modes table nodes (child table code 1) sought + met modes table nodes (child table code 2) sought))
  unfolding met under occurrences
  met_node nodes code sought h =
      let x = under modes table nodes (child table code 0) in
      let y = under modes table nodes (child table code 1) in
      let z = under modes table nodes (child table code 2) in
      rw (lt-ltb code modes h, occurrences_append sought x (y ++ z), occurrences_append sought y z)

  -- Through no node, no node is met.
  pub no_node : (code sought : ℕ) → sought < modes → met modes table 0 code sought ≡ 0
  no_node code sought h = go (ltb code modes) refl
    where
      go : (b : Bool) → ltb code modes ≡ b → met modes table 0 code sought ≡ 0
      go true q = met_none code sought (ltb-true code modes q)
      go false q =
          let high = ltb-false code modes q in
          omega (arith, met_leaf 0 code sought high, same_none code sought (λ e. absurd (omega arith)))

  module _ (whole : length table ≡ 3 * modes) (sought : ℕ) where
    -- A code that stands nowhere is met only where the way down begins.
    met_never_more : occurrences sought table ≡ 0 → (nodes code : ℕ) → met modes table nodes code sought ≤ same code sought
    met_never_more never zero code = go (ltb code modes) refl
      where
        go : (b : Bool) → ltb code modes ≡ b → met modes table 0 code sought ≤ same code sought
        go true q = omega (arith, met_none code sought (ltb-true code modes q))
        go false q = omega (arith, met_leaf 0 code sought (ltb-false code modes q))
    met_never_more never (suc nodes) code =
        go (ltb code modes) refl (met_never_more never nodes (child table code 0)) (met_never_more never nodes (child table code 1))
        (met_never_more never nodes (child table code 2))
      where
        go : (b : Bool) → ltb code modes ≡ b → met modes table nodes (child table code 0) sought ≤ same (child table code 0) sought
            → met modes table nodes (child table code 1) sought ≤ same (child table code 1) sought
            → met modes table nodes (child table code 2) sought ≤ same (child table code 2) sought
            → met modes table (suc nodes) code sought ≤ same code sought
        go true q x y z =
            let h = ltb-true code modes q in
            omega (
              arith,
              met_node nodes code sought h,
              held_never modes table whole sought code h never 0 (omega arith),
              held_never modes table whole sought code h never 1 (omega arith),
              held_never modes table whole sought code h never 2 (omega arith),
            )
        go false q x y z = omega (arith, met_leaf (suc nodes) code sought (ltb-false code modes q))

    pub met_top : occurrences sought table ≡ 0 → (nodes code : ℕ) → met modes table (suc nodes) code sought ≡ same code sought
    met_top never nodes code = go (ltb code modes) refl (met_never_more never (suc nodes) code)
      where
        go : (b : Bool) → ltb code modes ≡ b → met modes table (suc nodes) code sought ≤ same code sought
            → met modes table (suc nodes) code sought ≡ same code sought
        go true q most = omega (arith, met_node nodes code sought (ltb-true code modes q))
        go false q most = met_leaf (suc nodes) code sought (ltb-false code modes q)

    module _ (once : occurrences sought table ≡ 1) where
      above_node : (above table sought) < modes
      above_node = above_below modes table sought whole (omega arith)

      above_apart : (code : ℕ) → modes ≤ code → same code (above table sought) ≡ 0
      above_apart code h = same_none code (above table sought) (λ e. absurd (omega (arith, above_node)))

      -- A leaf, or the absent child, is met as often as its parent, or where the way down begins.
      pub met_other : modes ≤ sought → (nodes code : ℕ) → met modes table nodes code sought ≡ same code sought + met modes table nodes code (above table sought)
      met_other high zero code = go (ltb code modes) refl
        where
          go : (b : Bool) → ltb code modes ≡ b → met modes table 0 code sought ≡ same code sought + met modes table 0 code (above table sought)
          go true q =
              let h = ltb-true code modes q in
              omega (arith, met_none code sought h, met_none code (above table sought) h, same_none code sought (λ e. absurd (omega arith)))
          go false q =
              let h = ltb-false code modes q in
              omega (arith, met_leaf 0 code sought h, met_leaf 0 code (above table sought) h, above_apart code h)
      met_other high (suc nodes) code =
          go (ltb code modes) refl (met_other high nodes (child table code 0)) (met_other high nodes (child table code 1))
          (met_other high nodes (child table code 2))
        where
          go : (b : Bool) → ltb code modes ≡ b
              → met modes table nodes (child table code 0) sought ≡ same (child table code 0) sought + met modes table nodes (child table code 0) (above table sought)
              → met modes table nodes (child table code 1) sought ≡ same (child table code 1) sought + met modes table nodes (child table code 1) (above table sought)
              → met modes table nodes (child table code 2) sought ≡ same (child table code 2) sought + met modes table nodes (child table code 2) (above table sought)
              → met modes table (suc nodes) code sought ≡ same code sought + met modes table (suc nodes) code (above table sought)
          go true q x y z =
              let h = ltb-true code modes q in
              omega (arith, met_node nodes code sought h, met_node nodes code (above table sought) h, held_once modes table whole sought code h once)
          go false q x y z =
              let h = ltb-false code modes q in
              omega (arith, met_leaf (suc nodes) code sought h, met_leaf (suc nodes) code (above table sought) h, above_apart code h)

      -- A node is met as often as its parent through one node less, or where the way down begins.
      pub met_below : sought < modes → (nodes code : ℕ) → met modes table (suc nodes) code sought ≡ same code sought + met modes table nodes code (above table sought)
      met_below low zero code = go (ltb code modes) refl
        where
          go : (b : Bool) → ltb code modes ≡ b → met modes table 1 code sought ≡ same code sought + met modes table 0 code (above table sought)
          go true q =
              omega (
                arith,
                met_node 0 code sought (ltb-true code modes q),
                no_node (child table code 0) sought low,
                no_node (child table code 1) sought low,
                no_node (child table code 2) sought low,
                no_node code (above table sought) above_node,
              )
          go false q = omega (arith, met_leaf 1 code sought (ltb-false code modes q), no_node code (above table sought) above_node)
      met_below low (suc nodes) code =
          go (ltb code modes) refl (met_below low nodes (child table code 0)) (met_below low nodes (child table code 1))
          (met_below low nodes (child table code 2))
        where
          go : (b : Bool) → ltb code modes ≡ b
              → met modes table (suc nodes) (child table code 0) sought ≡ same (child table code 0) sought + met modes table nodes (child table code 0) (above table sought)
              → met modes table (suc nodes) (child table code 1) sought ≡ same (child table code 1) sought + met modes table nodes (child table code 1) (above table sought)
              → met modes table (suc nodes) (child table code 2) sought ≡ same (child table code 2) sought + met modes table nodes (child table code 2) (above table sought)
              → met modes table (suc (suc nodes)) code sought ≡ same code sought + met modes table (suc nodes) code (above table sought)
          go true q x y z =
              let h = ltb-true code modes q in
              omega (arith, met_node (suc nodes) code sought h, met_node nodes code (above table sought) h, held_once modes table whole sought code h once)
          go false q x y z =
              let h = ltb-false code modes q in
              omega (arith, met_leaf (suc (suc nodes)) code sought h, met_leaf (suc nodes) code (above table sought) h, above_apart code h)
