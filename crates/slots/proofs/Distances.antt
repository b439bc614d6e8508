-- In an accepted tree a node's child that is a node is one step farther from the root; and the z-chain from a node ends under Z of a node
-- that is no nearer.
use Rattle.std.specs.Prelude.{Ok}
use mathlib.Core.Path.{◌≡◌, refl, ap, ◌∙◌, sym}
use mathlib.Core.Bool.{Bool, true, false}
use mathlib.Core.List.{List}
use Prim.Native.Nat.{ℕ, zero, suc, ◌+◌, ◌*◌, ◌/◌, ◌<◌, ◌≤◌}
use native.Mathlib.Omega.{arith}
use borrow.Author.Tests.{ltb-true, ltb-false}
use lib.Dec.{ltb}
use lib.ListN.{length}
use Rattle.tree.specs.Table.{child, place_of_code, parent_of, climb}
use Rattle.tree.specs.OneTree.{root_of}
use Rattle.tree.specs.Pairs.{chain_end}
use Rattle.tree.specs.Check.{tree_checked}
use Rattle.tree.proofs.AcceptedParts.{accepted_parts}
use Rattle.tree.proofs.TableSteps.{chain_goes, chain_rests}
use Rattle.tree.proofs.Standing.{place_nowhere}
use Rattle.tree.proofs.AcceptedTree.{accepted_says}
use Rattle.tree.proofs.EachHosts.{child_stands}
use Rattle.slots.specs.Nodes.{distance}
use Rattle.slots.proofs.DistanceSteps.{distance_none, distance_up}

-- Steps that arrive at the root count all there are.
distance_enough : (table : List ℕ) (root : ℕ) → length table ≤ place_of_code table root → (steps node : ℕ) → climb table steps node ≡ root
    → distance table (suc steps) node ≡ distance table steps node
unfolding climb parent_of
distance_enough table root top zero node e = distance_none table 1 node (rw e top) ∙ sym (distance_none table 0 node (rw e top))
distance_enough table root top (suc steps) node e = go (ltb (place_of_code table node) (length table)) refl (distance_enough table root top steps)
  where
    go : (b : Bool) → ltb (place_of_code table node) (length table) ≡ b
        → ((other : ℕ) → climb table steps other ≡ root → distance table (suc steps) other ≡ distance table steps other)
        → distance table (suc (suc steps)) node ≡ distance table (suc steps) node
    go true q on =
        let h = ltb-true (place_of_code table node) (length table) q in
        distance_up table (suc steps) node h ∙ ap suc (on (place_of_code table node / 3) (rw q at e)) ∙ sym (distance_up table steps node h)
    go false q on =
        let h = ltb-false (place_of_code table node) (length table) q in
        distance_none table (suc (suc steps)) node h ∙ sym (distance_none table (suc steps) node h)

module _ (most modes : ℕ) (table : List ℕ) (accepted : tree_checked most modes table ≡ Ok tt) where
  pub deeper : (node edge : ℕ) → node < modes → edge < 3 → child table node edge < modes
      → distance table modes (child table node edge) ≡ suc (distance table modes node)
  deeper node edge h k low =
      let parts = accepted_parts most modes table accepted in
      let says = accepted_says most modes table accepted in
      let code = child table node edge in
      let place : place_of_code table code ≡ 3 * node + edge = child_stands most modes table accepted node edge h k in
      let above : place_of_code table code / 3 ≡ node = omega arith in
      let top : length table ≤ place_of_code table (root_of modes table) = omega (arith, place_nowhere (root_of modes table) table says.top) in
      sym (distance_enough table (root_of modes table) top modes code (says.reached code low))
      ∙ distance_up table modes code (omega (arith, parts.whole))
      ∙ ap (λ v. suc (distance table modes v)) above

  -- The node under whose Z a z-chain ends.
  pub record ChainHolder (start end : ℕ) : Type 0 where
    pub holder : ℕ
    pub inside : holder < modes
    pub holds : child table holder 2 ≡ end
    pub far : distance table modes start ≤ distance table modes holder

  pub chain_holder : (steps start end : ℕ) → start < modes → chain_end modes table steps start ≡ end → modes ≤ end → ChainHolder start end
  unfolding chain_end
  chain_holder zero start end h e out = absurd (omega arith)
  chain_holder (suc steps) start end h e out =
      go (ltb (child table start 2) modes) refl (chain_holder steps (child table start 2) end) (sym (chain_goes modes table steps start h) ∙ e)
    where
      go : (b : Bool) → ltb (child table start 2) modes ≡ b
          → (child table start 2 < modes → chain_end modes table steps (child table start 2) ≡ end → modes ≤ end → ChainHolder (child table start 2) end)
          → chain_end modes table steps (child table start 2) ≡ end → ChainHolder start end
      go true q on f =
          let low = ltb-true (child table start 2) modes q in
          let r = on low f out in
          record {
            holder = r.holder;
            inside = r.inside;
            holds = r.holds;
            far = omega (arith, r.far, deeper start 2 h (omega arith) low);
          }
      go false q on f =
          let high = ltb-false (child table start 2) modes q in
          record {
            holder = start;
            inside = h;
            holds = sym (chain_rests modes table steps (child table start 2) high) ∙ f;
            far = omega arith;
          }
