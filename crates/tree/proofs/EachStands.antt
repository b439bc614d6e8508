-- A table of 3n codes under whose root each of 3n + 1 codes is met stands full: each of them but the root fills one place, and no place is left.
use mathlib.Core.Path.{◌≡◌, refl, ap, ◌∙◌, sym}
use mathlib.Core.Bool.{Bool, true, false, ◌||◌}
use mathlib.Core.List.{List}
use Prim.Native.Nat.{ℕ, zero, suc, ◌+◌, ◌*◌, ◌<◌, ◌≤◌}
use native.Mathlib.Omega.{arith}
use borrow.Author.Tests.{eqb-true, eqb-false, ltb-true, ltb-false}
use lib.Dec.{eqb, ltb}
use lib.ListN.{length, get_or}
use Rattle.lists.specs.Counting.{same, occurrences}
use Rattle.lists.proofs.Tests.{neither}
use Rattle.lists.proofs.Leading.{leads_not}
use Rattle.lists.proofs.Occurring.{occurs_at}
use Rattle.lists.proofs.Sums.{same_one, same_none}
use Rattle.lists.proofs.Pigeonholes.{total_at_most, values_same, total_same_below, counted_with, counted_with_two}
use Rattle.lists.proofs.Totals.{total, total_add, total_ones}
use Rattle.entities.specs.Codes.{absent}
use Rattle.tree.specs.Table.{parent_of, climb}
use Rattle.tree.specs.Check.{codes_good}
use Rattle.tree.proofs.TableSteps.{climb_rests}
use Rattle.tree.proofs.Standing.{own_parent, parent_is, above_below}
use Rattle.tree.proofs.OneTreeSays.{OneTreeSays}
use Rattle.tree.proofs.Under.{above, met, met_top, met_below, no_node}

module _ (modes : ℕ) (table : List ℕ) (whole : length table ≡ 3 * modes) (fits : 3 * modes ≤ absent) (root : ℕ) (inside : root < modes)
    (each_met : (code : ℕ) → code < 3 * modes → met modes table (suc modes) root code ≡ 1) (absent_met : met modes table (suc modes) root absent ≡ 1) where
  -- A code that is met and isn't the root stands in the table.
  stands : (code : ℕ) → (root ≡ code → ⊥) → met modes table (suc modes) root code ≡ 1 → 1 ≤ occurrences code table
  stands code other once = go (ltb 0 (occurrences code table)) refl
    where
      go : (b : Bool) → ltb 0 (occurrences code table) ≡ b → 1 ≤ occurrences code table
      go true q = ltb-true 0 (occurrences code table) q
      go false q =
          let never = ltb-false 0 (occurrences code table) q in
          absurd (omega (arith, met_top modes table whole code (omega arith) modes root, same_none root code other))

  absent_stands : 1 ≤ occurrences absent table
  absent_stands = stands absent (λ e. absurd (omega arith)) absent_met

  -- The occurrences of a code, and 1 more for the root: at least 1 for each, and no more than 3n in all.
  times : ℕ → ℕ
  times code = occurrences code table + same root code

  some_times : (code : ℕ) → code < 3 * modes → 1 ≤ times code
  unfolding times
  some_times code h = go (eqb root code) refl
    where
      go : (b : Bool) → eqb root code ≡ b → 1 ≤ occurrences code table + same root code
      go true q = omega (arith, same_one root code (eqb-true root code q))
      go false q = omega (arith, stands code (eqb-false root code q) (each_met code h))

  all_times : total times (3 * modes) ≡ total (λ code. occurrences code table) (3 * modes) + 1
  unfolding times
  all_times =
      total_add (λ code. occurrences code table) (λ code. same root code) (3 * modes)
      ∙ ap (λ n. total (λ code. occurrences code table) (3 * modes) + n) (total_same_below root (3 * modes) (omega arith))

  one_time : (code : ℕ) → code < 3 * modes → times code ≡ 1
  one_time =
      values_same times (λ code. 1) (3 * modes) some_times
      (omega (arith, all_times, total_ones (3 * modes), counted_with (3 * modes) absent table fits, absent_stands))

  pub root_nowhere : occurrences root table ≡ 0
  unfolding times
  root_nowhere = omega (arith, one_time root (omega arith), same_one root root refl)

  pub code_once : (code : ℕ) → code < 3 * modes → (code ≡ root → ⊥) → occurrences code table ≡ 1
  unfolding times
  code_once code h other = omega (arith, one_time code h, same_none root code (λ e. other (sym e)))

  -- As many of the table's codes are below 3n as there are such codes but the root.
  low_codes : 3 * modes ≤ total (λ code. occurrences code table) (3 * modes) + 1
  low_codes = omega (arith, all_times, total_ones (3 * modes), total_at_most (λ code. 1) times (3 * modes) some_times)

  pub absent_fills : occurrences absent table ≡ 1
  absent_fills = omega (arith, low_codes, counted_with (3 * modes) absent table fits, absent_stands)

  -- No place is left for another code.
  pub all_good : length table ≤ codes_good modes table
  unfolding codes_good
  all_good = go (ltb (codes_good modes table) (length table)) refl
    where
      go : (b : Bool) → ltb (codes_good modes table) (length table) ≡ b → length table ≤ codes_good modes table
      go false q = ltb-false (codes_good modes table) (length table) q
      go true q =
          let h = ltb-true (codes_good modes table) (length table) q in
          let bad = get_or table (codes_good modes table) 0 in
          let both = neither (ltb bad (3 * modes)) (eqb bad absent) (leads_not (λ code. ltb code (3 * modes) || eqb code absent) table 0 h) in
          let high = ltb-false bad (3 * modes) both.0 in
          let there = occurs_at bad table (codes_good modes table) 0 h refl in
          absurd
          (omega (
            arith,
            low_codes,
            absent_fills,
            counted_with_two (3 * modes) absent bad table fits high (λ e. eqb-false bad absent both.1 (sym e)),
          ))

  -- A node that is met climbs to the root.
  climbs : (steps node : ℕ) → node < modes → 1 ≤ met modes table (suc steps) root node → climb table steps node ≡ root
  unfolding climb
  climbs zero node h m = go (eqb node root) refl
    where
      go : (b : Bool) → eqb node root ≡ b → node ≡ root
      go true q = eqb-true node root q
      go false q =
          let other = eqb-false node root q in
          let once = code_once node (omega arith) other in
          let up = above_below modes table node whole (omega arith) in
          absurd
          (omega
          (arith, met_below modes table whole node once h 0 root, same_none root node (λ e. other (sym e)), no_node modes table root (above table node) up))
  climbs (suc steps) node h m = go (eqb node root) refl (climbs steps (above table node))
    where
      go : (b : Bool) → eqb node root ≡ b
          → (above table node < modes → 1 ≤ met modes table (suc steps) root (above table node) → climb table steps (above table node) ≡ root)
          → climb table steps (parent_of table node) ≡ root
      go true q on =
          let e = eqb-true node root q in
          rw (e, own_parent root table root_nowhere) (climb_rests table steps root (own_parent root table root_nowhere))
      go false q on =
          let other = eqb-false node root q in
          let once = code_once node (omega arith) other in
          rw (parent_is node table (omega arith))
          (on (above_below modes table node whole (omega arith))
          (omega (arith, met_below modes table whole node once h (suc steps) root, same_none root node (λ e. other (sym e)))))

  pub full_says : OneTreeSays modes table root
  full_says =
      record {
        inside = inside;
        top = root_nowhere;
        node_once = λ node h other. code_once node (omega arith) other;
        leaf_once = λ code low high. code_once code high (λ e. absurd (omega arith));
        absent_once = absent_fills;
        reached = λ node h. climbs modes node h (omega (arith, each_met node (omega arith)));
      }
