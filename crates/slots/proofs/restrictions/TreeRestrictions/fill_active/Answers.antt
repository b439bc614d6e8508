-- The nodes left, those of them that are far, and what the heuristic keeps.
use Rattle.std.specs.Prelude.{Err, Ok, Result}
use Rattle.std.specs.Result.{result_unwrap_or}
use mathlib.Core.Path.{◌≡◌, ◌∙◌, ap}
use mathlib.Core.Bool.{Bool}
use mathlib.Core.List.{List}
use Prim.Native.Nat.{ℕ}
use native.Mathlib.Omega.{arith}
use borrow.Author.Tests.{ne_eqb}
use lib.ListN.{length-take}
use Rattle.refusal.specs.declared.Refusal.{Refusal}
use Rattle.slots.specs.declared.heuristics.Heuristic.{Heuristic}
use Rattle.slots.specs.declared.heuristics.Heuristic.TheVariants.{ZFirst}
use Rattle.slots.specs.Heuristics.{heuristic_number, HeuristicSaid}
use Rattle.slots.specs.Nodes.{narrowed, active}
use Rattle.slots.specs.code.Restrictions.{alike_in}
use Rattle.slots.proofs.NodeBounds.{remaining_below, farthest_below}
use Rattle.slots.proofs.restrictions.TreeRestrictions.fill_active.Goals as goal

pub fill_far-count-requires-clause-left_value : goal.fill_far-count-requires-clause-left_value
fill_far-count-requires-clause-left_value c =
    let given = c.args.self.now in
    rw c.fill_remaining-remaining.ensures.1 (remaining_below given.modes given.tree.now given.assigned.now)

pub fill_narrowed-requires-clause-far_value : goal.fill_narrowed-requires-clause-far_value
fill_narrowed-requires-clause-far_value c =
    let given = c.args.self.now in
    rw (c.fill_far-count.ensures.1 given.tree.now c.requires.distances)
    (farthest_below given.modes given.tree.now _ (rw c.fill_remaining-remaining.ensures.1 (remaining_below given.modes given.tree.now given.assigned.now)))

-- A number that no heuristic has keeps what the last heuristic keeps.
as_read : (number : ℕ) (found : Result Heuristic Refusal) (like : ℕ → ℕ → Bool) (far : List ℕ) → HeuristicSaid number found
    → narrowed (heuristic_number (result_unwrap_or found ZFirst)) like far ≡ narrowed number like far
unfolding narrowed
as_read number (Ok heuristic) like far said = ap (λ n. narrowed n like far) said
as_read number (Err why) like far said =
    rw (ne_eqb number 0 (λ e. omega (arith, said.0, e)), ne_eqb number 1 (λ e. omega (arith, said.0, e)))

pub returns : goal.returns
unfolding active
returns c =
    let left = c.fill_remaining-remaining in
    let far = c.fill_far-count in
    let kept = c.fill_narrowed in
    let read = as_read c.args.heuristic c.try_from.result (alike_in c.args.self.now) _ c.try_from.ensures in
    (omega (arith, length-take left.result left.new.left, length-take far.result far.new.far, left.ensures.0, far.ensures.0, kept.ensures.0), rw left.ensures.1 at (rw (far.ensures.1 c.args.self.now.tree.now c.requires.distances) at (rw c.unwrap_or-heuristic.ensures at kept.ensures.1 ∙ read)))
