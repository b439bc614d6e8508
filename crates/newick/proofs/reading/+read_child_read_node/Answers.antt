-- Each early return is one law, and each child of a node is read behind the one before it: what is to follow it comes to the whole.
use Rattle.std.specs.Prelude.{Result, Ok}
use mathlib.Core.Path.{◌≡◌, ap, sym, ◌∙◌}
use mathlib.Core.List.{List}
use Prim.Native.Nat.{ℕ, ◌+◌, ◌-◌, ◌*◌, ◌<◌, ◌≤◌}
use native.Mathlib.Omega.{arith}
use lib.ListN.{length, take}
use lib.Seq.{length-take-le}
use Rattle.refusal.proofs.Told.{handed_on}
use Rattle.newick.specs.declared.reading.Child.{Child}
use Rattle.newick.specs.declared.reading.Stop.{Stop}
use Rattle.newick.specs.Reading.{Reading, follows, marked, named}
use Rattle.newick.specs.code.Within.{node_within, child_within}
use Rattle.newick.specs.code.Promises.{meant, stopped, end_of, place_of, closed_of}
use Rattle.newick.proofs.PartsRead.{child_absent, child_leaf, child_node, node_missing, node_crowded, node_opens, after_first, after_second, Onward, onward, part_child, stops_before, stops_there, goes_behind}
use Rattle.newick.proofs.reading.+read_child_read_node.Goals as goal
use Rattle.newick.proofs.reading.+read_child_read_node.Goals.{read_node-After-read_child, read_node-After-marked, read_node-After-marked-2, read_node-After-marked-3}

pub read_child-returns-then-stands : goal.read_child-returns-then-stands
unfolding meant stopped end_of place_of closed_of
read_child-returns-then-stands t c =
    record {
      says =
          sym
          (child_absent c.args.height c.args.text.now (take (4 * c.args.closed) c.args.rows.now) c.args.at
          (sym c.stands.ensures.value ∙ c.if-stands.true));
      within = omega (arith, c.stands.ensures.at_in_bounds c.if-stands.true);
      few = c.requires.closed_le_height.0;
    }

pub read_child-returns-then-stands-2 : goal.read_child-returns-then-stands-2
read_child-returns-then-stands-2 t c =
    let leaf = c.read_leaf.ensures in
    record {
      says =
          leaf.by_index c.args.rows.now
          ∙ sym
          (child_leaf c.args.height c.args.text.now (take (4 * c.args.closed) c.args.rows.now) c.args.at
          (sym c.stands.ensures.value ∙ c.if-stands.false) (sym c.stands-2.ensures.value ∙ c.if-stands-2.true));
      within = leaf.result_in_bounds.0;
      few = omega (arith, leaf.result_in_bounds.1, c.requires.closed_le_height.0);
    }

pub read_child-returns : goal.read_child-returns
read_child-returns t c =
    let node = c.read_node.ensures in
    record {
      says =
          node.says
          ∙ sym
          (child_node c.args.height c.args.text.now (take (4 * c.args.closed) c.args.rows.now) c.args.at
          (sym c.stands.ensures.value ∙ c.if-stands.false) (sym c.stands-2.ensures.value ∙ c.if-stands-2.false));
      within = node.within;
      few = node.few;
    }

pub read_node-returns-then-not-stands : goal.read_node-returns-then-not-stands
unfolding meant stopped end_of place_of closed_of
read_node-returns-then-not-stands t c =
    record {
      says =
          sym
          (node_missing c.args.text.now (take (4 * c.args.closed) c.args.rows.now) c.args.at c.args.height
          (sym c.stands.ensures.value ∙ c.if-not-stands.true));
      within = c.requires.at_in_bounds;
      few = omega arith;
    }

pub read_node-returns-then-closed-height : goal.read_node-returns-then-closed-height
unfolding meant stopped end_of place_of closed_of
read_node-returns-then-closed-height t c =
    let size : length (take (4 * c.args.closed) c.args.rows.now) ≡ 4 * c.args.closed = length-take-le (4 * c.args.closed) c.args.rows.now (omega (arith, c.requires.closed_le_height)) in
    record {
      says =
          sym
          (node_crowded c.args.text.now (take (4 * c.args.closed) c.args.rows.now) c.args.at c.args.height
          (sym c.stands.ensures.value ∙ c.if-not-stands.false) (size ∙ ap (λ n. 4 * n) c.if-closed-height.true));
      within = c.requires.at_in_bounds;
      few = omega arith;
    }

module _ {whole : Reading} {text numbers : List ℕ} {below : ℕ} {r : Result Child Stop} where
  -- Behind the first child the second is to follow, and behind the second the third.
  first_on : Onward whole text numbers below r (after_first below text) → {child : Child} → r ≡ Ok child
      → (whole ≡ follows (marked 44 text (child_within below text (take (4 * child.closed) numbers) child.end)) (after_second below text child.name))
      × ((child.end ≤ length text) × (child.closed ≤ below))
  unfolding after_first
  first_on o e = goes_behind o e

  second_on : (x : ℕ) → Onward whole text numbers below r (after_second below text x) → {child : Child} → r ≡ Ok child
      → (whole ≡ follows (marked 41 text (child_within below text (take (4 * child.closed) numbers) child.end)) (λ z rows at. named text rows at x child.name z))
      × ((child.end ≤ length text) × (child.closed ≤ below))
  unfolding after_second
  second_on x o e = goes_behind o e

-- A node opens, and its first child is to follow.
opened : {t : ℕ} (c : read_node-After-read_child t)
    → node_within c.args.height c.args.text.now (take (4 * c.args.closed) c.args.rows.now) c.args.at
    ≡ follows (marked 44 c.args.text.now (child_within (c.args.height - 1) c.args.text.now (take (4 * c.args.closed) c.args.rows.now) (c.args.at + 1)))
    (after_first (c.args.height - 1) c.args.text.now)
opened c =
    let size : length (take (4 * c.args.closed) c.args.rows.now) ≡ 4 * c.args.closed = length-take-le (4 * c.args.closed) c.args.rows.now (omega (arith, c.requires.closed_le_height)) in
    node_opens c.args.text.now (take (4 * c.args.closed) c.args.rows.now) c.args.at c.args.height (sym c.stands.ensures.value ∙ c.if-not-stands.false)
    (omega (arith, c.requires.closed_le_height))

-- Each child is read behind the one before it.
module _ {t : ℕ} {whole : Reading} where
  first : (c : read_node-After-marked t)
      → whole
      ≡ follows (marked 44 c.args.text.now (child_within (c.args.height - 1) c.args.text.now (take (4 * c.args.closed) c.args.rows.now) (c.args.at + 1)))
      (after_first (c.args.height - 1) c.args.text.now)
      → Onward whole c.args.text.now c.read_child.new.rows (c.args.height - 1) c.marked.result (after_first (c.args.height - 1) c.args.text.now)
  first c e = onward 44 _ e c.read_child.ensures c.in_ok-read_child.was (c.marked.ensures.by_index, c.marked.ensures.result_in_bounds)

  second : (c : read_node-After-marked-2 t)
      → Onward whole c.args.text.now c.read_child.new.rows (c.args.height - 1) c.marked.result (after_first (c.args.height - 1) c.args.text.now)
      → Onward whole c.args.text.now c.read_child-2.new.rows (c.args.height - 1) c.marked-2.result
      (after_second (c.args.height - 1) c.args.text.now c.in_ok-x.x.name)
  second c o =
      onward 44 _ (first_on o c.in_ok-x.was).0 c.read_child-2.ensures c.in_ok-read_child-2.was
      (c.marked-2.ensures.by_index, c.marked-2.ensures.result_in_bounds)

  third : (c : read_node-After-marked-3 t)
      → Onward whole c.args.text.now c.read_child-2.new.rows (c.args.height - 1) c.marked-2.result
      (after_second (c.args.height - 1) c.args.text.now c.in_ok-x.x.name)
      → Onward whole c.args.text.now c.read_child-3.new.rows (c.args.height - 1) c.marked-3.result
      (λ z rows at. named c.args.text.now rows at c.in_ok-x.x.name c.in_ok-y.y.name z)
  third c o =
      onward 41 _ (second_on _ o c.in_ok-y.was).0 c.read_child-3.ensures c.in_ok-read_child-3.was
      (c.marked-3.ensures.by_index, c.marked-3.ensures.result_in_bounds)

pub read_node-returns-in_err-read_child : goal.read_node-returns-in_err-read_child
read_node-returns-in_err-read_child t c =
    let here = (goal.at.read_node-returns-in_err-read_child t c).After-read_child in
    rw (handed_on c.from_residual.ensures) (stops_before 44 _ (opened here) c.read_child.ensures c.in_err-read_child.was)

pub read_node-marked-requires-clause-child_in_bounds : goal.read_node-marked-requires-clause-child_in_bounds
read_node-marked-requires-clause-child_in_bounds t c = (part_child c.read_child.ensures c.in_ok-read_child.was).1.0

pub read_node-returns-in_err-x : goal.read_node-returns-in_err-x
read_node-returns-in_err-x t c =
    let here = goal.at.read_node-returns-in_err-x t c in
    let x = first here.After-marked (opened here.After-read_child) in
    rw (handed_on c.from_residual-in_err-x.ensures) (stops_there x c.in_err-x.was)

pub read_node-read_child-requires-2 : goal.read_node-read_child-requires-2
read_node-read_child-requires-2 t c =
    let here = goal.at.read_node-read_child-requires-2 t c in
    let x = first here.After-marked (opened here.After-read_child) in
    let on = (goes_behind x c.in_ok-x.was).1 in
    let falls : 2 * (c.args.height - 1) + 1 < t = omega (arith, c.decreases, c.requires.closed_le_height) in
    (falls, (on.0, (on.1, omega (arith, c.requires.closed_le_height, c.read_child.auto.rows))))

pub read_node-returns-in_err-read_child-2 : goal.read_node-returns-in_err-read_child-2
read_node-returns-in_err-read_child-2 t c =
    let here = goal.at.read_node-returns-in_err-read_child-2 t c in
    let x = first here.After-marked (opened here.After-read_child) in
    rw (handed_on c.from_residual-in_err-read_child-2.ensures)
    (stops_before 44 _ (first_on x c.in_ok-x.was).0 c.read_child-2.ensures c.in_err-read_child-2.was)

pub read_node-marked-requires-2-clause-child_in_bounds : goal.read_node-marked-requires-2-clause-child_in_bounds
read_node-marked-requires-2-clause-child_in_bounds t c = (part_child c.read_child-2.ensures c.in_ok-read_child-2.was).1.0

pub read_node-returns-in_err-y : goal.read_node-returns-in_err-y
read_node-returns-in_err-y t c =
    let here = goal.at.read_node-returns-in_err-y t c in
    let x = first here.After-marked (opened here.After-read_child) in
    let y = second here.After-marked-2 x in
    rw (handed_on c.from_residual-in_err-y.ensures) (stops_there y c.in_err-y.was)

pub read_node-read_child-requires-3 : goal.read_node-read_child-requires-3
read_node-read_child-requires-3 t c =
    let here = goal.at.read_node-read_child-requires-3 t c in
    let x = first here.After-marked (opened here.After-read_child) in
    let y = second here.After-marked-2 x in
    let on = (goes_behind y c.in_ok-y.was).1 in
    let falls : 2 * (c.args.height - 1) + 1 < t = omega (arith, c.decreases, c.requires.closed_le_height) in
    (falls, (on.0, (on.1, omega (arith, c.requires.closed_le_height, c.read_child.auto.rows, c.read_child-2.auto.rows))))

pub read_node-returns-in_err-read_child-3 : goal.read_node-returns-in_err-read_child-3
read_node-returns-in_err-read_child-3 t c =
    let here = goal.at.read_node-returns-in_err-read_child-3 t c in
    let x = first here.After-marked (opened here.After-read_child) in
    let y = second here.After-marked-2 x in
    rw (handed_on c.from_residual-in_err-read_child-3.ensures)
    (stops_before 41 _ (second_on _ y c.in_ok-y.was).0 c.read_child-3.ensures c.in_err-read_child-3.was)

pub read_node-marked-requires-3-clause-child_in_bounds : goal.read_node-marked-requires-3-clause-child_in_bounds
read_node-marked-requires-3-clause-child_in_bounds t c = (part_child c.read_child-3.ensures c.in_ok-read_child-3.was).1.0

pub read_node-returns-in_err-z : goal.read_node-returns-in_err-z
read_node-returns-in_err-z t c =
    let here = goal.at.read_node-returns-in_err-z t c in
    let x = first here.After-marked (opened here.After-read_child) in
    let y = second here.After-marked-2 x in
    let z = third here.After-marked-3 y in
    rw (handed_on c.from_residual-in_err-z.ensures) (stops_there z c.in_err-z.was)

pub read_node-close_node-requires : goal.read_node-close_node-requires
read_node-close_node-requires t c =
    let here = goal.at.read_node-close_node-requires t c in
    let x = first here.After-marked (opened here.After-read_child) in
    let y = second here.After-marked-2 x in
    let z = third here.After-marked-3 y in
    let on = (goes_behind z c.in_ok-z.was).1 in
    record {
      at_in_bounds = on.0;
      closed_in_bounds = omega (arith, on.1, c.requires.closed_le_height, c.read_child.auto.rows, c.read_child-2.auto.rows, c.read_child-3.auto.rows);
    }

pub read_node-returns : goal.read_node-returns
read_node-returns t c =
    let here = goal.at.read_node-returns t c in
    let x = first here.After-marked (opened here.After-read_child) in
    let y = second here.After-marked-2 x in
    let z = third here.After-marked-3 y in
    let on = goes_behind z c.in_ok-z.was in
    let close = c.close_node.ensures in
    record {
      says = close.says ∙ sym on.0;
      within = close.within;
      few = omega (arith, close.few, on.1.1, c.requires.closed_le_height);
    }
