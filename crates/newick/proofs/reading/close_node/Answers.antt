-- There is no name, or the node is closed by it: its row stands behind those before.
use mathlib.Core.Path.{sym, ◌∙◌}
use Prim.Native.Nat.{◌*◌}
use native.Mathlib.Omega.{arith}
use lib.ListN.{take}
use Rattle.newick.specs.code.Promises.{meant, stopped, end_of, place_of, closed_of}
use Rattle.newick.proofs.PartsRead.{named_missing, named_none, named_some, one_closed}
use Rattle.newick.proofs.reading.close_node.Goals as goal

pub returns-then-not-stands : goal.returns-then-not-stands
unfolding meant stopped end_of place_of closed_of
returns-then-not-stands c =
    let args = c.args in
    let missing = sym c.stands.ensures.value ∙ c.if-not-stands.true in
    record {
      says = sym (named_missing args.text.now (take (4 * args.closed) args.rows.now) args.at args.x args.y args.z missing);
      within = c.requires.at_in_bounds;
      few = omega arith;
    }

pub returns-then-number-at : goal.returns-then-number-at
unfolding meant stopped end_of place_of closed_of
returns-then-number-at c =
    let args = c.args in
    let stands = c.stands in
    let there = c.if-not-stands.false in
    let read = c.read_digits-number in
    record {
      says =
          sym
          (named_none args.text.now (take (4 * args.closed) args.rows.now) args.at args.x args.y args.z
          (sym stands.ensures.value ∙ there) read.result read.ensures c.if-number-at.true);
      within = omega (arith, stands.ensures.at_in_bounds there);
      few = omega arith;
    }

pub returns : goal.returns
unfolding meant stopped end_of place_of closed_of
returns c =
    let args = c.args in
    let stands = c.stands in
    let there = c.if-not-stands.false in
    let read = c.read_digits-number in
    let put = c.put_row in
    record {
      says =
          rw put.ensures
          (rw (one_closed args.closed read.result.value args.x args.y args.z args.rows.now c.requires.closed_in_bounds)
          (sym
          (named_some args.text.now (take (4 * args.closed) args.rows.now) args.at args.x args.y args.z
          (sym stands.ensures.value ∙ there) read.result read.ensures c.if-number-at.false)));
      within = read.ensures.within;
      few = omega arith;
    }
