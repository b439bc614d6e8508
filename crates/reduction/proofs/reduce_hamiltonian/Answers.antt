-- The rows passed are reduced, those ahead are as they were, and what was dropped is counted with them.
use mathlib.Core.Path.{refl}
use native.Mathlib.Omega.{arith}
use Rattle.terms.specs.Rows.{rows_of, terms_of}
use Rattle.reduction.proofs.ChainedRows.{chained_starts}
use Rattle.reduction.proofs.ReducedRows.{passing_starts, next_worked, passing_on, drops_fit, passing_ends}
use Rattle.reduction.proofs.reduce_hamiltonian.Goals as goal

pub loop-place-init : goal.loop-place-init
unfolding terms_of rows_of
loop-place-init c =
    let args = c.args in
    (passing_starts args.rule args.selection args.parent args.count args.rows.now, chained_starts 16384 2048 _ refl)

pub reduce_row-dropped-requires : goal.reduce_row-dropped-requires
reduce_row-dropped-requires c =
    let args = c.args in record {
      worked = next_worked args.rule args.selection args.parent args.count args.rows.now c.requires.worked _ _ _ c.loop-place.invariant.0
          c.loop-place-test.true;
      chained = c.loop-place.invariant.1;
      place_lt_most_terms = omega (arith, c.requires.count_le_most_terms);
    }

pub overflow_add-dropped : goal.overflow_add-dropped
overflow_add-dropped c =
    let args = c.args in
    let fit = drops_fit args.rule args.selection args.parent args.count args.rows.now c.requires.worked _ _ _ c.loop-place.invariant.0
    c.loop-place-test.true _ _ c.reduce_row-dropped.ensures.row_reduced in
    omega (arith, fit)

pub loop-place-preserved : goal.loop-place-preserved
loop-place-preserved c =
    let args = c.args in
    let reduced = c.reduce_row-dropped in (
      passing_on args.rule args.selection args.parent args.count args.rows.now c.requires.worked _ _ _ c.loop-place.invariant.0
          c.loop-place-test.true _ _ reduced.ensures.row_reduced,
      reduced.ensures.chained_2,
    )

pub returns : goal.returns
returns c =
    let args = c.args in
    let p = c.loop-place.invariant.0 in
    passing_ends args.rule args.selection args.parent args.count args.rows.now c.requires.worked _ _ _ p
    (omega (arith, p.inside, c.loop-place-test.false))
