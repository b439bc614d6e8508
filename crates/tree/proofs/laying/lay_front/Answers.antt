-- The rows are laid over the front, which is as long as their table.
use mathlib.Core.Path.{refl, sym}
use native.Mathlib.Omega.{arith}
use lib.Seq.{length-take-le}
use Rattle.tree.specs.Laying.{modes_in}
use Rattle.tree.proofs.LaidTable.{laid_front}
use Rattle.tree.proofs.laying.lay_front.Goals as goal

pub slice_bounds-lay_rows-end : goal.slice_bounds-lay_rows-end
unfolding modes_in
slice_bounds-lay_rows-end c = omega (arith, c.requires)

pub slice_bounds-lay_rows-end-2 : goal.slice_bounds-lay_rows-end-2
unfolding modes_in
slice_bounds-lay_rows-end-2 c = sym (length-take-le _ c.args.table.now (omega (arith, c.requires)))

pub returns : goal.returns
unfolding modes_in
returns c =
    laid_front c.args.rows.now c.args.table.now _ _ refl (omega (arith, c.requires)) c.lay_rows.ensures
