-- The mark so far and the numbers ahead give the mark; at the end nothing is ahead.
use mathlib.Core.Path.{◌∙◌, sym, ap}
use Prim.Native.Nat.{◌+◌}
use native.Mathlib.Omega.{arith}
use borrow.Author.Rules.{rules}
use lib.ListN.{drop}
use Rattle.reduction.specs.code.Marks.{next_mark, mark_after}
use Rattle.reduction.proofs.ChainedRows.{mark_start, mark_step, mark_end}
use Rattle.reduction.proofs.kept_rows.mark_of.Goals as goal

pub loop-index-init : goal.loop-index-init
loop-index-init c = (search rules, mark_start 16384 _)

pub loop-index-preserved : goal.loop-index-preserved
unfolding next_mark
loop-index-preserved c =
    let args = c.args in (
      omega arith,
      c.loop-index.invariant.1
          ∙ mark_step 16384 c.loop-index.mark args.term.now c.loop-index.index-index (omega arith)
          ∙ ap (λ n. mark_after 16384 (next_mark 16384 c.loop-index.mark n) (drop (c.loop-index.index-index + 1) args.term.now)) (sym c.from.ensures),
    )

pub returns : goal.returns
returns c =
    let args = c.args in
    (sym (c.loop-index.invariant.1 ∙ mark_end 16384 c.loop-index.mark args.term.now c.loop-index.index-index (omega arith)), c.loop-index.invariant.0)
