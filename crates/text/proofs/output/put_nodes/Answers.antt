-- The lines of the rows passed are written, and those of the rows ahead are the others.
use Rattle.std.proofs.Common.{◌∙◌, ap, arith, length, length-append}
use Rattle.std.specs.Slice.Iter.{chunks_exact_rest, chunks_exact_size}
use Rattle.text.proofs.PrintedLines.{rows_start, rows_go, rows_end}
use Rattle.text.proofs.output.put_nodes.Goals as goal

pub loop-row-init : goal.loop-row-init
loop-row-init c =
    let rows = c.args.rows.now in
    let is = c.into_iter-row-iterator.ensures.into_iter_gives in
    let all = ap chunks_exact_rest is ∙ c.chunks_exact-row-items.ensures.rest in
    record {
      four = ap chunks_exact_size is ∙ c.chunks_exact-row-items.ensures.size;
      putting = rw all (rows_start c.args.start rows c.args.out.now);
    }

pub put_node-at-requires : goal.put_node-at-requires
put_node-at-requires c =
    let p = c.loop-row.invariant.putting in
    let steps = c.in-Some.ensures.steps.1 in
    (omega (arith, steps.1, c.loop-row.invariant.four), omega (arith, p.near, p.size, ap length steps.0, steps.1, length-append c.in-Some.row.now (chunks_exact_rest c.next.new.self)))

pub loop-row-preserved : goal.loop-row-preserved
loop-row-preserved c =
    let put = c.put_node-at in
    let steps = c.in-Some.ensures.steps.1 in
    record {
      four = c.in-Some.ensures.steps.0 ∙ c.loop-row.invariant.four;
      putting =
          rows_go c.args.start c.args.rows.now c.args.out.now _ _ c.in-Some.row.now (chunks_exact_rest c.next.new.self)
          (rw steps.0 at c.loop-row.invariant.putting) (steps.1 ∙ c.loop-row.invariant.four) c.requires _ _
          (record { behind = put.ensures.value.0; written = put.ensures.out_after }) put.ensures.value.1 put.auto.out;
    }

pub returns : goal.returns
returns c =
    let all = rows_end c.args.start c.args.rows.now c.args.out.now _ _ _ c.loop-row.invariant.putting (omega (arith, c.in-None.ensures.steps.1.0)) in
    record {
      value = (all.behind, omega (arith, c.loop-row.invariant.putting.near));
      out_after = all.written;
    }
