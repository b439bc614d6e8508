-- The lines of the merges passed are written, and those of the numbers ahead are the others.
use Rattle.std.proofs.Common.{◌∙◌, ap, arith, length, length-append}
use Rattle.std.specs.Slice.Iter.{chunks_exact_rest, chunks_exact_size}
use Rattle.best_text.proofs.MergesPrinted.{merges_start, merges_go, merges_end}
use Rattle.best_text.proofs.merges.put_merges.Goals as goal

pub loop-numbers-init : goal.loop-numbers-init
loop-numbers-init c =
    let is = c.into_iter-numbers-iterator.ensures.into_iter_gives in
    let all = ap chunks_exact_rest is ∙ c.chunks_exact-numbers-items.ensures.rest in
    record {
      three = ap chunks_exact_size is ∙ c.chunks_exact-numbers-items.ensures.size;
      putting = rw all (merges_start c.args.start c.args.sequence.now c.args.out.now);
    }

pub put_merge-at-requires : goal.put_merge-at-requires
put_merge-at-requires c =
    let p = c.loop-numbers.invariant.putting in
    let steps = c.in-Some.ensures.steps.1 in
    omega (arith, p.near, p.size, ap length steps.0, steps.1, c.loop-numbers.invariant.three, length-append c.in-Some.numbers.now (chunks_exact_rest c.next.new.self))

pub loop-numbers-preserved : goal.loop-numbers-preserved
loop-numbers-preserved c =
    let put = c.put_merge-at in
    let steps = c.in-Some.ensures.steps.1 in
    record {
      three = c.in-Some.ensures.steps.0 ∙ c.loop-numbers.invariant.three;
      putting =
          merges_go c.args.start c.args.sequence.now c.args.out.now _ _ c.in-Some.numbers.now (chunks_exact_rest c.next.new.self)
          (rw steps.0 at c.loop-numbers.invariant.putting) (steps.1 ∙ c.loop-numbers.invariant.three) c.requires _ _
          (record { behind = put.ensures.value.0; written = put.ensures.out_after }) put.ensures.value.1 put.auto.out;
    }

pub returns : goal.returns
returns c =
    let all = merges_end c.args.start c.args.sequence.now c.args.out.now _ _ _ c.loop-numbers.invariant.putting (omega (arith, c.in-None.ensures.steps.1.0)) in
    record {
      value = (all.behind, omega (arith, c.loop-numbers.invariant.putting.near));
      out_after = all.written;
    }
