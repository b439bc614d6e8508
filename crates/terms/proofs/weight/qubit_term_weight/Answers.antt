-- Each count and what is ahead of it make all the occurrences; at the end the three counts decide the letter.
use mathlib.Core.Path.{◌≡◌}
use Prim.Native.Nat.{◌<◌, ◌≤◌}
use native.Mathlib.Omega.{arith}
use lib.ListN.{length, get_or}
use Rattle.lists.specs.Counting.{occurrences}
use Rattle.lists.proofs.Steps.{occurrences_step, occurrences_end}
use Rattle.lists.proofs.Standard.{same_is}
use Rattle.terms.specs.Weight.{term_letter}
use Rattle.terms.proofs.weight.qubit_term_weight.Goals as goal

pub loop-index-preserved : goal.loop-index-preserved
loop-index-preserved c =
    let args = c.args in
    let s = args.term.now in
    let at = c.loop-index.index-index in
    let h : at < length s = omega arith in
    let x = occurrences_step args.triple.x s at h in
    let y = occurrences_step args.triple.y s at h in
    let z = occurrences_step args.triple.z s at h in
    let e = same_is (get_or s at 0) in
    omega (arith, e args.triple.x, e args.triple.y, e args.triple.z)

pub returns : goal.returns
unfolding term_letter
returns c =
    let args = c.args in
    let s = args.term.now in
    let at = c.loop-index.index-index in
    let t = args.triple in
    let h : length s ≤ at = omega arith in
    let x = occurrences_end t.x s at h in
    let y = occurrences_end t.y s at h in
    let z = occurrences_end t.z s at h in
    let ex : c.loop-index.xs ≡ occurrences t.x s = omega arith in
    let ey : c.loop-index.ys ≡ occurrences t.y s = omega arith in
    let ez : c.loop-index.zs ≡ occurrences t.z s = omega arith in
    rw (← ex, ← ey, ← ez) c.counted_letter.ensures
