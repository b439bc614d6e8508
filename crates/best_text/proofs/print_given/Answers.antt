-- What the call answered is printed, the merges from the numbers that it left.
use mathlib.Core.Path.{◌≡◌, ap, ◌∙◌}
use Prim.Native.Nat.{◌≤◌}
use native.Mathlib.Omega.{arith}
use lib.ListN.{length}
use Rattle.terms_text.specs.Input.{given}
use Rattle.best_text.specs.Printing.{best_as}
use Rattle.best_text.proofs.BestPrinted.{refused_printed, modes_few, found_told}
use Rattle.best_text.proofs.print_given.Goals as goal
use Rattle.best_text.proofs.print_given.Goals.{In-Ok}

few : (c : In-Ok) → c.args.modes ≤ 4
few c = modes_few 4 c.args.modes c.args.numbers.now c.args.sequence.now _ _ c.best.ensures _ c.in-Ok.is

pub overflow_mul-end : goal.overflow_mul-end
overflow_mul-end c = omega (arith, few (goal.at.overflow_mul-end c).In-Ok)

pub shared_ref_as_front-put_found : goal.shared_ref_as_front-put_found
shared_ref_as_front-put_found c = omega (arith, few (goal.at.shared_ref_as_front-put_found c).In-Ok)

pub returns-in-Err : goal.returns-in-Err
returns-in-Err c =
    let args = c.args in
    let room : 12 ≡ length args.sequence.now = omega arith in
    let told = refused_printed 4 args.modes args.numbers.now args.sequence.now _ _ c.best.ensures _ c.in-Err.is in
    rw (ap (λ n. best_as 4 n (given args.modes args.numbers.now)) room ∙ told) c.put_refusal.ensures

pub returns-in-Ok : goal.returns-in-Ok
returns-in-Ok c =
    let args = c.args in
    let room : 12 ≡ length args.sequence.now = omega arith in
    let told = found_told 4 args.modes args.numbers.now args.sequence.now _ _ c.best.ensures _ c.in-Ok.is in
    rw (ap (λ n. best_as 4 n (given args.modes args.numbers.now)) room ∙ told) c.put_found.ensures
