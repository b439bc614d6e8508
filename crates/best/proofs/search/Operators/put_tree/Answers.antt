-- Each place passed has its number's code.
use Rattle.std.proofs.Common.{◌≡◌, ◌*◌, arith, reverse, length}
use Rattle.std.proofs.lemmas.List.{length-reverse}
use Rattle.entities.specs.Codes.{child_code}
use Rattle.best.specs.Call.{sequence_numbers}
use Rattle.best.proofs.MergesKept.{length_numbers}
use Rattle.best.proofs.TreeKept.{codes_put}
use Rattle.best.proofs.search.Operators.put_tree.Goals as goal

pub returns : goal.returns
returns c =
    let args = c.args in
    let numbers = sequence_numbers (reverse args.merges.now) in
    let room : length args.tree.now ≡ length numbers = omega (arith, length_numbers (reverse args.merges.now), length-reverse args.merges.now) in
    codes_put (child_code args.self.now.modes (2 * args.self.now.modes)) numbers args.tree.now c.put_numbers.new.numbers c.loop-number.tree room c.put_numbers.ensures
    c.loop-number.auto.tree (λ k h. c.loop-number.invariant.passed k (omega arith))
