-- The digits read and those ahead are the number's digits: each way out of the loop is one law of the place midway.
use Rattle.std.proofs.Common.{◌≡◌, refl, ap, sym, ◌∙◌, ◌+◌, ◌-◌, get_or, get_or-drop, take, drop, length, length-drop, arith}
use native.Mathlib.Nat.{add-zero, add_assoc}
use Rattle.lists.proofs.Steps.{part_to_end}
use Rattle.newick.specs.Reading.{byte_at}
use Rattle.newick.specs.code.Promises.{may_follow}
use Rattle.newick.proofs.NumberAhead.{midway_starts, midway_ends, midway_goes, none_at_end, follows_digit}
use Rattle.newick.proofs.digits.read_digits.Goals as goal
use Rattle.newick.proofs.digits.read_digits.Goals.{After-follows}

pub loop-count-init : goal.loop-count-init
loop-count-init c = rw (add-zero c.args.at) (midway_starts c.args.text.now c.args.at)

-- The byte that is read stands so many places behind the first.
here : (c : After-follows) → get_or (take (length c.args.text.now - c.args.at) (drop c.args.at c.args.text.now)) c.loop-count.count 0
    ≡ byte_at c.args.text.now (c.args.at + c.loop-count.count)
unfolding byte_at
here c = rw (part_to_end c.args.text.now c.args.at) (get_or-drop c.args.at c.args.text.now c.loop-count.count 0)

tested : (c : After-follows) → c.follows.result
    ≡ may_follow (c.args.at + c.loop-count.count - c.args.at) c.loop-count.value (byte_at c.args.text.now (c.args.at + c.loop-count.count))
tested c =
    let count : c.loop-count.count ≡ c.args.at + c.loop-count.count - c.args.at = omega arith in
    c.follows.ensures ∙ rw (here c) (ap (λ n. may_follow n c.loop-count.value (byte_at c.args.text.now (c.args.at + c.loop-count.count))) count)

pub returns-then-not-follows : goal.returns-then-not-follows
returns-then-not-follows c =
    let stops = sym (tested (goal.at.returns-then-not-follows c).After-follows) ∙ c.if-not-follows.true in
    midway_ends c.args.text.now c.args.at c.loop-count.value (c.args.at + c.loop-count.count) c.loop-count.invariant stops _ refl refl (omega arith)

pub overflow_sub-byte : goal.overflow_sub-byte
overflow_sub-byte c =
    let at = (goal.at.overflow_sub-byte c).After-follows in
    let on = sym (tested at) ∙ c.if-not-follows.false in
    rw (here at) (follows_digit _ c.loop-count.value _ on).0

pub loop-count-preserved : goal.loop-count-preserved
loop-count-preserved c =
    let at = (goal.at.loop-count-preserved c).After-follows in
    let on = sym (tested at) ∙ c.if-not-follows.false in
    rw (c.from.ensures, here at, ← add_assoc) (midway_goes c.args.text.now c.args.at c.loop-count.value (c.args.at + c.loop-count.count) c.loop-count.invariant on)

pub returns : goal.returns
returns c =
    let text = c.args.text.now in
    let end : c.args.at + c.loop-count.count ≡ length text =
    omega (arith, ap length (part_to_end text c.args.at), length-drop c.args.at text) in
    let none = none_at_end text c.args.at c.loop-count.value (c.args.at + c.loop-count.count) c.loop-count.invariant (omega arith) in
    midway_ends text c.args.at c.loop-count.value (c.args.at + c.loop-count.count) c.loop-count.invariant none _ refl (sym end) (omega arith)
