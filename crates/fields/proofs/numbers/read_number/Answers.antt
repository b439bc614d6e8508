-- What was read and what is left give the answer: each arm of the match is one law of reading on.
use Rattle.std.proofs.Common.{◌≡◌, ◌+◌, ◌-◌, ◌∙◌, sym, ap, List, ℕ, length, take, drop, get_or, arith}
use Rattle.std.proofs.lemmas.List.{take_rest, length-drop}
use Rattle.fields.proofs.FieldRead.{read_starts, read_tab, read_other, read_stops, read_passes, read_ends, goes_room}
use Rattle.fields.proofs.Numerals.{digit_within, digit_below, digit_above}
use Rattle.fields.proofs.numbers.read_number.Goals as goal

-- What is read.
abbrev ahead : List ℕ → ℕ → List ℕ
ahead text at = take (length text - at) (drop at text)

pub loop-count-init : goal.loop-count-init
loop-count-init c =
    let text = c.args.text.now in
    let none : c.args.at + 0 ≡ c.args.at = omega arith in
    record { small = omega arith; reads = rw (none, take_rest text c.args.at) (read_starts text c.args.at) }

pub returns-in-9 : goal.returns-in-9
returns-in-9 c =
    let text = c.args.text.now in
    c.ended.ensures
    ∙ sym (c.loop-count.invariant.reads ∙ read_tab c.loop-count.count c.loop-count.value _ (ahead text c.args.at) (omega arith) c.in-9.is)

pub returns-then-not-goes_on : goal.returns-then-not-goes_on
returns-then-not-goes_on c =
    let rest = ahead c.args.text.now c.args.at in
    let digit = digit_within (get_or rest c.loop-count.count 0) (omega arith) (omega arith) in
    sym
    (c.loop-count.invariant.reads
    ∙ read_stops c.loop-count.count c.loop-count.value _ rest (omega arith) digit (sym c.goes_on.ensures ∙ c.if-not-goes_on.true))

pub returns-in_default : goal.returns-in_default
returns-in_default c =
    let rest = ahead c.args.text.now c.args.at in
    let other = digit_below (get_or rest c.loop-count.count 0) (omega arith) in
    sym (c.loop-count.invariant.reads ∙ read_other c.loop-count.count c.loop-count.value _ rest (omega arith) (λ e. omega arith) other)

pub returns-in_default-2 : goal.returns-in_default-2
returns-in_default-2 c =
    let rest = ahead c.args.text.now c.args.at in
    let other = digit_above (get_or rest c.loop-count.count 0) (omega arith) in
    sym (c.loop-count.invariant.reads ∙ read_other c.loop-count.count c.loop-count.value _ rest (omega arith) (λ e. omega arith) other)

pub loop-count-preserved : goal.loop-count-preserved
loop-count-preserved c =
    let rest = ahead c.args.text.now c.args.at in
    let digit = digit_within (get_or rest c.loop-count.count 0) (omega arith) (omega arith) in
    let on = sym c.goes_on.ensures ∙ c.if-not-goes_on.false in
    let room = goes_room c.loop-count.count c.loop-count.value on in
    let next : c.args.at + (c.loop-count.count + 1) ≡ c.args.at + c.loop-count.count + 1 = omega arith in
    record {
      small = omega arith;
      reads =
          c.loop-count.invariant.reads
          ∙ read_passes c.loop-count.count c.loop-count.value (c.args.at + c.loop-count.count) rest (omega arith) digit on
          ∙ rw (next, c.from.ensures);
    }

pub returns : goal.returns
returns c =
    let text = c.args.text.now in
    let rest = ahead text c.args.at in
    let long : length rest ≡ length text - c.args.at = ap length (take_rest text c.args.at) ∙ length-drop c.args.at text in
    let all : length text - c.args.at ≡ c.loop-count.count = omega arith in
    let end : length text ≡ c.args.at + c.loop-count.count = omega arith in
    c.ended-2.ensures
    ∙ rw (all, end) (sym (c.loop-count.invariant.reads ∙ read_ends c.loop-count.count c.loop-count.value _ rest (omega arith)))
