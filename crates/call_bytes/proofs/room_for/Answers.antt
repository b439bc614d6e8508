-- Each return is one arm of the meaning.
use Prim.Native.Nat.{◌*◌}
use native.Mathlib.Omega.{arith}
use borrow.Author.Tests.{le-leb, lt-leb}
use Rattle.call_bytes.specs.code.Handing.{room_of}
use Rattle.call_bytes.proofs.room_for.Goals as goal

pub returns-then-answer-numbers : goal.returns-then-answer-numbers
unfolding room_of
returns-then-answer-numbers c = let args = c.args in rw (lt-leb (8 * args.numbers) args.answer (omega (arith, c.if-answer-numbers.true)))

pub returns-then-bytes-own : goal.returns-then-bytes-own
unfolding room_of
returns-then-bytes-own c = let args = c.args in rw (le-leb (8 * args.numbers) args.answer (omega (arith, c.if-answer-numbers.false))) (omega arith)

pub returns : goal.returns
unfolding room_of
returns c = let args = c.args in rw (le-leb (8 * args.numbers) args.answer (omega (arith, c.if-answer-numbers.false))) (omega arith)
