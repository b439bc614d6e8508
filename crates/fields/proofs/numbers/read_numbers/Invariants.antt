-- What was read and what is left give the answer: each way out of a turn is one law of the record of numbers read.
use Rattle.std.proofs.Common.{length}
use Rattle.fields.specs.Decimal.{is_number, value}
use Rattle.fields.proofs.ReadingFields.{Reading}
use Rattle.fields.proofs.numbers.read_numbers.Given as goal

abbrev pub invariant-loop-count : goal.invariant-loop-count
invariant-loop-count l = Reading is_number value l.text (length l.initial.numbers) l.numbers l.count l.at
