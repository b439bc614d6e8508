-- What was read and what is left give the answer: each arm of the match is one law of reading on.
use Rattle.std.proofs.Common.{◌≡◌, ◌+◌, ◌≤◌, drop}
use Rattle.fields.specs.code.Reading.{number_at}
use Rattle.fields.proofs.FieldRead.{read_after}
use Rattle.fields.proofs.numbers.read_number.Given as goal

abbrev pub invariant-loop-count : goal.invariant-loop-count
invariant-loop-count l = record {
  small : l.value ≤ 65539;
  reads : number_at l.text l.at ≡ read_after l.count l.value (l.at + l.count) (drop l.count l.byte-items);
}
