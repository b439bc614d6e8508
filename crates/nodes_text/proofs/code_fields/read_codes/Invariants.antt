-- What was read and what is left give the answer: each way out of a turn is one law of the record of fields read.
use lib.ListN.{length}
use Rattle.fields.proofs.ReadingFields.{Reading}
use Rattle.nodes_text.specs.TreeInput.{is_code, code_said}
use Rattle.nodes_text.proofs.code_fields.read_codes.Given as goal

abbrev pub invariant-loop-count : goal.invariant-loop-count
invariant-loop-count l = Reading is_code code_said l.text (length l.initial.codes) l.codes l.count l.at
