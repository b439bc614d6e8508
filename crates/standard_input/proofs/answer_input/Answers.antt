-- What the call of `answer` came to, at the bytes that were read.
use Rattle.std.proofs.Common.{inr, take, rules}
use Rattle.standard_input.proofs.answer_input.Goals as goal

pub returns : goal.returns
returns g c = inr (take c.in-Ok.count c.read_input.new.bytes, search rules)
