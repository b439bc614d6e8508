-- `contains` compares the other way round.
use Rattle.std.proofs.Common.{◌∙◌}
use Rattle.choice.proofs.FreeModes.{taken_is}
use Rattle.choice.proofs.is_assigned.Goals as goal

pub returns : goal.returns
returns c = c.contains.ensures.value ∙ taken_is c.args.mode c.args.assigned.now
