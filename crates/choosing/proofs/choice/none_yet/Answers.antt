-- The lightest before any triple is what the definition says.
use mathlib.Core.Path.{refl}
use Rattle.choosing.specs.code.Couples.{nothing}
use Rattle.choosing.proofs.choice.none_yet.Goals as goal

pub returns : goal.returns
unfolding nothing
returns c = refl
