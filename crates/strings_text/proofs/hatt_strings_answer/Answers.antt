-- What was read is what is asked for.
use Rattle.terms_text.specs.Jobs.{requested}
use Rattle.strings_text.proofs.StringsPrinted.{strings_run}
use Rattle.strings_text.proofs.hatt_strings_answer.Goals as goal

pub returns : goal.returns
returns c = rw (← strings_run (requested c.args.asks.now) _ _ c.run_tree-read.ensures) c.print_read.ensures
