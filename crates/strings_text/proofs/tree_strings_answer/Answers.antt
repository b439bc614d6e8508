-- What was read is what the text says.
use Rattle.strings_text.proofs.StringsPrinted.{strings_read}
use Rattle.strings_text.proofs.tree_strings_answer.Goals as goal

pub returns : goal.returns
returns c = rw (← strings_read c.args.tree.now _ _ _ c.read_tree-read.ensures) c.print_read.ensures
