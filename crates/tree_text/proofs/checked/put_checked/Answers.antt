-- An accepted tree prints nothing, and another its refusal.
use Rattle.tree_text.specs.Answers.{check_printed}
use Rattle.text.proofs.PrintedLines.{puts_none}
use Rattle.tree_text.proofs.checked.put_checked.Goals as goal

pub returns-in-Ok : goal.returns-in-Ok
unfolding check_printed
returns-in-Ok c = rw c.in-Ok.is (puts_none c.args.out.now)

pub returns-in-Err : goal.returns-in-Err
unfolding check_printed
returns-in-Err c = rw c.in-Err.is c.put_refusal.ensures
