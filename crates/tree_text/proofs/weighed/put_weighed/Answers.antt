-- The weight is printed behind its word, or the refusal.
use native.Mathlib.Omega.{arith}
use Rattle.text.proofs.PrintedLines.{wrote_puts}
use Rattle.tree_text.specs.Answers.{weigh_printed}
use Rattle.tree_text.proofs.AnswersPrinted.{weight_parts}
use Rattle.tree_text.proofs.weighed.put_weighed.Goals as goal

pub returns-in-Err : goal.returns-in-Err
unfolding weigh_printed
returns-in-Err c = rw c.in-Err.is c.put_refusal.ensures

pub returns-in-Ok : goal.returns-in-Ok
unfolding weigh_printed
returns-in-Ok c =
    let put = c.put_value.ensures in
    rw (c.in-Ok.is, ← weight_parts c.in-Ok.weight) (wrote_puts (record { behind = put.value.0; written = put.out_after }) (omega (arith, put.value.1)))
