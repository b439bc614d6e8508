-- The word and the four codes, each behind what is before it.
use native.Mathlib.Omega.{arith}
use lib.ListN.{get_or}
use Rattle.lists.proofs.Behind.{field_wrote}
use Rattle.text.specs.Output.{code_text}
use Rattle.text.proofs.PrintedLines.{node_wrote}
use Rattle.text.proofs.output.put_node.Goals as goal

pub returns : goal.returns
returns c =
    let first = c.put_bytes-end.ensures in
    let second = c.put_code-end.ensures in
    let third = c.put_code-end-2.ensures in
    let fourth = c.put_code-end-3.ensures in
    let fifth = c.put_code.ensures in
    let all = node_wrote c.args.row.now c.args.out.now c.args.at c.requires.0 c.requires.1
    (record { behind = first.value; written = first.out_after }) (field_wrote (code_text (get_or c.args.row.now 0 0)) 9 second.value.0 second.out_after) (field_wrote (code_text (get_or c.args.row.now 1 0)) 9 third.value.0 third.out_after)
    (field_wrote (code_text (get_or c.args.row.now 2 0)) 9 fourth.value.0 fourth.out_after) (field_wrote (code_text (get_or c.args.row.now 3 0)) 10 fifth.value.0 fifth.out_after) (omega arith) in
    record {
      value = (all.behind, omega arith);
      out_after = all.written;
    }
