-- The tree was refused, or its strings stand in front.
use native.Mathlib.Omega.{arith}
use Rattle.strings_text.proofs.StringsPrinted.{written_strings, refused_strings}
use Rattle.strings_text.proofs.put_strings.Goals as goal

pub returns-in-Err : goal.returns-in-Err
returns-in-Err c =
    let args = c.args in
    let known = c.in-Err.ensures in
    refused_strings args.modes args.tree.now args.out.now (omega arith) _ c.write_strings.new.text known.tells.answer known.text_after c.put_refusal.ensures

pub returns-in-Ok : goal.returns-in-Ok
returns-in-Ok c =
    let args = c.args in
    let known = c.in-Ok.ensures in
    written_strings args.modes args.tree.now args.out.now (omega arith) _ c.write_strings.new.text known.tells.answer known.text_after
