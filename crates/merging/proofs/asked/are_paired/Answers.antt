-- Open entities stand in the table of z-ends, which says what the history says.
use native.Mathlib.Omega.{arith}
use Rattle.history.proofs.LawfulTest.{opens_test}
use Rattle.merging.specs.code.State.{history_of}
use Rattle.merging.proofs.StateAsked.{open_in}
use Rattle.merging.proofs.asked.are_paired.Goals as goal

pub paired-requires : goal.paired-requires
paired-requires c =
    let job = c.requires.0 in
    let holds = c.requires.1.1.0 in
    let run = c.args.run in
    let triple = c.args.triple in
    let opens = opens_test job.modes (history_of run) triple c.requires.1.1.1 in
    let in_table = open_in 769 256 job c.requires.1.0 run holds in
    (omega (arith, holds.few, holds.modes_are), in_table triple.x opens.0, in_table triple.y opens.1)
