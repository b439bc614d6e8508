-- A last line without LF is refused at its line, and else the journal of the merges fits and is written.
use mathlib.Core.Path.{◌≡◌, sym, ◌∙◌}
use Prim.Native.Nat.{◌+◌, ◌≤◌}
use native.Mathlib.Omega.{arith}
use lib.ListN.{length}
use Rattle.merging.specs.code.State.{history_of}
use Rattle.merging.proofs.Runs.{merges_within}
use Rattle.obeying.specs.Obeying.{line_after}
use Rattle.steering.specs.Steering.{steer_printed}
use Rattle.steering.proofs.JournalSteered.{unended, ended, text_fits, journal_puts}
use Rattle.steering.proofs.put_journal.Goals as goal

pub overflow_add-merges : goal.overflow_add-merges
overflow_add-merges c =
    let holds = c.requires.1 in
    omega (arith, merges_within c.requires.0 _ c.args.run holds, holds.few, c.merges.ensures)

pub returns-then-kept_bytes-merges : goal.returns-then-kept_bytes-merges
unfolding steer_printed
returns-then-kept_bytes-merges c job holds =
    let kept = c.kept_bytes in
    let merges = c.merges in
    let line : merges.result + 1 ≡ line_after (history_of c.args.run) = omega (arith, merges.ensures) in
    rw (unended job c.args.merges.now (history_of c.args.run) (λ e. c.if-kept_bytes-merges.true (kept.ensures.0 ∙ e)))
    (rw line at c.put_refusal.ensures)

pub write_new-requires : goal.write_new-requires
write_new-requires c =
    let known = c.requires in
    (known.0, (_, text_fits known.0 _ c.args.run known.1 _ (omega arith)))

pub returns : goal.returns
unfolding steer_printed
returns c job holds =
    let run = c.args.run in
    let kept = c.kept_bytes in
    let enough : 5392 ≤ length c.args.out.now = omega arith in
    let wrote = c.write_new.ensures job _ (text_fits job _ run holds _ enough) in
    rw (ended job c.args.merges.now (history_of run) (sym kept.ensures.0 ∙ c.if-kept_bytes-merges.false))
    (journal_puts job _ run holds c.args.out.now _ _ enough wrote.0 wrote.1)
