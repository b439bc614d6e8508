-- The answer is a refusal, or a run whose rows and new lines stand in front: either way it is what the definitions come to.
use mathlib.Core.Path.{◌≡◌}
use native.Mathlib.Omega.{arith}
use mathlib.Core.List.{List}
use Prim.Native.Nat.{ℕ}
use lib.ListN.{length}
use Rattle.terms.specs.Rules.{rule_number}
use Rattle.journal.specs.Promises.{lent, rooms_of}
use Rattle.refusal.proofs.Told.{handed_on}
use Rattle.text.specs.Running.{program_rooms, ran_by}
use Rattle.text.proofs.RunEnds.{drops_left, refused_runs, done_runs}
use Rattle.text.proofs.running.run_terms.Goals as goal

-- The lent parts are as long as the program's.
same_rooms : (work rows journal drops : List ℕ) → length work ≡ 18432 → length rows ≡ 1024 → length journal ≡ 5392 → length drops ≡ 256
    → rooms_of 256 (lent work rows journal drops) ≡ program_rooms.run
same_rooms work rows journal drops w r j d = rw (w, r, j, d)

pub returns-in_err-found : goal.returns-in_err-found
unfolding ran_by
returns-in_err-found c =
    let args = c.args in
    let rooms = same_rooms args.work.now args.rows.now args.journal.now args.drops.now (omega arith) (omega arith) (omega arith) (omega arith) in
    let told = rw c.from.ensures at c.resume.ensures in
    rw (handed_on c.from_residual.ensures)
    (record {
      runs = refused_runs args.modes (rule_number args.rule) args.numbers.now args.read.now _ _ _ rooms told _ c.in_err-found.was;
      drops_after = drops_left args.modes (rule_number args.rule) args.numbers.now args.read.now _ _ _ rooms told;
    })

pub returns : goal.returns
unfolding ran_by
returns c =
    let args = c.args in
    let rooms = same_rooms args.work.now args.rows.now args.journal.now args.drops.now (omega arith) (omega arith) (omega arith) (omega arith) in
    let told = rw c.from.ensures at c.resume.ensures in
    record {
      runs =
          done_runs args.modes (rule_number args.rule) args.numbers.now args.read.now _ _ _ rooms told _ c.resume.auto.journal
          c.in_ok-found.was;
      drops_after = drops_left args.modes (rule_number args.rule) args.numbers.now args.read.now _ _ _ rooms told;
    }
