-- The rows before the step are come back to, and the triple is the step's.
use native.Mathlib.Omega.{arith}
use Rattle.letters_text.specs.Lettering.{step_lines, letters_printed}
use Rattle.letters_text.proofs.RowsReplayed.{terms_replayed}
use Rattle.letters_text.proofs.put_step.Goals as goal

pub merge_of-triple-requires : goal.merge_of-triple-requires
merge_of-triple-requires c =
    let finished = c.requires.1.1.0 in
    (c.requires.0, (c.requires.1.0, (finished.holds, omega (arith, finished.all, c.requires.1.1.1))))

pub rows_before-requires : goal.rows_before-requires
rows_before-requires c =
    let known = c.requires.1.1 in
    (c.requires.0, (c.requires.1.0, (known.0, omega (arith, known.1))))

pub put_letters-requires : goal.put_letters-requires
put_letters-requires c =
    let finished = c.requires.1.1.0 in
    let rows = c.rows_before.ensures c.requires.0 c.requires.1.0 finished in
    rw (c.count.ensures _ _ finished.holds) (rows.held, finished.holds.light)

pub returns : goal.returns
unfolding letters_printed step_lines
returns c job own finished =
    let rows = c.rows_before.ensures job own finished in
    rw (← c.merge_of-triple.ensures, ← terms_replayed job _ _ rows, ← c.count.ensures job own finished.holds) c.put_letters.ensures
