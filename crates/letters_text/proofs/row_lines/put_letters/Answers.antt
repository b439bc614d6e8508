-- The lines of the rows passed stand at the front; at the end they are all.
use native.Mathlib.Omega.{arith}
use Rattle.lists.proofs.Behind.{Wrote}
use Rattle.text.proofs.PrintedLines.{wrote_puts}
use Rattle.letters_text.proofs.PuttingLetters.{letters_start, letters_go, letters_end}
use Rattle.letters_text.proofs.row_lines.put_letters.Goals as goal

pub loop-place-init : goal.loop-place-init
loop-place-init c =
    letters_start c.args.triple c.args.count c.args.rows.now c.args.out.now (omega arith)

pub term_at-term-requires : goal.term_at-term-requires
term_at-term-requires c =
    let held = c.requires.0 in
    (omega (arith, held.room), omega (arith, held.within c.loop-place.place (omega arith)))

pub put_row-at-requires : goal.put_row-at-requires
put_row-at-requires c =
    omega (arith, c.loop-place.invariant.near, c.loop-place.invariant.size)

pub loop-place-preserved : goal.loop-place-preserved
loop-place-preserved c =
    let args = c.args in
    let put = c.put_row-at in
    let line : Wrote _ _ _ _ _ = record { behind = put.ensures.value.0; written = put.ensures.out_after } in
    letters_go args.triple args.count args.rows.now args.out.now (omega arith) _ _ _ c.loop-place.invariant _ _ (omega arith)
    (rw c.term_at-term.ensures at line) put.ensures.value.1 put.auto.out

pub returns : goal.returns
returns c =
    let args = c.args in
    wrote_puts (letters_end args.triple args.count args.rows.now args.out.now (omega arith) _ _ _ c.loop-place.invariant (omega arith))
    (omega (arith, c.loop-place.invariant.near, c.loop-place.invariant.some))
