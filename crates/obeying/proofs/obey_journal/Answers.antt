-- The first line is the header, and the others are obeyed behind it.
use Rattle.std.proofs.lemmas.List.{take_rest}
use Rattle.fields.proofs.LineSteps.{lines_none}
use Rattle.refusal.proofs.Told.{handed_on}
use Rattle.obeying.proofs.JournalObeyed.{text_begins, nothing_to_obey, header_refused, lines_behind}
use Rattle.obeying.proofs.obey_journal.Goals as goal

pub returns-then-end-eq0 : goal.returns-then-end-eq0
returns-then-end-eq0 c job holds none_yet sized =
    let args = c.args in
    let read = args.read.now in
    let end = c.line_end-end in
    nothing_to_obey job args.rows.now read args.run.now holds none_yet (lines_none read 0 end.result end.ensures.0 c.if-end-eq0.true)

pub returns-in_err-obey_header : goal.returns-in_err-obey_header
returns-in_err-obey_header c job holds none_yet sized =
    let args = c.args in
    let read = args.read.now in
    let end = c.line_end-end in
    let next = text_begins read end.result end.ensures.0 c.if-end-eq0.false in
    rw (handed_on c.from_residual.ensures)
    (header_refused job args.rows.now read args.run.now holds none_yet _ _ next _ (c.obey_header.ensures job sized) _ c.in_err-obey_header.was)

pub returns : goal.returns
returns c job holds none_yet sized =
    let args = c.args in
    let read = args.read.now in
    let end = c.line_end-end in
    let next = text_begins read end.result end.ensures.0 c.if-end-eq0.false in
    let obeyed = c.obey_lines in
    lines_behind job args.rows.now read args.run.now holds none_yet _ _ next _ (c.obey_header.ensures job sized) c.in_ok-obey_header.was
    obeyed.new.rows _ (rw take_rest at (obeyed.ensures job holds))
