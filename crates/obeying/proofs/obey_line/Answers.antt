-- The merge of a line that was judged good is ready to be made.
use Rattle.refusal.proofs.Told.{handed_on}
use Rattle.obeying.proofs.LineObeyed.{line_refused, line_ready, line_made}
use Rattle.obeying.proofs.obey_line.Goals as goal

pub merged-requires : goal.merged-requires
merged-requires c =
    let args = c.args in
    let job = c.requires.0 in
    let holds = c.requires.1 in
    let judged = rw c.in_ok-said.was at (c.judge_line.ensures job holds) in
    (job, rw c.from.ensures (line_ready job args.rows.now args.run.now holds args.by_hand args.bytes.now _ judged))

pub returns : goal.returns
returns c job holds =
    let args = c.args in
    let rows = args.rows.now in
    let run = args.run.now in
    let judged = rw c.in_ok-said.was at (c.judge_line.ensures job holds) in
    let ready = line_ready job rows run holds args.by_hand args.bytes.now _ judged in
    let merged = c.merged in
    line_made job rows run holds args.by_hand args.bytes.now _ judged merged.result _
    (merged.ensures job (rw c.from.ensures ready))

pub returns-in_err-said : goal.returns-in_err-said
returns-in_err-said c job holds =
    let args = c.args in
    let judged = rw c.in_err-said.was at (c.judge_line.ensures job holds) in
    rw (handed_on c.from_residual.ensures)
    (line_refused job args.rows.now args.run.now holds args.by_hand args.bytes.now _ judged)
