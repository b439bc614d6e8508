-- The first LF ends the line; without one there is none.
use Rattle.fields.proofs.LineSteps.{feed_found}
use Rattle.fields.proofs.lines.split_line.Goals as goal

pub returns-in_err-feed : goal.returns-in_err-feed
returns-in_err-feed c =
    let h = rw c.in_err-feed.was at (feed_found c.args.bytes.now c.first_feed.result c.first_feed.ensures) in
    rw c.from_residual.ensures h

pub returns : goal.returns
returns c =
    let h = rw c.in_ok-feed.was at (feed_found c.args.bytes.now c.first_feed.result c.first_feed.ensures) in
    rw (c.split_at.ensures.front, c.split_at.ensures.back) h.1
