-- Bytes that are no rows, bytes of too many rows, and bytes that are read.
use native.Mathlib.Omega.{arith}
use Rattle.call_bytes.proofs.TermsSame.{read_odd, read_few, read_all}
use Rattle.call_bytes.proofs.term_bytes.read_terms.Goals as goal

pub returns-then-bytes-ne0 : goal.returns-then-bytes-ne0
returns-then-bytes-ne0 c =
    let args = c.args in
    read_odd args.bytes.now args.numbers.now c.if-bytes-ne0.true (omega arith)

pub returns-then-numbers-count : goal.returns-then-numbers-count
returns-then-numbers-count c =
    read_few c.args.bytes.now c.args.numbers.now c.if-bytes-ne0.false c.requires c.if-numbers-count.true

pub returns : goal.returns
returns c =
    let args = c.args in
    read_all args.bytes.now args.numbers.now c.if-bytes-ne0.false _ _ c.read_words.ensures (omega arith)
