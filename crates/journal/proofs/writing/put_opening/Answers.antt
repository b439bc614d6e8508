-- Each rule's bytes are its arm's.
use Rattle.obeying.specs.LineForms.{rule_word}
use Rattle.obeying.specs.code.Openings.{header_opening}
use Rattle.journal.proofs.writing.put_opening.Goals as goal

pub returns-in-Published : goal.returns-in-Published
unfolding header_opening rule_word
returns-in-Published c = rw c.in-Published.is c.put_bytes.ensures

pub returns-in-Keep : goal.returns-in-Keep
unfolding header_opening rule_word
returns-in-Keep c = rw c.in-Keep.is c.put_bytes-in-Keep.ensures
