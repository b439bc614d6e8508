-- The numbers passed are what the bytes say.
use Rattle.std.proofs.Common.{◌≡◌, take}
use Rattle.lists.specs.Ranges.{listed}
use Rattle.call_bytes.specs.Bytes.{word_at}
use Rattle.call_bytes.proofs.words.read_words.Given as goal

abbrev pub invariant-loop-at : goal.invariant-loop-at
invariant-loop-at l = take l.at l.numbers ≡ listed (word_at l.bytes) 0 l.at
