-- The bytes of the numbers passed stand at the front.
use Rattle.std.proofs.Common.{◌≡◌, take}
use Rattle.lists.specs.Written.{written_at}
use Rattle.call_bytes.specs.Bytes.{two_bytes}
use Rattle.call_bytes.proofs.words.put_words.Given as goal

abbrev pub invariant-loop-at : goal.invariant-loop-at
invariant-loop-at l = l.out ≡ written_at 0 (two_bytes (take l.at l.numbers)) l.initial.out
