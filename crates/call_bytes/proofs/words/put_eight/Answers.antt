-- The number's bytes, the low one first, are copied over a part of that length.
use Rattle.std.proofs.Common.{◌+◌, ◌-◌, ◌∙◌, arith}
use Rattle.lists.proofs.Written.{put_written}
use Rattle.call_bytes.specs.Bytes.{eight_bytes}
use Rattle.call_bytes.proofs.WordSteps.{eight_is, length_eight}
use Rattle.call_bytes.proofs.words.put_eight.Goals as goal

pub returns : goal.returns
returns c =
    let bytes = eight_bytes c.args.number in
    rw (c.copy_from_slice.ensures.after ∙ c.to_le_bytes.ensures ∙ eight_is c.args.number)
    (put_written c.args.at bytes c.args.out.now (c.args.at + 8 - c.args.at) (omega (arith, length_eight c.args.number)))
