-- The number's bytes, the low one first, are copied over a part of that length.
use Rattle.std.proofs.Common.{◌≡◌, ◌+◌, ◌-◌, ◌/◌, ◌%◌, ◌∷◌, [], arith}
use Rattle.lists.proofs.Written.{put_written}
use Rattle.call_bytes.proofs.words.put_word.Goals as goal

pub returns : goal.returns
returns c =
    let number = c.args.number in
    let high : number / 256 % 256 ≡ number / 256 = omega arith in
    rw (c.copy_from_slice.ensures.after, c.to_le_bytes.ensures, high)
    (put_written c.args.at (number % 256 ∷ (number / 256 ∷ [])) c.args.out.now (c.args.at + 2 - c.args.at) (omega arith))
