-- The bytes are copied over a part of that length.
use Rattle.std.proofs.Common.{arith, ◌+◌, ◌-◌, length}
use Rattle.lists.proofs.Written.{put_written}
use Rattle.fields.proofs.parts.put_bytes.Goals as goal

pub returns-clause-out_after : goal.returns-clause-out_after
returns-clause-out_after c =
    rw c.copy_from_slice.ensures.after
    (put_written c.args.at c.args.bytes.now c.args.out.now (c.args.at + length c.args.bytes.now - c.args.at) (omega arith))
