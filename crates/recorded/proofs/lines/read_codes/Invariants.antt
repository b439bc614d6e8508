-- The count stays within the room.
use Rattle.std.proofs.Common.{◌≤◌, length}
use Rattle.recorded.proofs.lines.read_codes.Given as goal

abbrev pub invariant-loop-field : goal.invariant-loop-field
invariant-loop-field l = l.count ≤ length l.codes
