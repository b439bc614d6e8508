-- The digits of what is left, before those that are written, are always the number; at the end nothing is left.
use Rattle.std.proofs.Common.{◌≡◌, ◌++◌, length, drop}
use Rattle.lists.specs.Written.{written_at}
use Rattle.fields.specs.Decimal.{digits, decimal}
use Rattle.fields.proofs.decimal.put_number.Given as goal

abbrev pub invariant-loop-place : goal.invariant-loop-place
invariant-loop-place l =
    (length (digits l.place l.left) ≡ l.place)
    × (digits l.place l.left ++ drop l.place l.out ≡ written_at 0 (decimal l.number) l.initial.out)
