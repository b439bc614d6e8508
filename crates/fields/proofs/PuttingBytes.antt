-- A number put with a byte behind it.
use mathlib.Core.Path.{◌≡◌}
use mathlib.Core.List.{List, [], ◌∷◌, ◌++◌}
use Prim.Native.Nat.{ℕ, ◌+◌}
use lib.ListN.{length}
use Rattle.lists.specs.Written.{written_at}
use Rattle.lists.proofs.Behind.{Wrote, field_wrote}
use Rattle.fields.specs.Decimal.{decimal}

-- A number and the byte behind it.
abbrev pub field : ℕ → ℕ → List ℕ
field number mark = decimal number ++ (mark ∷ [])

-- What putting a field leaves.
abbrev pub Put : List ℕ → ℕ → ℕ → ℕ → List ℕ → ℕ → Type 0
Put out at number mark out' at' = (at' ≡ at + (length (decimal number) + 1)) × (out' ≡ written_at at (field number mark) out)

pub put_wrote : {out out' : List ℕ} {at at' : ℕ} (number mark : ℕ) → Put out at number mark out' at' → Wrote at (field number mark) out out' at'
put_wrote number mark put = field_wrote (decimal number) mark put.0 put.1
