-- Reading that halts with a text, short of what it was to read: where a child, the byte behind it and what follows them does.
use mathlib.Core.Path.{◌≡◌, refl, ap}
use mathlib.Core.List.{List}
use mathlib.Core.Logic.{⊎_elim}
use Prim.Native.Nat.{ℕ, suc}
use lib.ListN.{length}
use Rattle.newick.specs.Reading.{Reading, got, stuck, crowded, follows, byte_at, marked}
use Rattle.newick.proofs.ReadingParts.{expected_either}

-- It is stuck at the text's end, or the last byte is a `(` that is one too many.
unfoldable pub Halts : List ℕ → Reading → Type 0
Halts text (got name rows at) = ⊥
Halts text (stuck place) = place ≡ length text
Halts text (crowded place) = suc place ≡ length text

-- In the child, behind it or further on.
pub data MarkHalts (byte : ℕ) (text : List ℕ) (child : Reading) (next : ℕ → List ℕ → ℕ → Reading) : Type 0 where
  child_halts : Halts text child → MarkHalts byte text child next
  mark_lacks : (name : ℕ) (rows : List ℕ) → child ≡ got name rows (length text) → MarkHalts byte text child next
  behind_halts : (name : ℕ) (rows : List ℕ) (end : ℕ) → child ≡ got name rows end → byte_at text end ≡ byte → Halts text (next name rows (suc end))
      → MarkHalts byte text child next

pub mark_halts : (byte : ℕ) (text : List ℕ) (child : Reading) (next : ℕ → List ℕ → ℕ → Reading)
    → Halts text (follows (marked byte text child) next) → MarkHalts byte text child next
unfolding follows marked Halts
mark_halts byte text (got name rows end) next h =
    ⊎_elim (λ r. behind_halts name rows end refl r.0 (rw r.1 at h))
    (λ r. mark_lacks name rows (ap (λ place. got name rows place) (rw r.1 at h)))
    (expected_either byte text end (got name rows (suc end)))
mark_halts byte text (stuck p) next h = child_halts h
mark_halts byte text (crowded p) next h = child_halts h
