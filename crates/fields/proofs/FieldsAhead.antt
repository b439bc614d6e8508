-- A text's fields are its first field and those behind the tab that ends it.
use mathlib.Core.Path.{◌≡◌, refl}
use mathlib.Core.Bool.{Bool, true, false, cond}
use mathlib.Core.List.{List, [], ◌∷◌, ◌++◌, append_assoc, append-nil}
use Prim.Native.Nat.{ℕ, suc, ◌<◌, ◌≤◌}
use native.Mathlib.Omega.{arith}
use borrow.Author.Tests.{ltb-true, ltb-false}
use lib.Dec.{eqb, ltb}
use lib.ListN.{length, drop}
use Rattle.fields.specs.Fields.{fields_after}
use Rattle.fields.specs.code.Reading.{first_field}

pub first_short : (text : List ℕ) → length (first_field text) ≤ length text
unfolding first_field
first_short [] = omega arith
first_short (byte ∷ rest) = go (eqb byte 9) (first_short rest)
  where
    go : (z : Bool) → length (first_field rest) ≤ length rest → length {A = ℕ} (cond z [] (byte ∷ first_field rest)) ≤ suc (length rest)
    go true h = omega arith
    go false h = omega arith

-- No tab: the first field is all there is.
pub fields_one : (begun text : List ℕ) → length text ≤ length (first_field text) → fields_after begun text ≡ (begun ++ first_field text) ∷ []
unfolding first_field fields_after
fields_one begun [] h = rw (append-nil begun)
fields_one begun (byte ∷ rest) h = go (eqb byte 9) refl (fields_one (begun ++ (byte ∷ [])) rest)
  where
    go : (z : Bool) → eqb byte 9 ≡ z
        → (length rest ≤ length (first_field rest)
        → fields_after (begun ++ (byte ∷ [])) rest ≡ ((begun ++ (byte ∷ [])) ++ first_field rest) ∷ [])
        → fields_after begun (byte ∷ rest) ≡ (begun ++ first_field (byte ∷ rest)) ∷ []
    go true e on = absurd (omega (arith, rw e at h))
    go false e on = rw e (rw append_assoc at (on (omega (arith, rw e at h))))

-- A tab behind the first field, and more fields behind the tab.
pub fields_more : (begun text : List ℕ) → length (first_field text) < length text
    → fields_after begun text ≡ (begun ++ first_field text) ∷ fields_after [] (drop (suc (length (first_field text))) text)
unfolding first_field fields_after
fields_more begun [] h = absurd (omega arith)
fields_more begun (byte ∷ rest) h = go (eqb byte 9) refl (fields_more (begun ++ (byte ∷ [])) rest)
  where
    go : (z : Bool) → eqb byte 9 ≡ z
        → (length (first_field rest) < length rest
        → fields_after (begun ++ (byte ∷ [])) rest
        ≡ ((begun ++ (byte ∷ [])) ++ first_field rest) ∷ fields_after [] (drop (suc (length (first_field rest))) rest))
        → fields_after begun (byte ∷ rest)
        ≡ (begun ++ first_field (byte ∷ rest)) ∷ fields_after [] (drop (suc (length (first_field (byte ∷ rest)))) (byte ∷ rest))
    go true e on = rw (e, append-nil begun)
    go false e on = rw e (rw append_assoc at (on (omega (arith, rw e at h))))

-- Either way the first field comes first.
pub fields_head : (begun text : List ℕ) → fields_after begun text ≡ (begun ++ first_field text) ∷ drop 1 (fields_after begun text)
fields_head begun text = go (ltb (length (first_field text)) (length text)) refl
  where
    go : (z : Bool) → ltb (length (first_field text)) (length text) ≡ z
        → fields_after begun text ≡ (begun ++ first_field text) ∷ drop 1 (fields_after begun text)
    go true e = rw (fields_more begun text (ltb-true (length (first_field text)) (length text) e))
    go false e = rw (fields_one begun text (ltb-false (length (first_field text)) (length text) e))
