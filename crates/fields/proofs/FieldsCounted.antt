-- Fields counted by their tabs.
use Rattle.std.proofs.Common.{◌≡◌, refl, Bool, true, false, cond, List, [], ◌∷◌, ◌++◌, ℕ, ◌+◌, eqb, length, arith}
use Rattle.std.specs.List.{filter}
use Rattle.fields.specs.Fields.{fields_after}

-- What a field began with is no matter.
begun_no_matter : (a b text : List ℕ) → length (fields_after a text) ≡ length (fields_after b text)
unfolding fields_after
begun_no_matter a b [] = refl
begun_no_matter a b (byte ∷ rest) = go (eqb byte 9) refl (begun_no_matter (a ++ (byte ∷ [])) (b ++ (byte ∷ [])) rest)
  where
    go : (z : Bool) → eqb byte 9 ≡ z
        → length (fields_after (a ++ (byte ∷ [])) rest) ≡ length (fields_after (b ++ (byte ∷ [])) rest)
        → length (fields_after a (byte ∷ rest)) ≡ length (fields_after b (byte ∷ rest))
    go true e on = rw e
    go false e on = rw e on

-- There is one field more than tabs.
pub fields_counted : (text : List ℕ) → length (filter (λ byte. eqb byte 9) text) + 1 ≡ length (fields_after [] text)
unfolding fields_after
fields_counted [] = refl
fields_counted (byte ∷ rest) = go (eqb byte 9) (fields_counted rest)
  where
    go : (z : Bool) → length (filter (λ byte. eqb byte 9) rest) + 1 ≡ length (fields_after [] rest)
        → length (cond z (byte ∷ filter (λ byte. eqb byte 9) rest) (filter (λ byte. eqb byte 9) rest)) + 1
        ≡ length (cond z ([] ∷ []) [] ++ fields_after (cond z [] ([] ++ (byte ∷ []))) rest)
    go true e = omega arith
    go false e = omega (arith, begun_no_matter (byte ∷ []) [] rest)
