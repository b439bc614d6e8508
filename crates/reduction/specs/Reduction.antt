-- "Reducing: each of the three numbers becomes the parent, multiplicity kept, the row sorted; rows with all numbers equal to the
-- parent (a single one too) are dropped; then equal rows become one." Document 02: "a second rule that keeps such rows; equal rows still merge".
use Rattle.std.specs.Prelude.{Bool, true, false, cond, not, ◌&&◌, List, [], ◌∷◌, map, ℕ, min, max, eqb}
use Rattle.lists.specs.Members.{every, keep, some_of, alike, firsts}
use Rattle.lists.specs.Renewed.{renewed}
use Rattle.entities.specs.declared.Triple.{Triple}
use Rattle.terms.specs.declared.rules.Rule.{Rule}
use Rattle.terms.specs.declared.rules.Rule.TheVariants.{Published, Keep}

-- "each of the three numbers becomes the parent".
unfoldable pub replacement : Triple → ℕ → ℕ → ℕ
replacement triple parent number =
    cond (eqb number triple.x) parent
    (cond (eqb number triple.y) parent
    (cond (eqb number triple.z) parent number))

-- A number put into an ascending list, before the first that is larger: the smaller stays, the larger goes on.
unfoldable pub put_in : ℕ → List ℕ → List ℕ
put_in number [] = number ∷ []
put_in number (next ∷ l) = min number next ∷ put_in (max number next) l

-- "the row sorted".
unfoldable pub sorted : List ℕ → List ℕ
sorted [] = []
sorted (number ∷ l) = put_in number (sorted l)

-- "each of the three numbers becomes the parent, multiplicity kept, the row sorted".
unfoldable pub rewriting : Triple → ℕ → List ℕ → List ℕ
rewriting triple parent term = sorted (map (replacement triple parent) term)

-- "rows with all numbers equal to the parent (a single one too) are dropped" under the published rule; the second "keeps such rows".
unfoldable pub dropped : Rule → ℕ → List ℕ → Bool
dropped Published parent term = every (λ number. eqb number parent) term
dropped Keep parent term = false

-- A row's term stays where it is not dropped and none of the rows before it has it.
unfoldable pub stays : Rule → ℕ → List (List ℕ) → List ℕ → Bool
stays rule parent before term = not (dropped rule parent term) && not (some_of (alike term) before)

-- "then equal rows become one": the first of equals stays. A row that doesn't stay is the empty term at its place.
unfoldable pub settled : Rule → ℕ → List (List ℕ) → List ℕ → List ℕ
settled rule parent before term = cond (stays rule parent before term) term []

-- A row reduced, behind the rows that were reduced before it.
unfoldable pub reduced_row : Rule → Triple → ℕ → List (List ℕ) → List ℕ → List ℕ
reduced_row rule triple parent before term = settled rule parent before (rewriting triple parent term)

-- Every row reduced, each where it stands.
unfoldable pub reduction : Rule → Triple → ℕ → List (List ℕ) → List (List ℕ)
reduction rule triple parent terms = renewed (reduced_row rule triple parent) terms

-- A row that was neither dropped nor merged has a term.
unfoldable pub is_there : List ℕ → Bool
is_there [] = false
is_there (index ∷ term) = true

-- The rows that are there, without their places.
unfoldable pub live : List (List ℕ) → List (List ℕ)
live terms = keep is_there terms

-- The sentence above as it stands, of rows without places.
unfoldable pub told_reduction : Rule → Triple → ℕ → List (List ℕ) → List (List ℕ)
told_reduction rule triple parent rows =
    firsts alike (keep (λ term. not (dropped rule parent term)) (map (rewriting triple parent) rows))
