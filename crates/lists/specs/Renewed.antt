-- A list renewed from its front on, each element by what stands before it then.
use Rattle.std.specs.Prelude.{List, [], ◌∷◌, ◌++◌}

-- The elements behind those renewed already, each by a rule that sees what stands before it then.
unfoldable pub renewed_after : {A : Type 0} → (List A → A → A) → List A → List A → List A
renewed_after rule front [] = []
renewed_after rule front (a ∷ l) = rule front a ∷ renewed_after rule (front ++ (rule front a ∷ [])) l

-- All elements.
unfoldable pub renewed : {A : Type 0} → (List A → A → A) → List A → List A
renewed rule l = renewed_after rule [] l
