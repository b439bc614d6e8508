-- A part written over a list.
use Rattle.std.specs.Prelude.{List, ◌++◌, ℕ, ◌+◌, length, take, drop}

-- The list with a part written over it from a place on.
unfoldable pub written_at : {A : Type 0} → ℕ → List A → List A → List A
written_at place part s = take place s ++ (part ++ drop (place + length part) s)
