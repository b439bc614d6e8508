-- A list in order.
use mathlib.Core.List.{List, [], ◌∷◌, Memᴰ}

-- Each element is before every later one.
abbrev pub Ascending : {A : Type 0} → (A → A → Type 0) → List A → Type 0
Ascending before [] = Unit
Ascending {A} before (a ∷ l) = ((b : A) → Memᴰ b l → before a b) × Ascending before l
