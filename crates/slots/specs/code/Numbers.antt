-- What the code reads off the number that a slot stands as.
use Rattle.std.specs.Prelude.{Bool, not, ◌&&◌, ℕ, ◌+◌, ◌-◌, ◌*◌, eqb, ltb}

-- The number is an unfixed leaf's: it is behind all others.
unfoldable pub number_unfixed : ℕ → ℕ → Bool
number_unfixed modes number = ltb (3 * modes) number

-- The number is a fixed leaf's or a child's.
unfoldable pub number_fixed : ℕ → ℕ → Bool
number_fixed modes number = not (number_unfixed modes number) && not (eqb number (2 * modes))

-- The leaf that an unfixed leaf of this number takes of a mode.
unfoldable pub number_leaf : ℕ → ℕ → ℕ → ℕ
number_leaf modes number mode = 2 * mode + (number - (3 * modes + 1))
