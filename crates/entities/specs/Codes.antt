-- "A child code is 0..n-1 for a node, n..3n-1 for leaf code minus n, or 65535 for the one absent child."
use Rattle.std.specs.Prelude.{cond, ℕ, ◌+◌, ◌-◌, ◌*◌, eqb, ltb}

-- "or 65535 for the one absent child".
abbrev pub absent : ℕ
absent = 65535

-- The code of an entity, where the absent child is the leaf `end`.
unfoldable pub child_code : ℕ → ℕ → ℕ → ℕ
child_code modes end entity =
    cond (eqb entity end) absent (cond (ltb entity (2 * modes + 1)) (entity + modes) (entity - (2 * modes + 1)))
