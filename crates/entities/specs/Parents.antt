-- "Leaves are 0..2n, parents 2n+1..3n."
use Rattle.std.specs.Prelude.{ℕ, ◌+◌, ◌*◌}

-- "Its parent is 2n+1+i": the entity that is the node with this label.
abbrev pub parent_number : ℕ → ℕ → ℕ
parent_number modes node = 2 * modes + 1 + node
