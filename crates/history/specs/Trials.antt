-- "With n modes and k kept merge lines a run has j(j+1)(4j-1)/3, j = n-k."
use Rattle.std.specs.Prelude.{ℕ, ◌+◌, ◌-◌, ◌*◌, ◌/◌}

-- The trials of a run with j merges to come.
unfoldable pub trial_total : ℕ → ℕ
trial_total j = j * (j + 1) * (4 * j - 1) / 3
