-- What the code that prints leaves in the lent bytes.
use Rattle.std.specs.Prelude.{◌≡◌, List, ℕ, ◌≤◌, length}
use Rattle.lists.specs.Written.{written_at}

-- An answer was put over the front, as many bytes as it has, and they fit.
pub record Puts (answer before after : List ℕ) (r : ℕ) : Type 0 where
  pub count : r ≡ length answer
  pub fits : length answer ≤ length before
  pub bytes : after ≡ written_at 0 answer before
