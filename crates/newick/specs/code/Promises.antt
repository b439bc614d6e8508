-- What the functions of the reader tell one another.
use Rattle.std.specs.Prelude.{◌≡◌, Bool, true, ◌&&◌, List, map, ℕ, ◌+◌, ◌-◌, ◌*◌, ◌≤◌, leb, length, take, Result, Ok, Err}
use Rattle.lists.specs.Members.{every}
use Rattle.refusal.specs.declared.Refusal.{Refusal}
use Rattle.refusal.specs.declared.Refusal.TheVariants.{NewickForm, TooManyNodes}
use Rattle.fields.specs.Decimal.{is_digit, value}
use Rattle.fields.specs.code.Reading.{goes_on}
use Rattle.newick.specs.declared.reading.Child.{Child}
use Rattle.newick.specs.declared.reading.Stop.{Stop}
use Rattle.newick.specs.declared.reading.Stop.TheVariants.{Stuck, Crowded}
use Rattle.newick.specs.declared.digits.Number.{Number}
use Rattle.newick.specs.Reading.{Reading, got, stuck, crowded, number_digits}
use Rattle.newick.specs.Names.{in_range, code_of}

-- Another digit may follow so many digits of this value.
unfoldable pub may_follow : ℕ → ℕ → ℕ → Bool
may_follow count so_far byte = is_digit byte && (goes_on count so_far && leb (10 * so_far + (byte - 48)) 65535)

-- A number was read at a place: its value, and the place behind its digits.
pub record NumberRead (text : List ℕ) (at : ℕ) (r : Number) : Type 0 where
  pub says : r.value ≡ value (number_digits text at)
  pub behind : r.end ≡ at + length (number_digits text at)
  pub small : r.value ≤ 65535
  pub within : r.end ≤ length text

-- Where reading stops, as the meaning says it, and as the call's refusal does.
unfoldable pub stopped : Stop → Reading
stopped (Stuck place) = stuck place
stopped (Crowded place) = crowded place

abbrev pub refused_at : Stop → Refusal
refused_at (Stuck place) = NewickForm place
refused_at (Crowded place) = TooManyNodes place

-- What a part says beside the numbers in which the closed nodes stand.
unfoldable pub meant : Result Child Stop → List ℕ → Reading
meant (Ok child) numbers = got child.name (take (4 * child.closed) numbers) child.end
meant (Err stop) numbers = stopped stop

-- The place of a part, and how many nodes were closed when it was read.
unfoldable pub place_of : Stop → ℕ
place_of (Stuck place) = place
place_of (Crowded place) = place

unfoldable pub end_of : Result Child Stop → ℕ
end_of (Ok child) = child.end
end_of (Err stop) = place_of stop

unfoldable pub closed_of : Result Child Stop → ℕ
closed_of (Ok child) = child.closed
closed_of (Err stop) = 0

-- Names were coded: whether all are in range, and if so as which codes.
pub record Coded (modes : ℕ) (names after : List ℕ) (r : Bool) : Type 0 where
  pub good : r ≡ every (in_range modes) names
  pub codes : r ≡ true → after ≡ map (code_of modes) names

-- A part was read: it says what was to be read, ends within the text, and closed no more nodes than may stand.
pub record Reads (reading : Reading) (text numbers : List ℕ) (height : ℕ) (r : Result Child Stop) : Type 0 where
  pub says : meant r numbers ≡ reading
  pub within : end_of r ≤ length text
  pub few : closed_of r ≤ height
