-- Fields read one after the other: as numbers, and behind the opening of a line.
use Rattle.fields.specs.declared.numbers.Field.{Field}
use Rattle.std.specs.Prelude.{◌≡◌, Bool, true, cond, ◌&&◌, ◌||◌, List, [], ◌∷◌, map, ℕ, ◌+◌, ◌-◌, eqb, ltb, leb, length, take, drop, None, Option, Some}
use Rattle.lists.specs.Members.{every, alike}
use Rattle.fields.specs.Decimal.{is_number, value}
use Rattle.fields.specs.Fields.{fields_after}

-- What stands before the first tab, or all there is.
unfoldable pub first_field : List ℕ → List ℕ
first_field [] = []
first_field (byte ∷ rest) = cond (eqb byte 9) [] (byte ∷ first_field rest)

-- A field read by a test and for a value, with the place behind it.
unfoldable pub field_read : (List ℕ → Bool) → (List ℕ → ℕ) → List ℕ → ℕ → Option Field
field_read test says field end = cond (test field) (Some (record { number = says field; end = end })) None

-- The field that begins at a place, read so.
unfoldable pub field_at : (List ℕ → Bool) → (List ℕ → ℕ) → List ℕ → ℕ → Option Field
field_at test says text at = field_read test says (first_field (drop at text)) (at + length (first_field (drop at text)))

-- The same, read as a number.
abbrev pub number_at : List ℕ → ℕ → Option Field
number_at text at = field_at is_number value text at

-- Another digit may follow so many digits of this value.
unfoldable pub goes_on : ℕ → ℕ → Bool
goes_on count so_far = leb so_far 6553 && (ltb 0 so_far || eqb count 0)

-- Digits that say a number have ended.
unfoldable pub ended_at : ℕ → ℕ → ℕ → Option Field
ended_at count so_far end = cond (leb 1 count && leb so_far 65535) (Some (record { number = so_far; end = end })) None

-- So many fields, a test holding of each.
unfoldable pub fields_good : (List ℕ → Bool) → ℕ → List (List ℕ) → Bool
fields_good test count parts = eqb (length parts) count && every test parts

-- So many fields, all of them numbers.
abbrev pub numbers_good : ℕ → List (List ℕ) → Bool
numbers_good count parts = fields_good is_number count parts

-- What is known when fields were to be read into so much room: whether they are as many good ones, and if so that their values stand there.
pub record FieldsRead (test : List ℕ → Bool) (says : List ℕ → ℕ) (parts : List (List ℕ)) (room : ℕ) (after : List ℕ) (r : Bool) : Type 0 where
  pub good : r ≡ fields_good test room parts
  pub values : r ≡ true → after ≡ map says parts

-- The same of numbers.
abbrev pub NumbersRead : List (List ℕ) → ℕ → List ℕ → Bool → Type 0
NumbersRead parts room after r = FieldsRead is_number value parts room after r

-- The line, LF included, opens with these bytes.
unfoldable pub opens : List ℕ → List ℕ → Bool
opens opening line = ltb (length opening) (length line) && alike (take (length opening) line) opening

-- The fields behind an opening of as many bytes, without the line's LF.
unfoldable pub fields_behind : List ℕ → List ℕ → List (List ℕ)
fields_behind opening line = fields_after [] (take (length line - 1 - length opening) (drop (length opening) line))

-- A word, then numbers: the line opens so and says so many numbers behind it.
unfoldable pub says_numbers : List ℕ → ℕ → List ℕ → Bool
says_numbers opening count line = opens opening line && numbers_good count (fields_behind opening line)

-- What is known when a line was to be read so into so much room: whether it says as many numbers, and if so that their values stand there.
pub record LineRead (opening line : List ℕ) (room : ℕ) (after : List ℕ) (r : Bool) : Type 0 where
  pub good : r ≡ says_numbers opening room line
  pub values : r ≡ true → after ≡ map value (fields_behind opening line)

-- The numbers of so many fields, where all of them are numbers.
unfoldable pub numbers_said : ℕ → List (List ℕ) → Option (List ℕ)
numbers_said count parts = cond (numbers_good count parts) (Some (map value parts)) None

-- The numbers that a line says behind an opening, where it says so many.
unfoldable pub line_said : ℕ → List ℕ → List ℕ → Option (List ℕ)
line_said count opening line = cond (says_numbers opening count line) (Some (map value (fields_behind opening line))) None
