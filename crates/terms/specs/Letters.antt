-- "a single odd child gives its own letter, two odd children give the third letter, none or three give none."
use Rattle.std.specs.Prelude.{◌≡◌, Bool, true, false, ℕ, ◌%◌, eqb}
use Prim.Native.Char.{code}
use Rattle.terms.specs.declared.letters.Letter.{Letter}
use Rattle.terms.specs.declared.letters.Letter.TheVariants.{Nothing, X, Y, Z}

-- The letter, from whether X, Y and Z are odd.
unfoldable pub letter_of : Bool → Bool → Bool → Letter
letter_of true false false = X
letter_of false true false = Y
letter_of false false true = Z
letter_of false true true = X
letter_of true false true = Y
letter_of true true false = Z
letter_of false false false = Nothing
letter_of true true true = Nothing

-- The number is odd.
abbrev pub odd : ℕ → Bool
odd number = eqb (number % 2) 1

-- The letter, from how many there are of X, Y and Z.
unfoldable pub counted_letter : ℕ → ℕ → ℕ → Letter
counted_letter xs ys zs = letter_of (odd xs) (odd ys) (odd zs)

-- A letter as a byte: its name's, and where there is none this one.
abbrev pub letter_byte : ℕ → Letter → ℕ
letter_byte none Nothing = none
letter_byte none X = code "X"
letter_byte none Y = code "Y"
letter_byte none Z = code "Z"

-- "Weight is then "not none"".
abbrev pub not_none : Letter → ℕ
not_none Nothing = 0
not_none X = 1
not_none Y = 1
not_none Z = 1

-- All eight cases, of counts: "a single odd child gives its own letter, two odd children give the third letter, none or three give none".
pub record LetterOf (xs ys zs : ℕ) (letter : Letter) : Type 0 where
  pub x_alone : xs % 2 ≡ 1 → ys % 2 ≡ 0 → zs % 2 ≡ 0 → letter ≡ X
  pub y_alone : xs % 2 ≡ 0 → ys % 2 ≡ 1 → zs % 2 ≡ 0 → letter ≡ Y
  pub z_alone : xs % 2 ≡ 0 → ys % 2 ≡ 0 → zs % 2 ≡ 1 → letter ≡ Z
  pub y_and_z : xs % 2 ≡ 0 → ys % 2 ≡ 1 → zs % 2 ≡ 1 → letter ≡ X
  pub x_and_z : xs % 2 ≡ 1 → ys % 2 ≡ 0 → zs % 2 ≡ 1 → letter ≡ Y
  pub x_and_y : xs % 2 ≡ 1 → ys % 2 ≡ 1 → zs % 2 ≡ 0 → letter ≡ Z
  pub no_one : xs % 2 ≡ 0 → ys % 2 ≡ 0 → zs % 2 ≡ 0 → letter ≡ Nothing
  pub all_three : xs % 2 ≡ 1 → ys % 2 ≡ 1 → zs % 2 ≡ 1 → letter ≡ Nothing

abbrev pub EightCases : Type 0
EightCases = (xs ys zs : ℕ) → LetterOf xs ys zs (counted_letter xs ys zs)
