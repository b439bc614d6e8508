-- How rows stand in the numbers that a function is lent.
use Rattle.std.specs.Prelude.{◌≡◌, List, ℕ, ◌*◌, ◌≤◌, ◌<◌, length, get_or, take, drop, replicate}
use Rattle.entities.specs.Limits.{most_terms, row_width, work_width}
use Rattle.terms.specs.Rows.{terms_of}
use Rattle.terms.specs.Counted.{counted_of, each_once, counted}

-- So many rows stand in the numbers, each row's term stands within its first eight, and a row of no term is zeros.
pub record Held (width count : ℕ) (numbers : List ℕ) : Type 0 where
  pub wide : row_width ≤ width
  pub room : width * count ≤ length numbers
  pub within : (place : ℕ) → place < count → get_or numbers (width * place) 0 < row_width
  pub zeros : (place : ℕ) → place < count → get_or numbers (width * place) 0 ≡ 0
      → take width (drop (width * place) numbers) ≡ replicate width 0

-- So many input rows, none of them without a term.
pub record Given (count : ℕ) (numbers : List ℕ) : Type 0 where
  pub held : Held row_width count numbers
  pub there : (place : ℕ) → place < count → 0 < get_or numbers (row_width * place) 0

-- So many work rows, which stand for no more input rows than there may be: so a sum of their counts fits.
pub record Worked (count : ℕ) (numbers : List ℕ) : Type 0 where
  pub held : Held work_width count numbers
  pub few : counted (counted_of count numbers) ≤ most_terms

-- The work rows of input rows that stand in other numbers, each standing for itself.
pub record Spread (count : ℕ) (numbers rows : List ℕ) : Type 0 where
  pub held : Held work_width count rows
  pub rows_are : counted_of count rows ≡ each_once (terms_of row_width count numbers)
