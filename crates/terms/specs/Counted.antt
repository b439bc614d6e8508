-- "Each work row gets a ninth number, the count of input rows merged into it; input rows keep eight."
use Rattle.std.specs.Prelude.{List, map, ℕ, get_or}
use Rattle.lists.specs.Counting.{sum}
use Rattle.entities.specs.Limits.{row_width, work_width}
use Rattle.terms.specs.Rows.{rows_of, term as term_of}

-- A row that is worked on: its term, and how many input rows it stands for.
pub record Row : Type 0 where
  pub term : List ℕ
  pub count : ℕ

-- A work row read off its numbers: eight as an input row has them, and the count behind them.
unfoldable pub row_of : List ℕ → Row
row_of numbers = record { term = term_of numbers; count = get_or numbers row_width 0 }

-- The first work rows of the numbers.
unfoldable pub counted_of : ℕ → List ℕ → List Row
counted_of count numbers = map row_of (rows_of work_width count numbers)

-- Before the first merge a row stands for itself alone.
unfoldable pub each_once : List (List ℕ) → List Row
each_once terms = map (λ term. record { term = term; count = 1 }) terms

-- The rows' terms.
unfoldable pub terms_in : List Row → List (List ℕ)
terms_in rows = map (λ row. row.term) rows

-- How many input rows they stand for in all.
unfoldable pub counted : List Row → ℕ
counted rows = sum (map (λ row. row.count) rows)
