-- What the functions of the tree weight ask of one another.
use Rattle.std.specs.Prelude.{◌≡◌, true, List, map, ℕ, ◌+◌, ◌-◌, ◌*◌, ◌≤◌, ◌<◌, ltb, length, get_or, set, replicate}
use Rattle.lists.specs.Members.{every, alike, firsts}
use Rattle.lists.specs.Ranges.{ascends}
use Rattle.entities.specs.Codes.{absent}
use Rattle.entities.specs.Limits.{most_terms, row_width, work_width}
use Rattle.terms.specs.Rows.{term, terms_of}
use Rattle.terms.specs.Counted.{counted_of, counted}
use Rattle.terms.specs.code.Held.{Held}
use Rattle.terms.specs.Good.{good_term}
use Rattle.reduction.specs.Reduction.{live}
use Rattle.tree.specs.Table.{place_of_code}
use Rattle.tree_weight.specs.Operators.{surviving}
use Rattle.tree_weight.specs.Weight.{listed_weight, tree_weight}

-- The places hold the place of each code below the table's length.
pub record Places (table places : List ℕ) : Type 0 where
  pub room : length table ≤ length places
  pub each : (code : ℕ) → code < length table → get_or places code 0 ≡ place_of_code table code

-- So many rows stand in the numbers, no more than 01 takes, and their terms are good.
pub record GoodRows (modes count : ℕ) (numbers : List ℕ) : Type 0 where
  pub few : count ≤ most_terms
  pub held : Held row_width count numbers
  pub good : every (good_term (2 * modes)) (terms_of row_width count numbers) ≡ true

-- So many rows stand in the numbers, and in none does an index descend.
pub record AscendingRows (count : ℕ) (numbers : List ℕ) : Type 0 where
  pub few : count ≤ most_terms
  pub held : Held row_width count numbers
  pub ascending : every ascends (terms_of row_width count numbers) ≡ true

-- So many work rows stand in the numbers, and their indices are below 2n.
pub record RowsBelow (modes count : ℕ) (numbers : List ℕ) : Type 0 where
  pub few : count ≤ most_terms
  pub held : Held work_width count numbers
  pub below : every (every (λ index. ltb index (2 * modes))) (terms_of work_width count numbers) ≡ true

-- An index put behind the first `count` of a row, or gone with the last of them where that is the same.
pub record IndexPut (before : List ℕ) (count index : ℕ) (after : List ℕ) (now_count : ℕ) : Type 0 where
  pub cancels : 0 < count → get_or before count 0 ≡ index → (now_count ≡ count - 1) × (after ≡ before)
  pub stays : (0 < count → get_or before count 0 ≡ index → ⊥) → (now_count ≡ count + 1) × (after ≡ set before (count + 1) index)

-- The work row of a term's surviving indices, whatever its indices are below. Nobody asks how many rows have them: it counts none.
pub record SurvivingRow (given row : List ℕ) : Type 0 where
  pub whole : length row ≡ work_width
  pub within : get_or row 0 0 < row_width
  pub zeros : get_or row 0 0 ≡ 0 → row ≡ replicate work_width 0
  pub no_count : get_or row row_width 0 ≡ 0
  pub new_term : (bound : ℕ) → every (λ index. ltb index bound) given ≡ true → term row ≡ surviving bound given

-- The first rows' surviving indices, as work rows of other numbers that count none.
pub record SurvivingRows (count : ℕ) (rows own : List ℕ) : Type 0 where
  pub held : Held work_width count own
  pub no_counts : counted (counted_of count own) ≡ 0
  pub terms : (bound : ℕ) → every (every (λ index. ltb index bound)) (terms_of row_width count rows) ≡ true
      → terms_of work_width count own ≡ map (surviving bound) (terms_of row_width count rows)

-- The operators of the first rows but the empty one, as the work rows that are there of other numbers.
pub record OperatorRows (count : ℕ) (rows own : List ℕ) : Type 0 where
  pub held : Held work_width count own
  pub terms : (bound : ℕ) → bound ≤ absent → every (every (λ index. ltb index bound)) (terms_of row_width count rows) ≡ true
      → live (terms_of work_width count own) ≡ firsts alike (live (map (surviving bound) (terms_of row_width count rows)))

-- What the first `count` rows of an array of operators weigh in a tree.
unfoldable pub own_weight : ℕ → ℕ → List ℕ → List ℕ → ℕ
own_weight modes count own table = listed_weight modes table (terms_of work_width count own)

-- The array is of the operators of the first rows: its rows are below 2n, and weigh in any tree what the rows' terms weigh there.
pub record OperatorsOf (modes count : ℕ) (rows own : List ℕ) : Type 0 where
  pub whole : length own ≡ work_width * most_terms
  pub below : RowsBelow modes count own
  pub weighs : (table : List ℕ) → own_weight modes count own table ≡ tree_weight modes table (terms_of row_width count rows)
