-- What the code that reads a text tells of it, part by part.
use Rattle.refusal.specs.declared.Refusal.{Refusal}
use Rattle.refusal.specs.declared.Refusal.TheVariants.{Malformed}
use Rattle.refusal.specs.Numbers.{place_of}
use Rattle.std.specs.Prelude.{◌≡◌, Bool, true, false, cond, ◌&&◌, ℕ, ◌+◌, ◌-◌, ◌*◌, ◌≤◌, eqb, length, get_or, take, replicate, None, Option, Result, Some, Ok, Err}
use mathlib.Core.List.{List, [], ◌∷◌, ◌++◌, map, flat_map}
use Rattle.lists.specs.Written.{written_at}
use Rattle.entities.specs.Limits.{row_width}
use Rattle.fields.specs.Texts.{spelt}
use Rattle.fields.specs.Decimal.{value}
use Rattle.fields.specs.Lines.{lines, kept_of}
use Rattle.fields.specs.Fields.{fields}
use Rattle.fields.specs.code.Reading.{fields_behind, says_numbers}
use Rattle.terms_text.specs.declared.Given.{Given}
use Rattle.terms_text.specs.Input.{modes_line, term_line, formed_from, term_row, Said, given, malformed}

-- The first line's number, where it says one.
unfoldable pub modes_said : List ℕ → Option ℕ
modes_said line = cond (modes_line (fields line)) (Some (value (get_or (fields line) 1 []))) None

-- The word of a term's line, and a tab.
abbrev pub term_opening : List ℕ
term_opening = spelt "term\t"

-- A line read as a term of so many indices: whether it is that, and if so that the row says them.
pub record IndicesRead (line : List ℕ) (count : ℕ) (after : List ℕ) (r : Bool) : Type 0 where
  pub good : r ≡ says_numbers term_opening count line
  pub row : r ≡ true → after ≡ count ∷ (map value (fields_behind term_opening line) ++ replicate (7 - count) 0)

-- A line read as a term, into a row.
pub record TermRead (line after : List ℕ) (r : Bool) : Type 0 where
  pub good : r ≡ term_line (fields line)
  pub row : r ≡ true → after ≡ term_row line

-- The same, into a place among many rows.
pub record TermPut (line : List ℕ) (place : ℕ) (before after : List ℕ) (r : Bool) : Type 0 where
  pub good : r ≡ term_line (fields line)
  pub row : r ≡ true → after ≡ written_at place (term_row line) before

-- The lines behind the first are all terms, at most so many, and nothing stands behind them.
unfoldable pub all_terms : ℕ → List ℕ → Bool
all_terms most text = eqb (formed_from most 1 (lines text)) (length (lines text)) && eqb (length (kept_of text)) (length text)

-- The lines behind the first are terms, at most as many as there may be, and their rows stand in front.
pub record AllTerms (most : ℕ) (text numbers : List ℕ) (count : ℕ) : Type 0 where
  pub whole : all_terms most text ≡ true
  pub formed : count ≡ formed_from most 1 (lines text)
  pub few : count ≤ most
  pub rows : take (row_width * count) numbers ≡ flat_map term_row (lines text)

-- The lines behind the first read as terms, or refused at the first that isn't a term, or behind the last.
abbrev pub TermsRead : ℕ → List ℕ → List ℕ → Result ℕ Refusal → Type 0
TermsRead most text numbers (Ok count) = AllTerms most text numbers count
TermsRead most text numbers (Err why) = (all_terms most text ≡ false) × (why ≡ Malformed (formed_from most 1 (lines text) + 1))

-- Modes and terms are read, at most as many terms as there may be, and their rows stand in front.
pub record GivenRead (most : ℕ) (meant : Said) (numbers : List ℕ) (read : Given) : Type 0 where
  pub says : meant ≡ given read.modes (take (row_width * read.count) numbers)
  pub few : read.count ≤ most

-- A text read: the answer says what the text says.
abbrev pub Reads : ℕ → Said → List ℕ → Result Given Refusal → Type 0
Reads most meant numbers (Ok read) = GivenRead most meant numbers read
Reads most meant numbers (Err why) = (why ≡ Malformed (place_of why)) × (meant ≡ malformed (place_of why))
