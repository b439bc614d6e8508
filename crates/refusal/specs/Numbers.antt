-- "Each returns its number and a place": the table of document 01, "Refusal numbers", a line for each refusal, and document 02's 19, 20 and 22.
use Rattle.std.specs.Prelude.{◌≡◌, List, ◌∷◌, ℕ, replicate}
use Rattle.refusal.specs.declared.Refusal.{Refusal}
use Rattle.refusal.specs.declared.Refusal.TheVariants.{
  Modes,
  TermNumbers,
  TooManyTerms,
  BadRow,
  Room,
  LineForm,
  Header,
  StepNotNext,
  ChildNotOpen,
  NotLawful,
  WeightUntrue,
  LineAfterLast,
  TreeLength,
  ChildCode,
  NotOneTree,
  WrongPair,
  Heuristic,
  Malformed,
  NewickForm,
  Rule,
  TooManyToTry,
  TooManyNodes,
}

-- The table: its columns "No." and "Place".
abbrev pub table : Refusal → ℕ × ℕ
table Modes = (1, 0)
table TermNumbers = (2, 0)
table TooManyTerms = (3, 0)
table (BadRow row) = (4, row)
table Room = (5, 0)
table (LineForm line) = (6, line)
table Header = (7, 0)
table (StepNotNext line) = (8, line)
table (ChildNotOpen line) = (9, line)
table (NotLawful line) = (10, line)
table (WeightUntrue line) = (11, line)
table (LineAfterLast line) = (12, line)
table TreeLength = (13, 0)
table (ChildCode index) = (14, index)
table NotOneTree = (15, 0)
table (WrongPair pair) = (16, pair)
table Heuristic = (17, 0)
table (Malformed line) = (18, line)
table (NewickForm byte) = (19, byte)
table Rule = (20, 0)
table TooManyToTry = (22, 0)
table (TooManyNodes byte) = (1, byte)

abbrev pub number_of : Refusal → ℕ
number_of refusal = (table refusal).0

abbrev pub place_of : Refusal → ℕ
place_of refusal = (table refusal).1

-- "Each returns its number and a place, zeros elsewhere": the numbers of a refused answer, with so many others.
unfoldable pub refused_numbers : ℕ → Refusal → List ℕ
refused_numbers others refusal = number_of refusal ∷ (place_of refusal ∷ replicate others 0)

-- The numbers of an answer that isn't refused: no refusal, no place, and the others.
unfoldable pub done_numbers : List ℕ → List ℕ
done_numbers others = 0 ∷ (0 ∷ others)

-- What a call answers is what was meant, and so are the numbers of the answer.
pub record Tells {Answer : Type 0} (numbers_of : Answer → List ℕ) (meant r : Answer) : Type 0 where
  pub answer : r ≡ meant
  pub numbers : numbers_of r ≡ numbers_of meant
