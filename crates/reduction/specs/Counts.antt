-- "Each work row gets a ninth number, the count of input rows merged into it": reduction with the rows' counts.
use Rattle.std.specs.Prelude.{◌≡◌, cond, List, [], ◌∷◌, ◌++◌, map, ℕ, ◌+◌}
use Rattle.lists.specs.Members.{keep, some_of, alike}
use Rattle.entities.specs.declared.Triple.{Triple}
use Rattle.terms.specs.declared.rules.Rule.{Rule}
use Rattle.terms.specs.Counted.{Row, terms_in, counted}
use Rattle.reduction.specs.Reduction.{rewriting, dropped, reduction}

-- A row that was dropped or merged stands for nothing.
unfoldable pub gone : Row
gone = record { term = []; count = 0 }

-- A count added to that of the first row with this term.
unfoldable pub added : ℕ → List ℕ → List Row → List Row
added more term [] = []
added more term (row ∷ rows) =
    cond (alike term row.term) (record { term = row.term; count = row.count + more } ∷ rows) (row ∷ added more term rows)

-- A row put behind those before it: it is dropped, or merged into the first that is equal to it, or stays.
unfoldable pub put_behind : Rule → ℕ → List Row → Row → List Row
put_behind rule parent before row =
    cond (dropped rule parent row.term) (before ++ (gone ∷ []))
    (cond (some_of (alike row.term) (terms_in before)) (added row.count row.term before ++ (gone ∷ []))
    (before ++ (row ∷ [])))

-- Its three numbers become the parent; its count stays.
unfoldable pub rewritten : Triple → ℕ → Row → Row
rewritten triple parent row = record { term = rewriting triple parent row.term; count = row.count }

-- The rows behind those reduced already.
unfoldable pub reduced_behind : Rule → Triple → ℕ → List Row → List Row → List Row
reduced_behind rule triple parent before [] = before
reduced_behind rule triple parent before (row ∷ rows) =
    reduced_behind rule triple parent (put_behind rule parent before (rewritten triple parent row)) rows

-- Every row reduced, each where it stands, with its count.
unfoldable pub counted_reduction : Rule → Triple → ℕ → List Row → List Row
counted_reduction rule triple parent rows = reduced_behind rule triple parent [] rows

-- "the sum of the counts of the rows dropped there".
unfoldable pub dropped_count : Rule → Triple → ℕ → List Row → ℕ
dropped_count rule triple parent rows =
    counted (keep (λ row. dropped rule parent row.term) (map (rewritten triple parent) rows))

-- The counts change no row: the terms are those of document 01's reduction.
abbrev pub CountsChangeNoRow : Type 0
CountsChangeNoRow =
    (rule : Rule) (triple : Triple) (parent : ℕ) (rows : List Row)
    → terms_in (counted_reduction rule triple parent rows) ≡ reduction rule triple parent (terms_in rows)

-- What the rows stand for and what was dropped is what they stood for.
abbrev pub ReductionAddsUp : Type 0
ReductionAddsUp =
    (rule : Rule) (triple : Triple) (parent : ℕ) (rows : List Row)
    → counted (counted_reduction rule triple parent rows) + dropped_count rule triple parent rows ≡ counted rows
