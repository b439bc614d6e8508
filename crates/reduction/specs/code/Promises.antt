-- What reduction promises of the numbers lent to it.
use Rattle.std.specs.Prelude.{◌≡◌, cond, List, ℕ, ◌+◌, ◌*◌, ◌≤◌, length, get_or, set, take, drop, replicate}
use Rattle.lists.specs.Written.{written_at}
use Rattle.entities.specs.declared.Triple.{Triple}
use Rattle.terms.specs.declared.rules.Rule.{Rule}
use Rattle.entities.specs.Limits.{row_width, work_width}
use Rattle.terms.specs.Rows.{term, terms_of}
use Rattle.terms.specs.Counted.{Row, row_of, counted_of}
use Rattle.terms.specs.code.Held.{Held}
use Rattle.reduction.specs.Reduction.{rewriting, dropped, live}
use Rattle.reduction.specs.Counts.{put_behind, rewritten, counted_reduction, dropped_count}

-- The numbers of the work row at a place, and its term.
abbrev pub row_at : ℕ → List ℕ → List ℕ
row_at place rows = take work_width (drop (work_width * place) rows)

abbrev pub term_at : ℕ → List ℕ → List ℕ
term_at place rows = term (row_at place rows)

-- A row with its term rewritten: as long as it was, the term where it was, its count as it was.
pub record Rewritten (triple : Triple) (parent : ℕ) (before after : List ℕ) : Type 0 where
  pub same_length : get_or after 0 0 ≡ get_or before 0 0
  pub new_term : term after ≡ rewriting triple parent (term before)
  pub same_count : get_or after row_width 0 ≡ get_or before row_width 0

-- The row at a place made zeros, and its count added to that of an earlier one.
unfoldable pub merged_rows : ℕ → ℕ → List ℕ → List ℕ
merged_rows place first rows =
    let cleared = written_at (work_width * place) (replicate work_width 0) rows in
    set cleared (work_width * first + row_width) (get_or cleared (work_width * first + row_width) 0 + get_or rows (work_width * place + row_width) 0)

-- What is dropped of one row: all that it stands for, or nothing.
unfoldable pub drop_of : Rule → ℕ → Row → ℕ
drop_of rule parent row = cond (dropped rule parent row.term) row.count 0

-- A row put behind the `place` rows before it: what those rows then are, what stands behind them as it was, and what was dropped.
pub record RowPut (rule : Rule) (parent place : ℕ) (row : Row) (before after : List ℕ) (drops : ℕ) : Type 0 where
  pub rows : counted_of (place + 1) after ≡ put_behind rule parent (counted_of place before) row
  pub held : Held work_width (place + 1) after
  pub same_length : length after ≡ length before
  pub rest : drop (work_width * (place + 1)) after ≡ drop (work_width * (place + 1)) before
  pub drops_are : drops ≡ drop_of rule parent row

-- One row settled beside the rows before it.
abbrev pub RowSettled : Rule → ℕ → ℕ → List ℕ → List ℕ → ℕ → Type 0
RowSettled rule parent place before after drops = RowPut rule parent place (row_of (row_at place before)) before after drops

-- One row reduced beside the rows before it.
abbrev pub RowReduced : Rule → Triple → ℕ → ℕ → List ℕ → List ℕ → ℕ → Type 0
RowReduced rule triple parent place before after drops =
    RowPut rule parent place (rewritten triple parent (row_of (row_at place before))) before after drops

-- The first `count` rows reduced where they stand, every number behind them as it was, and the counts of those dropped.
pub record Reduced (rule : Rule) (triple : Triple) (parent count : ℕ) (before after : List ℕ) (drops : ℕ) : Type 0 where
  pub rows : counted_of count after ≡ counted_reduction rule triple parent (counted_of count before)
  pub held : Held work_width count after
  pub rest : drop (work_width * count) after ≡ drop (work_width * count) before
  pub drops_are : drops ≡ dropped_count rule triple parent (counted_of count before)

-- A work row's first eight numbers put behind the first `kept` input rows, and counted with them where it is there.
pub record RowGathered (rows : List ℕ) (place kept : ℕ) (before after : List ℕ) (now_kept : ℕ) : Type 0 where
  pub put : after ≡ written_at (row_width * kept) (take row_width (drop (work_width * place) rows)) before
  pub gone : get_or rows (work_width * place) 0 ≡ 0 → now_kept ≡ kept
  pub there : (get_or rows (work_width * place) 0 ≡ 0 → ⊥) → now_kept ≡ kept + 1

-- The work rows that are there, gathered without their counts at the front of other numbers.
pub record LiveRows (count : ℕ) (rows gathered : List ℕ) (kept : ℕ) : Type 0 where
  pub terms : terms_of row_width kept gathered ≡ live (terms_of work_width count rows)
  pub held : Held row_width kept gathered
  pub at_most : kept ≤ count
