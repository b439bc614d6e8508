-- "the header first if nothing was kept": the lines that a run writes.
use Rattle.std.specs.Prelude.{cond, ℕ, eqb, length}
use mathlib.Core.List.{List, [], ◌∷◌, ◌++◌, flat_map}
use Rattle.entities.specs.declared.Triple.{Triple}
use Rattle.terms.specs.Job.{Job}
use Rattle.history.specs.Choice.{weight_in}
use Rattle.obeying.specs.LineForms.{header_text, merge_text}

-- The line of a merge made after a history.
unfoldable pub line_of : Job → List Triple → Triple → List ℕ
line_of job history merge = merge_text (length history) merge (weight_in job history merge)

-- "the header first if nothing was kept".
unfoldable pub header_behind : Job → ℕ → List ℕ
header_behind job kept = cond (eqb kept 0) (header_text job.rule job.modes (length job.terms)) []

-- The lines of merges, the oldest first.
unfoldable pub lines_of : Job → List Triple → List (List ℕ)
lines_of job [] = []
lines_of job (merge ∷ history) = lines_of job history ++ (line_of job history merge ∷ [])

-- The journal of merges: the header and their lines.
unfoldable pub journal_text : Job → List Triple → List ℕ
journal_text job history = header_text job.rule job.modes (length job.terms) ++ flat_map (λ line. line) (lines_of job history)
