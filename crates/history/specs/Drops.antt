-- "A finished run returns, for each step, the sum of the counts of the rows dropped there …. At any step the live counts and the drops so far add up to T, with both read off the history of reductions."
use Rattle.std.specs.Prelude.{◌≡◌, true, List, [], ◌∷◌, ◌++◌, ℕ, ◌+◌, ◌*◌, ◌≤◌, eqb, ltb, length, replicate}
use Rattle.lists.specs.Counting.{sum}
use Rattle.lists.specs.Members.{every, keep}
use Rattle.entities.specs.declared.Triple.{Triple}
use Rattle.terms.specs.declared.rules.Rule.TheVariants.{Published, Keep}
use Rattle.terms.specs.Counted.{Row, each_once, terms_in, counted}
use Rattle.terms.specs.Job.{Job}
use Rattle.reduction.specs.Reduction.{is_there}
use Rattle.reduction.specs.Counts.{counted_reduction, dropped_count}
use Rattle.history.specs.History.{next_parent, rows_after}
use Rattle.history.specs.Lawful.{LawfulHistory}

-- The rows after a history with their counts, each at first standing for itself.
unfoldable pub counted_after : Job → List Triple → List Row
counted_after job [] = each_once job.terms
counted_after job (merge ∷ history) =
    counted_reduction job.rule merge (next_parent job.modes history) (counted_after job history)

-- "the sum of the counts of the rows dropped there": by this merge after a history.
unfoldable pub drop_in : Job → List Triple → Triple → ℕ
drop_in job history merge = dropped_count job.rule merge (next_parent job.modes history) (counted_after job history)

-- "for each step": the drops of a history's merges, the oldest first.
unfoldable pub drops : Job → List Triple → List ℕ
drops job [] = []
drops job (merge ∷ history) = drops job history ++ (drop_in job history merge ∷ [])

-- The counts change no row.
abbrev pub SameRows : Type 0
SameRows = (job : Job) (history : List Triple) → terms_in (counted_after job history) ≡ rows_after job history

-- "At any step the live counts and the drops so far add up to T": of any history, a row that is gone standing for nothing.
abbrev pub AddUp : Type 0
AddUp = (job : Job) (history : List Triple) → counted (counted_after job history) + sum (drops job history) ≡ length job.terms

-- "the live counts" are all of them, since a row that is gone stands for nothing: of terms that aren't empty, as the check has them.
abbrev pub LiveAddUp : Type 0
LiveAddUp =
    (job : Job) (history : List Triple) → every is_there job.terms ≡ true
    → counted (keep (λ row. is_there row.term) (counted_after job history)) + sum (drops job history) ≡ length job.terms

-- A job's n lawful merges, its indices below 2n as the check has them.
pub record AllSteps (job : Job) (history : List Triple) : Type 0 where
  pub lawful : LawfulHistory job.modes history
  pub all : length history ≡ job.modes
  pub some_modes : 1 ≤ job.modes
  pub indices : every (every (λ index. ltb index (2 * job.modes))) job.terms ≡ true

-- After the last step nothing but the root is left of any row, by either rule.
abbrev pub OnlyTheRoot : Type 0
OnlyTheRoot =
    (job : Job) (history : List Triple) → AllSteps job history
    → every (every (λ number. eqb number (3 * job.modes))) (rows_after job history) ≡ true

-- So by the published rule no row is left, and all the drops are the T terms;
abbrev pub NoneIsLeft : Type 0
NoneIsLeft =
    (job : Job) (history : List Triple) → AllSteps job history → job.rule ≡ Published
    → (counted (counted_after job history) ≡ 0) × (sum (drops job history) ≡ length job.terms)

-- and by the keeping rule nothing is ever dropped, and what is left stands for the T terms.
abbrev pub NoneIsDropped : Type 0
NoneIsDropped =
    (job : Job) (history : List Triple) → job.rule ≡ Keep
    → (drops job history ≡ replicate (length history) 0) × (counted (counted_after job history) ≡ length job.terms)
