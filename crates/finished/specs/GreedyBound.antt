-- "where no two terms have the same surviving indices, greedy weight is at most W-203's tree weight, for both rules of W-209".
use Rattle.std.specs.Prelude.{◌≡◌, Bool, true, List, ℕ, ◌*◌, ◌≤◌, ltb, Ok}
use Rattle.lists.specs.Members.{every}
use Rattle.entities.specs.Codes.{absent}
use Rattle.entities.specs.Limits.{row_width}
use Rattle.entities.specs.declared.Triple.{Triple}
use Rattle.terms.specs.Job.{Job}
use Rattle.terms.specs.Rows.{terms_of}
use Rattle.history.specs.Run.{run_weight}
use Rattle.journal.specs.Resuming.{Ending, done, Rooms, resumed}
use Rattle.tree.specs.Laying.{laid}
use Rattle.tree_weight.specs.Weight.{listed_weight, tree_weight, tree_weighed}
use Rattle.tree_weight.specs.CountedOnce.{DifferentOperators}
use Rattle.finished.specs.Finished.{AllMerged, tree_of}

-- "Indices are below 2n".
abbrev pub indices_below : Job → Bool
indices_below job = every (every (λ index. ltb index (2 * job.modes))) job.terms

-- Where every listed row counts, nothing is asked of the terms: greedy weight only "forgets dropped and merged rows".
abbrev pub GreedyAtMostListed : Type 0
GreedyAtMostListed =
    (job : Job) (history : List Triple) → AllMerged job.modes history → indices_below job ≡ true
    → run_weight job history ≤ listed_weight job.modes (tree_of job.modes history) job.terms

-- The sentence, of all such merges.
abbrev pub GreedyAtMostTree : Type 0
GreedyAtMostTree =
    (job : Job) (history : List Triple) → AllMerged job.modes history → indices_below job ≡ true → DifferentOperators job.modes job.terms
    → run_weight job history ≤ tree_weight job.modes (tree_of job.modes history) job.terms

-- A weight is at most what `tree_weight` answers of the rows, laid out, and the terms.
pub record AtMostTree (most modes : ℕ) (rows numbers : List ℕ) (greedy : ℕ) : Type 0 where
  pub weight : ℕ
  pub weighed : tree_weighed most modes (laid modes rows) numbers ≡ Ok weight
  pub at_most : greedy ≤ weight

-- The sentence, of "HATT and every accepted resume", "for both rules".
abbrev pub EveryCallAtMostTree : Type 0
EveryCallAtMostTree =
    (rooms : Rooms) (most modes rule : ℕ) (numbers bytes : List ℕ) (part : Ending)
    → resumed rooms modes rule numbers bytes ≡ done part → modes ≤ most → 3 * modes ≤ absent
    → DifferentOperators modes (terms_of row_width part.count numbers)
    → AtMostTree most modes part.rows numbers part.weight
