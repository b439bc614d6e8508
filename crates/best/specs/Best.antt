-- "the least tree weight, the first sequence reaching it and how many reach it. No lawful sequence is lighter".
use Rattle.std.specs.Prelude.{◌≡◌, List, ◌⊎◌, ℕ, ◌*◌, ◌≤◌, eqb, length}
use Rattle.lists.specs.Members.{keep}
use Rattle.entities.specs.Codes.{absent}
use Rattle.entities.specs.Limits.{row_width}
use Rattle.entities.specs.declared.Triple.{Triple}
use Rattle.terms.specs.Rows.{terms_of}
use Rattle.history.specs.Lawful.{LawfulHistory}
use Rattle.journal.specs.Resuming.{Ending, done, Rooms, resumed}
use Rattle.tree_weight.specs.Weight.{tree_weight}
use Rattle.finished.specs.Finished.{tree_of}
use Rattle.finished.specs.GreedyBound.{AtMostTree}
use Rattle.best.specs.Sequences.{Earlier, sequences}

-- "tree weight" of a sequence: W-203's, of the tree that its merges end in.
unfoldable pub sequence_weight : ℕ → List (List ℕ) → List Triple → ℕ
sequence_weight modes terms history = tree_weight modes (tree_of modes history) terms

-- The sentence, a field a fact; "The count is that of the definition's list."
pub record Best (modes : ℕ) (terms : List (List ℕ)) (least : ℕ) (first : List Triple) (reached : ℕ) : Type 0 where
  pub lawful : LawfulHistory modes first
  pub all : length first ≡ modes
  pub weighs : sequence_weight modes terms first ≡ least
  pub no_lighter : (other : List Triple) → LawfulHistory modes other → length other ≡ modes → least ≤ sequence_weight modes terms other
  pub soonest : (other : List Triple) → LawfulHistory modes other → length other ≡ modes → sequence_weight modes terms other ≡ least
      → (other ≡ first) ⊎ Earlier first other
  pub counted : reached ≡ length (keep (λ history. eqb (sequence_weight modes terms history) least) (sequences modes))

-- The two answers are the same.
pub record SameBest (least other_least : ℕ) (first other_first : List Triple) (reached other_reached : ℕ) : Type 0 where
  pub same_least : least ≡ other_least
  pub same_first : first ≡ other_first
  pub same_reached : reached ≡ other_reached

-- Of the same modes and terms there is one best.
abbrev pub OneBest : Type 0
OneBest =
    (modes : ℕ) (terms : List (List ℕ)) (least other_least : ℕ) (first other_first : List Triple) (reached other_reached : ℕ)
    → Best modes terms least first reached → Best modes terms other_least other_first other_reached
    → SameBest least other_least first other_first reached other_reached

-- "greedy's tree is never below it": of HATT and every accepted resume, by either rule.
abbrev pub GreedyNotBelow : Type 0
GreedyNotBelow =
    (rooms : Rooms) (most modes rule : ℕ) (numbers bytes : List ℕ) (part : Ending)
    → resumed rooms modes rule numbers bytes ≡ done part → modes ≤ most → 3 * modes ≤ absent
    → (least : ℕ) (first : List Triple) (reached : ℕ) → Best modes (terms_of row_width part.count numbers) least first reached
    → AtMostTree most modes part.rows numbers least
