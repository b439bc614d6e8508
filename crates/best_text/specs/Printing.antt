-- What `best` prints for the text of terms: the least weight, how many sequences reach it, and the merges of the first, a line each; or the
-- refusal as `hatt` prints it.
use Rattle.best.specs.declared.Least.{Least}
use Rattle.refusal.specs.declared.Refusal.{Refusal}
use Rattle.std.specs.Prelude.{◌≡◌, List, [], ◌∷◌, ◌++◌, map, ℕ, ◌*◌, ◌≤◌, Err, Result, Some, Ok}
use Rattle.refusal.specs.declared.Refusal.TheVariants.{Malformed, Room}
use Rattle.entities.specs.declared.Triple.{Triple}
use Rattle.fields.specs.Texts.{spelt}
use Rattle.fields.specs.Decimal.{decimal}
use Rattle.terms.specs.Job.{Job}
use Rattle.obeying.specs.Obeying.{completed, merge_by_hand}
use Rattle.best.specs.computed.Lightest.{lightest}
use Rattle.best.specs.Call.{terms_given, best_found}
use Rattle.terms_text.specs.Input.{Said, given, malformed, said}
use Rattle.text.specs.Output.{line_of, refusal_text}

-- A merge: x, y and z, as `steer` takes a merge by hand.
unfoldable pub merge_line : Triple → List ℕ
merge_line merge = line_of (map decimal (merge.x ∷ (merge.y ∷ (merge.z ∷ []))))

-- A sequence's merges, the oldest first.
unfoldable pub merge_lines : List Triple → List ℕ
merge_lines [] = []
merge_lines (merge ∷ history) = merge_lines history ++ merge_line merge

unfoldable pub found_text : ℕ → ℕ → List Triple → List ℕ
found_text weight reached first =
    line_of (spelt "least" ∷ (decimal weight ∷ [])) ++ (line_of (spelt "reached" ∷ (decimal reached ∷ [])) ++ merge_lines first)

unfoldable pub found_printed : Result Least Refusal → List Triple → List ℕ
found_printed (Ok least) first = found_text least.weight least.reached first
found_printed (Err refusal) first = refusal_text refusal

-- The best of what a text says: 18 before any other number.
unfoldable pub best_as : ℕ → ℕ → Said → List ℕ
best_as most room (given modes numbers) = found_printed (best_found most modes numbers room) (lightest modes (terms_given numbers))
best_as most room (malformed line) = refusal_text (Malformed line)

-- In room for the sequence of the most modes.
unfoldable pub best_text : ℕ → ℕ → List ℕ → List ℕ
best_text most terms bytes = best_as most (3 * most) (said terms bytes)

-- 5 is never printed: whatever the text, there is room.
abbrev pub BestSuffices : Type 0
BestSuffices = (most terms : ℕ) (bytes : List ℕ) → best_text most terms bytes ≡ refusal_text Room → ⊥

-- A merge that is printed is one that `steer` reads, after whatever merges.
abbrev pub MergesSteer : Type 0
MergesSteer =
    (job : Job) (history : List Triple) (merge : Triple) → merge.x ≤ 65535 → merge.y ≤ 65535 → merge.z ≤ 65535
    → merge_by_hand job history (merge_line merge) ≡ Some (completed job history merge)
