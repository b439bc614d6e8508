-- What a row of the input becomes under the merges so far, and where it is found: rows keep their places.
use Rattle.std.specs.Prelude.{◌≡◌, List, [], ◌∷◌, ◌⊎◌, ℕ, ◌<◌, length, get_or}
use Rattle.entities.specs.declared.Triple.{Triple}
use Rattle.terms.specs.Job.{Job}
use Rattle.reduction.specs.Reduction.{rewriting}
use Rattle.history.specs.History.{next_parent, rows_after}

-- "each of the three numbers becomes the parent, multiplicity kept, the row sorted", merge after merge.
unfoldable pub image : ℕ → List Triple → List ℕ → List ℕ
image modes [] term = term
image modes (merge ∷ history) term = rewriting merge (next_parent modes history) (image modes history term)

-- At each place stands the empty term, where the row was dropped or merged, or the image of the input row of that place.
abbrev pub ImageOrGone : Job → List Triple → Type 0
ImageOrGone job history =
    (place : ℕ) → place < length job.terms
    → (get_or (rows_after job history) place [] ≡ [])
    ⊎ (get_or (rows_after job history) place [] ≡ image job.modes history (get_or job.terms place []))
