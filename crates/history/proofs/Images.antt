-- A row keeps its place: at each stands the empty term, or the image of the input row of that place.
use mathlib.Core.Path.{◌≡◌, refl, ap, ◌∙◌}
use mathlib.Core.List.{List, [], ◌∷◌}
use mathlib.Core.Logic.{inl, inr, ⊎_elim}
use Prim.Native.Nat.{ℕ}
use native.Mathlib.Omega.{arith}
use Rattle.entities.specs.declared.Triple.{Triple}
use Rattle.terms.specs.Job.{Job}
use Rattle.reduction.specs.Reduction.{sorted, rewriting}
use Rattle.reduction.proofs.ByPlace.{reduced_at}
use Rattle.history.specs.History.{next_parent, rows_after}
use Rattle.history.specs.Images.{image, ImageOrGone}
use Rattle.history.proofs.RowsAfter.{length_rows_after}

gone_stays : (merge : Triple) (parent : ℕ) → rewriting merge parent [] ≡ []
unfolding rewriting sorted
gone_stays merge parent = refl

pub image_or_gone : (job : Job) (history : List Triple) → ImageOrGone job history
unfolding rows_after image
image_or_gone job [] place h = inr refl
image_or_gone job (merge ∷ history) place h =
    let rewrite = rewriting merge (next_parent job.modes history) in
    let inside = reduced_at job.rule merge (next_parent job.modes history) (rows_after job history) place (omega (arith, length_rows_after job history)) in
    ⊎_elim
    (λ gone. inl gone)
    (λ here.
    ⊎_elim
    (λ was_gone. inl (here ∙ ap rewrite was_gone ∙ gone_stays merge (next_parent job.modes history)))
    (λ was_there. inr (here ∙ ap rewrite was_there))
    (image_or_gone job history place h))
    inside
