-- The numbers of merges put over the front of others, merge by merge.
use mathlib.Core.Path.{◌≡◌, ap, ◌∙◌, sym}
use mathlib.Core.List.{List, [], ◌∷◌, reverse}
use Prim.Native.Nat.{ℕ, ◌+◌, ◌*◌, ◌<◌}
use native.Mathlib.Numerals.{add-one}
use native.Mathlib.Omega.{arith}
use lib.ListN.{length, get_or, take}
use lib.Seq.{take-suc, length-take-le}
use Rattle.std.proofs.lemmas.List.{length-reverse}
use Rattle.lists.specs.Written.{written_at}
use Rattle.lists.proofs.Behind.{front_behind, nothing_written}
use Rattle.entities.specs.declared.Triple.{Triple}
use Rattle.best.specs.Call.{sequence_numbers}
use Rattle.best.proofs.MergesKept.{newest_first, length_numbers}

abbrev pub NumbersPut : List Triple → List ℕ → List ℕ → ℕ → Type 0
NumbersPut merges before after step = after ≡ written_at 0 (sequence_numbers (reverse (take step merges))) before

pub numbers_start : (merges : List Triple) (before : List ℕ) → NumbersPut merges before before 0
unfolding sequence_numbers
numbers_start merges before = sym (nothing_written 0 before)

pub numbers_next : (merges : List Triple) (before after : List ℕ) (step : ℕ) (merge none : Triple) → NumbersPut merges before after step
    → step < length merges → get_or merges step none ≡ merge
    → NumbersPut merges before (written_at (3 * step) (merge.x ∷ (merge.y ∷ (merge.z ∷ []))) after) (step + 1)
unfolding sequence_numbers
numbers_next merges before after step merge none put h e =
    let older = take step merges in
    let three : List ℕ = merge.x ∷ (merge.y ∷ (merge.z ∷ [])) in
    let front : length (sequence_numbers (reverse older)) ≡ 3 * step =
    length_numbers (reverse older) ∙ ap (λ n. 3 * n) (length-reverse older ∙ length-take-le step merges (omega arith)) in
    let more : reverse (take (step + 1) merges) ≡ merge ∷ reverse older =
    rw (add-one step, take-suc merges step none h, e) (newest_first older merge) in
    rw more (front_behind (sequence_numbers (reverse older)) three before after (3 * step) front put)
