-- The tree table of a sequence is the codes of its numbers, one by one.
use mathlib.Core.Path.{◌≡◌, refl, ap, ◌∙◌, sym}
use mathlib.Core.List.{List, [], ◌∷◌, ◌++◌, map, append-nil}
use mathlib.Core.Logic.{⊎_elim}
use Prim.Native.Nat.{ℕ, zero, suc, ◌+◌, ◌*◌, ◌/◌, ◌%◌, ◌<◌}
use native.Mathlib.Nat.{mod-lt, div-add-mod, zero-add}
use native.Mathlib.Omega.{arith}
use lib.ListN.{length, get_or, length-map, get_or-append, drop_of_length-le, take}
use lib.Seq.{ext_get_or, get_or-append-add, take_at}
use Rattle.std.proofs.lemmas.List.{get_or-map}
use Rattle.lists.specs.Written.{written_at}
use Rattle.lists.proofs.Tests.{same_or_not}
use Rattle.entities.specs.Codes.{absent, child_code}
use Rattle.entities.specs.declared.Triple.{Triple}
use Rattle.history.specs.History.{merge_of}
use Rattle.history.proofs.Amounts.{newest_merge, older_merge}
use Rattle.tree.specs.Table.{child}
use Rattle.finished.specs.Finished.{AllMerged, tree_of}
use Rattle.finished.proofs.Merged.{by_edge}
use Rattle.finished.proofs.LaidMerged.{laid_merged}
use Rattle.best.specs.Call.{sequence_numbers}
use Rattle.best.proofs.MergesKept.{length_numbers}

whole_written : (part s : List ℕ) → length s ≡ length part → written_at 0 part s ≡ part
unfolding written_at
whole_written part s e = rw (zero-add (length part), drop_of_length-le s {i = length part} (omega arith)) (append-nil part)

of_three : (merge : Triple) (edge : ℕ) → edge < 3 → get_or (merge.x ∷ (merge.y ∷ (merge.z ∷ []))) edge 0 ≡ by_edge merge edge
unfolding by_edge
of_three merge zero k = refl
of_three merge (suc zero) k = refl
of_three merge (suc (suc zero)) k = refl
of_three merge (suc (suc (suc edge))) k = absurd (omega arith)

-- The numbers of a merge stand in the place of its step.
numbers_at : (history : List Triple) (label edge : ℕ) → label < length history → edge < 3
    → get_or (sequence_numbers history) (3 * label + edge) 0 ≡ by_edge (merge_of history label) edge
unfolding sequence_numbers
numbers_at [] label edge h k = absurd (omega arith)
numbers_at (merge ∷ history) label edge h k =
    let front = sequence_numbers history in
    let three : List ℕ = merge.x ∷ (merge.y ∷ (merge.z ∷ [])) in
    let long = length_numbers history in
    ⊎_elim
    (λ e.
    (let place : 3 * label + edge ≡ length front + edge = omega arith in
    rw (newest_merge merge history label e)
    (ap (λ n. get_or (front ++ three) n 0) place ∙ get_or-append-add front three edge 0 ∙ of_three merge edge k)))
    (λ other.
    (let older : label < length history = omega arith in
    rw (older_merge merge history label older)
    (get_or-append front three 0 (3 * label + edge) (omega arith) ∙ numbers_at history label edge older k)))
    (same_or_not label (length history))

-- Numbers put in place of as many others, and their codes put in place of them.
pub codes_put : (code : ℕ → ℕ) (numbers before put after : List ℕ) → length before ≡ length numbers → put ≡ written_at 0 numbers before
    → length after ≡ length put → ((k : ℕ) → k < length after → get_or after k 0 ≡ code (get_or put k 0)) → after ≡ map code numbers
codes_put code numbers before put after room written same coded =
    let whole : put ≡ numbers = written ∙ whole_written numbers before room in
    let long : length after ≡ length numbers = same ∙ ap length whole in
    ext_get_or 0 after (map code numbers) (omega (arith, length-map numbers code, long))
    (λ k h.
    (let within : k < length numbers = omega arith in
    coded k h ∙ ap (λ l. code (get_or l k 0)) whole ∙ sym (get_or-map code numbers k 0 0 within)))

module _ (modes : ℕ) (history : List Triple) (merges : AllMerged modes history) where
  place_kept : (at : ℕ) → at < 3 * modes
      → child_code modes (2 * modes) (get_or (sequence_numbers history) at 0) ≡ get_or (tree_of modes history) at absent
  unfolding child
  place_kept at h =
      let merged = laid_merged modes history merges in
      let label = at / 3 in
      let edge = at % 3 in
      let whole : 3 * label + edge ≡ at = div-add-mod at 3 in
      let small : edge < 3 = mod-lt at (omega arith) in
      let within : label < length history = omega (arith, merges.all) in
      ap (λ n. child_code modes (2 * modes) (get_or (sequence_numbers history) n 0)) (sym whole)
      ∙ ap (child_code modes (2 * modes)) (numbers_at history label edge within small)
      ∙ sym (merged.child_is label edge within small)
      ∙ ap (λ n. get_or (tree_of modes history) n absent) whole

  codes_are : map (child_code modes (2 * modes)) (sequence_numbers history) ≡ tree_of modes history
  codes_are =
      let numbers = sequence_numbers history in
      let code = child_code modes (2 * modes) in
      let long : length numbers ≡ 3 * modes = omega (arith, length_numbers history, merges.all) in
      let same_long : length (map code numbers) ≡ 3 * modes = omega (arith, length-map numbers code, long) in
      let whole : length (tree_of modes history) ≡ 3 * modes = (laid_merged modes history merges).whole in
      ext_get_or absent (map code numbers) (tree_of modes history) (same_long ∙ sym whole)
      (λ at h.
      (let within : at < length numbers = omega arith in
      get_or-map code numbers at 0 absent within ∙ place_kept at (omega arith)))

  pub tree_kept : (table rest : List ℕ) → table ≡ map (child_code modes (2 * modes)) (sequence_numbers history)
      → take (3 * modes) (table ++ rest) ≡ tree_of modes history
  tree_kept table rest put =
      let whole = put ∙ codes_are in
      take_at table rest (3 * modes) (ap length whole ∙ (laid_merged modes history merges).whole) ∙ whole
