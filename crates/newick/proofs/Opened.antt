-- How many `(` stand before a place: as many more as stand in what was passed.
use mathlib.Core.Path.{◌≡◌, refl, ap, ◌∙◌}
use mathlib.Core.Bool.{Bool, true, false, not}
use mathlib.Core.List.{List, [], ◌∷◌, ◌++◌}
use Prim.Native.Nat.{ℕ, suc, ◌+◌, ◌-◌, ◌<◌, ◌≤◌}
use native.Mathlib.Omega.{arith}
use borrow.Author.Tests.{eqb-false}
use lib.Dec.{eqb}
use lib.ListN.{length, take, drop, length-append, length-drop}
use lib.Seq.{take-add, take-append_seam}
use Rattle.lists.specs.Counting.{same, occurrences}
use Rattle.lists.specs.Members.{every}
use Rattle.lists.proofs.Every.{every_uncons}
use Rattle.lists.proofs.Sums.{same_none, occurrences_append}
use Rattle.fields.specs.Decimal.{is_digit, decimal}
use Rattle.fields.proofs.DecimalRead.{decimal_without}
use Rattle.newick.specs.Reading.{byte_at, opened}
use Rattle.newick.proofs.DigitsStand.{NumberStands, byte_stands}

never_unlike : (v : ℕ) (l : List ℕ) → every (λ byte. not (eqb byte v)) l ≡ true → occurrences v l ≡ 0
unfolding occurrences
never_unlike v [] e = refl
never_unlike v (a ∷ l) e =
    let p = every_uncons (λ byte. not (eqb byte v)) a l e in
    omega (arith, same_none a v (apart (eqb a v) refl p.0), never_unlike v l p.1)
  where
    apart : (b : Bool) → eqb a v ≡ b → not b ≡ true → a ≡ v → ⊥
    apart true q f = λ g. let z : ◌≡◌ {A = ℕ} 0 1 = cc in omega arith
    apart false q f = eqb-false a v q

no_node : (number : ℕ) → occurrences 40 (decimal number) ≡ 0
unfolding is_digit
no_node number = never_unlike 40 (decimal number) (decimal_without 40 number refl)

module _ (text : List ℕ) where
  opened_add : (at more : ℕ) → opened text (at + more) ≡ opened text at + occurrences 40 (take more (drop at text))
  unfolding opened
  opened_add at more = ap (occurrences 40) (take-add at more text) ∙ occurrences_append 40 (take at text) (take more (drop at text))

  opened_over : (at end : ℕ) (front : List ℕ) → at ≤ length text → end ≤ length text → drop at text ≡ front ++ drop end text
      → opened text end ≡ opened text at + occurrences 40 front
  opened_over at end front h k e =
      let size : end ≡ at + length front =
      omega (arith, ap length e, length-append front (drop end text), length-drop at text, length-drop end text) in
      let passed : take (length front) (drop at text) ≡ front = rw e (take-append_seam front (drop end text)) in
      ap (opened text) size ∙ opened_add at (length front) ∙ ap (λ l. opened text at + occurrences 40 l) passed

  pub opened_byte : (at byte : ℕ) → byte_at text at ≡ byte → 0 < byte → opened text (suc at) ≡ opened text at + same byte 40
  unfolding occurrences
  opened_byte at byte e some =
      let s = byte_stands text at byte e some in
      let low = s.0 in
      omega (arith, opened_over at (suc at) (byte ∷ []) (omega arith) (omega arith) s.1)

  pub opened_number : (at number end : ℕ) → NumberStands text at number end → at ≤ length text → opened text end ≡ opened text at
  opened_number at number end n h = omega (arith, opened_over at end (decimal number) h (n.within h) n.ahead, no_node number)

  pub opened_grows : (at end : ℕ) → at ≤ end → opened text at ≤ opened text end
  opened_grows at end h =
      let e : end ≡ at + (end - at) = omega arith in
      rw e (omega (arith, opened_add at (end - at)))
