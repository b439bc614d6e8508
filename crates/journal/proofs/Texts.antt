-- The lines that are written, field by field: how long they are, and that fields put one behind the other are the line.
use mathlib.Core.Path.{◌≡◌}
use mathlib.Core.List.{List, ◌++◌, append_assoc}
use Prim.Native.Nat.{ℕ, ◌+◌, ◌≤◌}
use native.Mathlib.Omega.{arith}
use lib.ListN.{length, length-append}
use Rattle.lists.proofs.Behind.{Wrote, then_wrote}
use Rattle.entities.specs.declared.Triple.{Triple}
use Rattle.fields.specs.Decimal.{decimal}
use Rattle.fields.specs.Fields.{tabbed}
use Rattle.fields.proofs.PuttingBytes.{field, Put, put_wrote}
use Rattle.terms.specs.declared.rules.Rule.{Rule}
use Rattle.obeying.specs.LineForms.{header_text, merge_text}
use Rattle.obeying.specs.code.Openings.{header_opening}
use Rattle.obeying.proofs.LineSaid.{length_word, length_opening}

module _ (step : ℕ) (triple : Triple) (weight : ℕ) where
  merge_fields : (((field step 9 ++ field triple.x 9) ++ field triple.y 9) ++ field triple.z 9) ++ field weight 10
      ≡ merge_text step triple weight
  unfolding merge_text tabbed
  merge_fields = simp append_assoc

  pub length_merge : length (merge_text step triple weight)
      ≡ (length (decimal step) + 1)
      + ((length (decimal triple.x) + 1)
      + ((length (decimal triple.y) + 1) + ((length (decimal triple.z) + 1) + (length (decimal weight) + 1))))
  unfolding merge_text tabbed
  length_merge = simp length-append (omega arith)

  pub merge_wrote : (s : List ℕ) → length (merge_text step triple weight) ≤ length s
      → {out₁ out₂ out₃ out₄ out₅ : List ℕ} {at₁ at₂ at₃ at₄ at₅ : ℕ}
      → Put s 0 step 9 out₁ at₁
      → Put out₁ at₁ triple.x 9 out₂ at₂
      → Put out₂ at₂ triple.y 9 out₃ at₃
      → Put out₃ at₃ triple.z 9 out₄ at₄
      → Put out₄ at₄ weight 10 out₅ at₅
      → Wrote 0 (merge_text step triple weight) s out₅ at₅
  merge_wrote s room first second third fourth fifth =
      let two = then_wrote (put_wrote step 9 first) (put_wrote triple.x 9 second) (omega (arith, first.0, length_merge)) in
      let three = then_wrote two (put_wrote triple.y 9 third) (omega (arith, first.0, second.0, length_merge)) in
      let four = then_wrote three (put_wrote triple.z 9 fourth) (omega (arith, first.0, second.0, third.0, length_merge)) in
      rw (← merge_fields)
      (then_wrote four (put_wrote weight 10 fifth) (omega (arith, first.0, second.0, third.0, fourth.0, length_merge)))

module _ (rule : Rule) (modes terms : ℕ) where
  header_fields : (header_opening rule ++ field modes 9) ++ field terms 10 ≡ header_text rule modes terms
  unfolding header_text header_opening tabbed
  header_fields = simp append_assoc

  pub length_header : length (header_text rule modes terms) ≡ 7 + ((length (decimal modes) + 1) + (length (decimal terms) + 1))
  unfolding header_text tabbed
  length_header = simp length-append (omega (arith, length_word rule))

  pub header_wrote : (s : List ℕ) → length (header_text rule modes terms) ≤ length s
      → {out₁ out₂ out₃ : List ℕ} {at₁ at₂ at₃ : ℕ}
      → Wrote 0 (header_opening rule) s out₁ at₁
      → Put out₁ at₁ modes 9 out₂ at₂
      → Put out₂ at₂ terms 10 out₃ at₃
      → Wrote 0 (header_text rule modes terms) s out₃ at₃
  header_wrote s room begun first second =
      let seven = length_opening rule in
      let one = then_wrote begun (put_wrote modes 9 first) (omega (arith, begun.behind, length_header)) in
      rw (← header_fields) (then_wrote one (put_wrote terms 10 second) (omega (arith, begun.behind, first.0, length_header)))
