-- What a text says, told by its first line and the lines behind it.
use Rattle.std.specs.Prelude.{None, Some, Ok, Err}
use Rattle.refusal.specs.declared.Refusal.{Refusal}
use Rattle.refusal.specs.declared.Refusal.TheVariants.{Malformed}
use mathlib.Core.Path.{◌≡◌, refl, ap, ◌∙◌, sym}
use mathlib.Core.Bool.{Bool, true, false, true≢false}
use mathlib.Core.List.{List, [], ◌∷◌}
use mathlib.Core.Logic.{⊎_elim}
use Prim.Native.Nat.{ℕ, zero, suc, ◌+◌, ◌<◌, ◌≤◌}
use native.Mathlib.Omega.{arith}
use borrow.Author.Tests.{eq-eqb, ne_eqb, le-leb}
use lib.Dec.{eqb, eqb-suc-suc}
use lib.ListN.{length, get_or, take, drop, length-drop}
use Rattle.lists.proofs.Parts.{nothing_in}
use Rattle.lists.proofs.Tests.{same_or_not, not_so}
use Rattle.fields.specs.Decimal.{value}
use Rattle.fields.specs.Lines.{lines, kept_of, first_line}
use Rattle.fields.specs.Fields.{fields, fields_after}
use Rattle.fields.proofs.LineSteps.{first_line_stands, next_line, no_next_line, kept_more}
use Rattle.terms_text.specs.Input.{modes_line, well_formed, formed_from, formed, whole, said, malformed}
use Rattle.terms_text.specs.code.Reading.{modes_said, all_terms, TermsRead, Reads}

eqb_behind : (n a b : ℕ) → eqb (n + a) (n + b) ≡ eqb a b
eqb_behind n a b =
    ⊎_elim
    (λ e. let f : n + a ≡ n + b = omega arith in eq-eqb (n + a) (n + b) f ∙ sym (eq-eqb a b e))
    (λ e. ne_eqb (n + a) (n + b) (λ f. e (omega arith)) ∙ sym (ne_eqb a b e))
    (same_or_not a b)

modes_read : (line : List ℕ) (n : ℕ) → modes_said line ≡ Some n → (modes_line (fields line) ≡ true) × (value (get_or (fields line) 1 []) ≡ n)
unfolding modes_said
modes_read line n e = go (modes_line (fields line)) refl
  where
    go : (b : Bool) → modes_line (fields line) ≡ b → (modes_line (fields line) ≡ true) × (value (get_or (fields line) 1 []) ≡ n)
    go true f =
        let g : Some (value (get_or (fields line) 1 [])) ≡ Some n = rw f at e in
        (f, cc)
    go false f =
        let g : None ≡ Some n = rw f at e in
        let z : ◌≡◌ {A = ℕ} 0 1 = cc in
        absurd (omega arith)

modes_unread : (line : List ℕ) → modes_said line ≡ None → modes_line (fields line) ≡ false
unfolding modes_said
modes_unread line e =
    not_so (modes_line (fields line))
    (λ f.
    let g : Some (value (get_or (fields line) 1 [])) ≡ None = rw f at e in
    let z : ◌≡◌ {A = ℕ} 0 1 = cc in
    omega arith)

module _ (most : ℕ) (text : List ℕ) (start : ℕ) (is_start : start ≡ length (first_line text)) where
  pub first_part : take start text ≡ first_line text
  first_part = rw is_start (first_line_stands text)

  -- A first line that says no modes, or no line at all.
  none_formed : modes_line (fields (first_line text)) ≡ false → formed most text ≡ 0
  unfolding formed formed_from well_formed
  none_formed bad =
      ⊎_elim
      (λ e. rw (no_next_line text e))
      (λ e. let next = next_line text (omega arith) in rw (next, bad))
      (same_or_not (length (first_line text)) 0)

  none_said : modes_line (fields (first_line text)) ≡ false → said most text ≡ malformed 0
  unfolding said whole
  none_said bad = go (length (lines text)) refl
    where
      go : (n : ℕ) → length (lines text) ≡ n → said most text ≡ malformed 0
      go zero e = rw (none_formed bad, e)
      go (suc n) e = rw (none_formed bad, e, le-leb 1 (suc n) (omega arith), ne_eqb 0 (suc n) (λ f. omega arith))

  pub reads_none : modes_said (take start text) ≡ None → (numbers : List ℕ) → Reads most (said most text) numbers (Err (Malformed 0))
  reads_none e numbers = (refl, none_said (modes_unread (first_line text) (rw first_part at e)))

  module _ (n : ℕ) (e : modes_said (take start text) ≡ Some n) where
    good : modes_line (fields (first_line text)) ≡ true
    good = (modes_read (first_line text) n (rw first_part at e)).0

    not_empty : 0 < length (first_line text)
    unfolding modes_line fields fields_after
    not_empty =
        ⊎_elim
        (λ z. absurd (true≢false (sym good ∙ ap (λ l. modes_line (fields l)) (nothing_in (first_line text) z))))
        (λ z. omega arith)
        (same_or_not (length (first_line text)) 0)

    behind : lines text ≡ first_line text ∷ lines (drop start text)
    behind = rw is_start (next_line text not_empty)

    kept_behind : length (kept_of text) ≡ start + length (kept_of (drop start text))
    kept_behind =
        let e : start ≡ 0 + length (first_line text) = omega (arith, is_start) in
        omega (arith, kept_more text 0 start e (λ z. omega (arith, not_empty)))

    module _ (within : start ≤ length text) where
      all_formed : formed most text ≡ formed_from most 1 (lines (drop start text)) + 1
      unfolding formed formed_from well_formed
      all_formed = rw (behind, good) (omega arith)

      all_whole : whole most text ≡ all_terms most (drop start text)
      unfolding whole all_terms
      all_whole =
          let size : length text ≡ start + length (drop start text) = omega (arith, length-drop start text) in
          let same : eqb (length (kept_of text)) (length text) ≡ eqb (length (kept_of (drop start text))) (length (drop start text)) =
          rw (kept_behind, size) (eqb_behind start (length (kept_of (drop start text))) (length (drop start text))) in
          let size_of : length (lines text) ≡ suc (length (lines (drop start text))) = ap length behind in
          let formed_of : formed most text ≡ suc (formed_from most 1 (lines (drop start text))) = omega (arith, all_formed) in
          rw (
            formed_of,
            size_of,
            same,
            le-leb 1 (suc (length (lines (drop start text)))) (omega arith),
            eqb-suc-suc (formed_from most 1 (lines (drop start text))) (length (lines (drop start text))),
          )

      pub reads_part : (numbers : List ℕ) (why : Refusal) → TermsRead most (drop start text) numbers (Err why) → Reads most (said most text) numbers (Err why)
      unfolding said
      reads_part numbers why t = rw t.1 (refl, rw (all_whole, t.0, all_formed))

      pub reads_all : (numbers : List ℕ) (count : ℕ) → TermsRead most (drop start text) numbers (Ok count)
          → Reads most (said most text) numbers (Ok (record { modes = n; count = count }))
      unfolding said
      reads_all numbers count t =
          record {
            says = rw (all_whole, t.whole, behind, (modes_read (first_line text) n (rw first_part at e)).1, t.rows);
            few = t.few;
          }
