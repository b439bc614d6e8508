-- A word is one number where its fields are: no tab stands in a number.
use Rattle.std.specs.Prelude.{None, Some}
use mathlib.Core.Path.{◌≡◌, refl, ap, ◌∙◌, sym}
use mathlib.Core.Bool.{Bool, true, false, cond, ◌&&◌, true≢false}
use mathlib.Core.List.{List, [], ◌∷◌, map}
use Prim.Native.Nat.{ℕ, suc, ◌<◌, ◌≤◌}
use native.Mathlib.Omega.{arith}
use borrow.Author.Tests.{ne_eqb, lt-ltb, le-ltb, ltb-true}
use lib.Dec.{eqb, ltb}
use lib.ListN.{length, get_or}
use Rattle.lists.specs.Members.{every}
use Rattle.lists.proofs.Every.{every_at, every_by_place, every_cons}
use Rattle.lists.proofs.Tests.{both}
use Rattle.fields.specs.Decimal.{is_digit, is_number, value}
use Rattle.fields.specs.Fields.{fields_after, tabbed}
use Rattle.fields.specs.code.Reading.{fields_good, numbers_good}
use Rattle.fields.proofs.Numerals.{numeral}
use Rattle.fields.proofs.Tabbed.{no_tab, tabbed_fields, fields_tabbed}
use Rattle.letters_text.specs.Lettering.{asked}

module _ (word : List ℕ) where
  tabs_none : is_number word ≡ true → every no_tab word ≡ true
  unfolding no_tab is_digit
  tabs_none e =
      every_by_place no_tab word 0
      (λ i h.
      let digit = every_at is_digit word i 0 h (numeral word e).digits in
      rw (ne_eqb (get_or word i 0) 9 (λ tab. true≢false (sym digit ∙ ap is_digit tab))))

  -- One field is the whole word.
  one_field : (parts : List (List ℕ)) → tabbed parts ≡ word → fields_good is_number 1 parts ≡ true → (is_number word ≡ true) × (parts ≡ word ∷ [])
  unfolding tabbed fields_good every
  one_field [] e good = absurd (true≢false (sym good))
  one_field (part ∷ []) e good = (rw e at (both (is_number part) true good).0, rw e)
  one_field (part ∷ (next ∷ rest)) e good =
      let more : eqb (suc (suc (length rest))) 1 ≡ false = ne_eqb (suc (suc (length rest))) 1 (λ f. omega arith) in
      let no : false ≡ true = rw more at good in
      absurd (true≢false (sym no))

  -- A number is its one field.
  number_field : is_number word ≡ true → fields_good is_number 1 (fields_after [] word) ≡ true
  unfolding fields_good tabbed every
  number_field e = rw (fields_tabbed word [] (every_cons (every no_tab) word [] (tabs_none e) refl), e)

  module _ (modes : ℕ) where
    pub no_number : numbers_good 1 (fields_after [] word) ≡ false → None ≡ asked modes word
    unfolding asked
    no_number e = go (is_number word) refl
      where
        go : (b : Bool) → is_number word ≡ b → None ≡ cond (is_number word && ltb (value word) modes) (Some (value word)) None
        go true number = absurd (true≢false (sym (number_field number) ∙ e))
        go false none = rw none

    module _ (numbers : List ℕ) (good : numbers_good 1 (fields_after [] word) ≡ true) (found : numbers ≡ map value (fields_after [] word)) where
      said : (is_number word ≡ true) × (fields_after [] word ≡ word ∷ [])
      said = one_field (fields_after [] word) (tabbed_fields [] word) good

      says : get_or numbers 0 0 ≡ value word
      says = ap (λ l. get_or l 0 0) (found ∙ ap (map value) said.1)

      pub beyond_last : modes ≤ get_or numbers 0 0 → None ≡ asked modes word
      unfolding asked
      beyond_last h = rw (said.0, le-ltb (value word) modes (rw says at h))

      pub a_step : get_or numbers 0 0 < modes → Some (get_or numbers 0 0) ≡ asked modes word
      unfolding asked
      a_step h = rw (says, said.0, lt-ltb (value word) modes (rw says at h))

-- A step that was asked for is below the modes.
pub step_below : (modes : ℕ) (word : List ℕ) (step : ℕ) → asked modes word ≡ Some step → step < modes
unfolding asked
step_below modes word step = go (is_number word) (ltb (value word) modes) refl
  where
    go : (a b : Bool) → ltb (value word) modes ≡ b → cond (a && b) (Some (value word)) None ≡ Some step → step < modes
    go true true below e = let same : value word ≡ step = cc in rw same at (ltb-true (value word) modes below)
    go true false below e = let z : ◌≡◌ {A = ℕ} 0 1 = cc in absurd (omega arith)
    go false b below e = let z : ◌≡◌ {A = ℕ} 0 1 = cc in absurd (omega arith)
