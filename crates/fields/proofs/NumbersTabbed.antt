-- Numbers parted by tabs: what is written is read back, and what is read stands as it would be written.
use mathlib.Core.Path.{◌≡◌, refl, ap, ◌∙◌, sym}
use mathlib.Core.Bool.{Bool, true, not}
use mathlib.Core.List.{List, [], ◌∷◌, ◌++◌, map}
use Prim.Native.Nat.{ℕ, ◌-◌}
use native.Mathlib.Nat.{zero-add}
use native.Mathlib.Omega.{arith}
use borrow.Author.Tests.{leb-true}
use lib.Dec.{eqb, leb}
use lib.ListN.{length, get_or, take, length-append, get_or-map}
use lib.Seq.{take_at, ext_get_or}
use Rattle.lists.specs.Members.{every}
use Rattle.lists.specs.Ranges.{listed}
use Rattle.lists.proofs.Every.{every_cons, every_uncons, every_append, every_at, every_mapped}
use Rattle.lists.proofs.Listed.{length_listed, listed_at}
use Rattle.fields.specs.Decimal.{is_digit, is_number, value_after, value, decimal}
use Rattle.fields.specs.Fields.{fields, tabbed}
use Rattle.fields.proofs.DecimalRead.{decimal_without, value_decimal, decimal_is_number, decimal_value, parted}
use Rattle.fields.proofs.Tabbed.{no_tab, tabbed_fields, fields_tabbed}
use Rattle.fields.proofs.LinesJoined.{no_feed}

pub value_at : (parts : List (List ℕ)) (i : ℕ) → get_or (map value parts) i 0 ≡ value (get_or parts i [])
unfolding value value_after
value_at parts i = get_or-map value parts i []

pub decimal_no_tab : (number : ℕ) → every no_tab (decimal number) ≡ true
unfolding no_tab is_digit
decimal_no_tab number = decimal_without 9 number refl

-- A number that a field may hold.
unfoldable pub fits : ℕ → Bool
fits number = leb number 65535

module _ (numbers : List ℕ) (e : every fits numbers ≡ true) where
  pub decimals_no_tab : every (every no_tab) (map decimal numbers) ≡ true
  unfolding fits
  decimals_no_tab = every_mapped fits (every no_tab) decimal (λ n f. decimal_no_tab n) numbers e

  pub decimals_are_numbers : every is_number (map decimal numbers) ≡ true
  unfolding fits
  decimals_are_numbers = every_mapped fits is_number decimal (λ n f. decimal_is_number n (leb-true n 65535 f)) numbers e

pub values_of_decimals : (numbers : List ℕ) → every fits numbers ≡ true → map value (map decimal numbers) ≡ numbers
unfolding fits
values_of_decimals [] e = refl
values_of_decimals (n ∷ numbers) e =
    let p = every_uncons fits n numbers e in
    rw (value_decimal n (leb-true n 65535 p.0), values_of_decimals numbers p.1)

-- The fields of a line that was written.
pub fields_line : (field : List ℕ) (parts : List (List ℕ)) → every (every no_tab) (field ∷ parts) ≡ true
    → fields (tabbed (field ∷ parts) ++ (10 ∷ [])) ≡ field ∷ parts
unfolding fields
fields_line field parts e =
    let text = tabbed (field ∷ parts) in
    let size : length text ≡ length (text ++ (10 ∷ [])) - 1 = rw (length-append text (10 ∷ [])) (omega arith) in
    rw (take_at text (10 ∷ []) (length (text ++ (10 ∷ [])) - 1) size) (fields_tabbed field parts e)

-- Numbers that were accepted stand in their fields as they would be written.
pub numbers_are : (count : ℕ) (parts : List (List ℕ)) → length parts ≡ count → every is_number parts ≡ true
    → parts ≡ listed (λ i. decimal (value (get_or parts i []))) 0 count
numbers_are count parts l e =
    let rule : ℕ → List ℕ = λ i. decimal (value (get_or parts i [])) in
    ext_get_or [] parts (listed rule 0 count) (l ∙ sym (length_listed rule 0 count))
    (λ i h.
    sym
    (listed_at rule 0 count i [] (omega arith) ∙ ap rule (zero-add i)
    ∙ decimal_value (get_or parts i []) (every_at is_number parts i [] h e)))

-- A line is its fields parted by tabs, and its last byte.
pub line_is : (line : List ℕ) → get_or line (length line - 1) 0 ≡ 10 → line ≡ tabbed (fields line) ++ (10 ∷ [])
unfolding fields
line_is [] e = absurd (omega arith)
line_is (byte ∷ rest) e =
    let line = byte ∷ rest in
    parted line (omega arith) ∙ rw (e, tabbed_fields [] (take (length line - 1) line))

-- No LF stands in fields without one, nor in numbers.
pub tabbed_free : (parts : List (List ℕ)) → every no_feed parts ≡ true → no_feed (tabbed parts) ≡ true
unfolding tabbed every no_feed
tabbed_free [] e = refl
tabbed_free (part ∷ []) e = (every_uncons no_feed part [] e).0
tabbed_free (part ∷ (next ∷ rest)) e =
    let both = every_uncons no_feed part (next ∷ rest) e in
    every_append (λ b. not (eqb b 10)) part (9 ∷ tabbed (next ∷ rest)) both.0
    (every_cons (λ b. not (eqb b 10)) 9 (tabbed (next ∷ rest)) refl (tabbed_free (next ∷ rest) both.1))

pub decimals_free : (numbers : List ℕ) → every no_feed (map decimal numbers) ≡ true
unfolding every no_feed is_digit
decimals_free [] = refl
decimals_free (number ∷ rest) = every_cons no_feed (decimal number) (map decimal rest) (decimal_without 10 number refl) (decimals_free rest)
