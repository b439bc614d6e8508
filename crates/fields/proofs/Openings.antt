-- A line that opens with words and tabs: its fields are the words and those behind them, and no other line has such fields.
use mathlib.Core.Path.{◌≡◌, refl, ap, ◌∙◌, sym}
use mathlib.Core.Bool.{Bool, true, false, ◌&&◌, true≢false}
use mathlib.Core.List.{List, [], ◌∷◌, ◌++◌, append_assoc}
use Prim.Native.Nat.{ℕ, ◌+◌, ◌-◌, ◌<◌, ◌≤◌}
use native.Mathlib.Nat.{sub-zero}
use native.Mathlib.Omega.{arith}
use borrow.Author.Tests.{lt-ltb, le-ltb, ltb-true}
use lib.Dec.{eqb, ltb}
use lib.ListN.{length, get_or, take, drop, length-append, length-take}
use lib.Seq.{take-take, take-add, take-append_seam}
use Rattle.lists.specs.Members.{every, alike}
use Rattle.lists.proofs.Tests.{both}
use Rattle.lists.proofs.Every.{every_uncons}
use Rattle.lists.proofs.Alike.{alike_self, alike_same}
use Rattle.fields.specs.Decimal.{is_number}
use Rattle.fields.specs.Fields.{fields_after, fields, tabbed}
use Rattle.fields.specs.code.Reading.{opens, fields_behind, fields_good, numbers_good, says_numbers, NumbersRead, LineRead}
use Rattle.fields.proofs.Tabbed.{no_tab, tabbed_fields, field_ended}

-- Words with a tab behind each.
unfoldable pub opening : List (List ℕ) → List ℕ
opening [] = []
opening (word ∷ words) = word ++ (9 ∷ opening words)

-- What stands behind an opening, without the line's LF.
module _ (front line : List ℕ) (e : opens front line ≡ true) where
  pub opens_long : length front < length line
  unfolding opens
  opens_long = ltb-true (length front) (length line) (both (ltb (length front) (length line)) _ e).0

  opened : take (length line - 1) line ≡ front ++ take (length line - 1 - length front) (drop (length front) line)
  unfolding opens
  opened =
      let h = opens_long in
      let n : length front + (length line - 1 - length front) ≡ length line - 1 = omega arith in
      let same = alike_same (take (length front) line) front (both (ltb (length front) (length line)) _ e).1 in
      ap (λ k. take k line) (sym n) ∙ take-add (length front) (length line - 1 - length front) line
      ∙ ap (λ l. l ++ take (length line - 1 - length front) (drop (length front) line)) same

fields_opened : (words : List (List ℕ)) (rest : List ℕ) → every (every no_tab) words ≡ true
    → fields_after [] (opening words ++ rest) ≡ words ++ fields_after [] rest
unfolding opening
fields_opened [] rest e = refl
fields_opened (word ∷ words) rest e =
    let p = every_uncons (every no_tab) word words e in
    rw (append_assoc word (9 ∷ opening words) rest) (field_ended [] word (opening words ++ rest) p.0 ∙ rw (fields_opened words rest p.1))

-- With its opening a line's fields are the words, and then those behind them.
pub opened_fields : (words : List (List ℕ)) (line : List ℕ) → every (every no_tab) words ≡ true → opens (opening words) line ≡ true
    → fields line ≡ words ++ fields_behind (opening words) line
unfolding fields fields_behind
opened_fields words line free e =
    rw (opened (opening words) line e)
    (fields_opened words (take (length line - 1 - length (opening words)) (drop (length (opening words)) line)) free)

tabbed_opening : (words : List (List ℕ)) (part : List ℕ) (parts : List (List ℕ)) → tabbed (words ++ (part ∷ parts)) ≡ opening words ++ tabbed (part ∷ parts)
unfolding opening tabbed
tabbed_opening [] part parts = refl
tabbed_opening (word ∷ []) part parts = sym (append_assoc word (9 ∷ []) (tabbed (part ∷ parts)))
tabbed_opening (word ∷ (next ∷ words)) part parts =
    ap (λ l. word ++ (9 ∷ l)) (tabbed_opening (next ∷ words) part parts)
    ∙ sym (append_assoc word (9 ∷ opening (next ∷ words)) (tabbed (part ∷ parts)))

-- A line whose fields are words and more opens with them.
module _ (word : List ℕ) (words : List (List ℕ)) (line part : List ℕ) (parts : List (List ℕ)) (e : fields line ≡ (word ∷ words) ++ (part ∷ parts)) where
  front_is : take (length line - 1) line ≡ opening (word ∷ words) ++ tabbed (part ∷ parts)
  unfolding fields
  front_is =
      sym (tabbed_fields [] (take (length line - 1) line)) ∙ ap tabbed e ∙ tabbed_opening (word ∷ words) part parts

  some_opening : 1 ≤ length (opening (word ∷ words))
  unfolding opening
  some_opening = simp length-append (omega arith)

  pub opens_with : opens (opening (word ∷ words)) line ≡ true
  unfolding opens
  opens_with =
      let front = opening (word ∷ words) in
      let long : length front < length line =
      omega (arith, simp (length-take, length-append) at (ap length front_is), some_opening) in
      let stands : take (length front) line ≡ front =
      sym (take-take (length front) (length line - 1) line (omega arith))
      ∙ ap (take (length front)) front_is ∙ take-append_seam front (tabbed (part ∷ parts)) in
      rw (lt-ltb (length front) (length line) long, stands) (alike_self front)

-- A first field that is a word, and another behind it.
pub two_fields : (word : List ℕ) (parts : List (List ℕ)) → alike (get_or parts 0 []) word ≡ true → 2 ≤ length parts
    → parts ≡ (word ∷ []) ++ (get_or parts 1 [] ∷ drop 2 parts)
two_fields word [] e h = absurd (omega arith)
two_fields word (a ∷ []) e h = absurd (omega arith)
two_fields word (a ∷ (b ∷ parts)) e h = rw (alike_same a word e)

-- A line that is too short, or not alike in front, doesn't open so.
module _ (front line : List ℕ) where
  pub closed_short : length line ≤ length front → opens front line ≡ false
  unfolding opens
  closed_short h = rw (le-ltb (length front) (length line) h)

  pub opens_alike : length front < length line → opens front line ≡ alike (take (length front) line) front
  unfolding opens
  opens_alike h = rw (lt-ltb (length front) (length line) h)

  -- Each way that a line is read ends.
  pub read_closed : (room : ℕ) (after : List ℕ) → opens front line ≡ false → LineRead front line room after false
  unfolding says_numbers
  read_closed room after e = record { good = rw e; values = λ f. absurd (true≢false (sym f)) }

  pub read_behind : (room : ℕ) (after : List ℕ) (r : Bool) → opens front line ≡ true
      → NumbersRead (fields_behind front line) room after r → LineRead front line room after r
  unfolding says_numbers
  read_behind room after r e n = record { good = n.good ∙ rw e; values = n.values }

-- A line behind no opening is its own fields; one without a byte has no number.
plain_good : (count : ℕ) (line : List ℕ) → says_numbers [] count line ≡ numbers_good count (fields line)
unfolding says_numbers opens alike fields_good fields fields_after fields_behind every is_number
plain_good count [] = go (eqb 1 count)
  where
    go : (b : Bool) → false ≡ (b && false)
    go true = refl
    go false = refl
plain_good count (byte ∷ line) = rw (lt-ltb 0 (length (byte ∷ line)) (omega arith), sub-zero (length (byte ∷ line) - 1))

pub plain_read : (line : List ℕ) (room : ℕ) (after : List ℕ) (r : Bool) → LineRead [] line room after r → NumbersRead (fields line) room after r
unfolding fields fields_behind
plain_read line room after r read =
    record { good = read.good ∙ plain_good room line; values = λ e. rw (sub-zero (length line - 1)) at (read.values e) }
