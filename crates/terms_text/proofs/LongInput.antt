-- A text longer than the longest well-formed one says the same when it is cut behind that length.
use mathlib.Core.Path.{◌≡◌, refl, ap, ◌∙◌, sym}
use mathlib.Core.Bool.{Bool, true, false, ◌&&◌, true≢false}
use mathlib.Core.List.{List, [], ◌∷◌, ◌++◌, flat_map}
use mathlib.Core.Logic.{◌⊎◌, inl, inr}
use Prim.Native.Nat.{ℕ, zero, suc, ◌+◌, ◌-◌, ◌*◌, ◌<◌, ◌≤◌}
use native.Mathlib.Omega.{arith}
use borrow.Author.Tests.{ne_eqb, leb-true, lt-leb, eqb-true, ltb-true, ltb-false}
use lib.Dec.{eqb, leb, ltb}
use lib.ListN.{length, take, drop, length-append, length-take, take-append-drop}
use lib.Seq.{take-take, take_all, length-take-le}
use Rattle.lists.specs.Members.{every, alike}
use Rattle.lists.proofs.Tests.{both, same_or_not, not_so}
use Rattle.lists.proofs.Every.{every_uncons}
use Rattle.lists.proofs.Alike.{alike_same}
use Rattle.lists.proofs.Parts.{drop_take}
use Rattle.fields.specs.Texts.{spelt}
use Rattle.fields.specs.Decimal.{is_number, is_digit}
use Rattle.fields.specs.Lines.{lines, kept_of, first_line, is_line}
use Rattle.fields.specs.Fields.{fields, tabbed}
use Rattle.fields.proofs.Tabbed.{tabbed_fields}
use Rattle.fields.proofs.LinesJoined.{lines_joined, kept_line, lines_one, lines_are_lines, line_cut}
use Rattle.fields.proofs.LineSteps.{first_line_stands, next_line, no_next_line}
use Rattle.terms_text.specs.Input.{modes_line, term_line, well_formed, formed_from, formed, whole, said, malformed}

-- A number has five digits at most.
short_number : (field : List ℕ) → is_number field ≡ true → length field ≤ 5
unfolding is_number
short_number field e =
    let p = both (every is_digit field) _ e in
    let q = both (leb 1 (length field)) _ p.1 in
    let r = both (leb (length field) 5) _ q.1 in
    leb-true (length field) 5 r.0

-- So a word and numbers have six bytes at most for each number.
short_fields : (word : List ℕ) (parts : List (List ℕ)) → every is_number parts ≡ true → length (tabbed (word ∷ parts)) ≤ length word + 6 * length parts
unfolding tabbed
short_fields word [] e = omega arith
short_fields word (field ∷ parts) e =
    let p = every_uncons is_number field parts e in
    omega (arith, length-append word (9 ∷ tabbed (field ∷ parts)), short_number field p.0, short_fields field parts p.1)

line_length : (line : List ℕ) → length line - 1 ≤ length (tabbed (fields line))
unfolding fields
line_length line =
    rw (tabbed_fields [] (take (length line - 1) line)) (rw (length-take-le (length line - 1) line (omega arith)) (omega arith))

modes_short : (parts : List (List ℕ)) → modes_line parts ≡ true → length (tabbed parts) ≤ 11
unfolding modes_line
modes_short [] e = absurd (true≢false (sym e))
modes_short (a ∷ parts) e =
    let p = both (eqb (suc (length parts)) 2) _ e in
    let q = both (alike a (spelt "modes")) _ p.1 in
    let l = eqb-true (suc (length parts)) 2 p.0 in
    omega (arith, ap length (alike_same a (spelt "modes") q.0), short_fields a parts q.1)

term_short : (parts : List (List ℕ)) → term_line parts ≡ true → length (tabbed parts) ≤ 46
unfolding term_line alike
term_short [] e = absurd (true≢false (sym e))
term_short (a ∷ parts) e =
    let p = both (alike a (spelt "term")) _ e in
    let q = both (leb 2 (suc (length parts))) _ p.1 in
    let r = both (leb (suc (length parts)) 8) _ q.1 in
    let l = leb-true (suc (length parts)) 8 r.0 in
    omega (arith, ap length (alike_same a (spelt "term") p.0), short_fields a parts r.1)

-- How many bytes the well-formed lines from a number on can have: 12 for the first, 47 for each term.
unfoldable room : ℕ → ℕ → ℕ
room most zero = 12 + 47 * most
room most (suc number) = 47 * (most - number)

-- A well-formed line leaves room for those behind it.
fits : (most number : ℕ) (line : List ℕ) → well_formed most number line ≡ true → length line + room most (suc number) ≤ room most number
unfolding well_formed room
fits most zero line e = omega (arith, line_length line, modes_short (fields line) e)
fits most (suc number) line e =
    let f : (leb (suc number) most && term_line (fields line)) ≡ true = rw (ne_eqb (suc number) 0 (λ z. omega arith)) at e in
    let p = both (leb (suc number) most) (term_line (fields line)) f in
    omega (arith, leb-true (suc number) most p.0, line_length line, term_short (fields line) p.1)

-- Lines that are all well formed are no longer than that.
all_fit : (most number : ℕ) (texts : List (List ℕ)) → formed_from most number texts ≡ length texts → length (flat_map (λ line. line) texts) ≤ room most number
unfolding formed_from flat_map
all_fit most number [] e = omega arith
all_fit most number (line ∷ rest) e = go (well_formed most number line) refl (all_fit most (suc number) rest)
  where
    go : (b : Bool) → well_formed most number line ≡ b
        → (formed_from most (suc number) rest ≡ length rest → length (flat_map (λ line. line) rest) ≤ room most (suc number))
        → length (line ++ flat_map (λ line. line) rest) ≤ room most number
    go true f on =
        let h = on (omega (arith, rw f at e)) in
        omega (arith, length-append line (flat_map (λ line. line) rest), fits most number line f)
    go false f on = absurd (omega (arith, rw f at e))

-- A text that is longer is malformed.
pub too_long : (most : ℕ) (text : List ℕ) → 12 + 47 * most < length text → said most text ≡ malformed (formed most text)
unfolding said whole formed room kept_of
too_long most text h = rw (not_so (whole most text) no_whole)
  where
    no_whole : whole most text ≡ true → ⊥
    no_whole e =
        let p = both (leb 1 (length (lines text))) _ e in
        let q = both (eqb (formed most text) (length (lines text))) _ p.1 in
        let all = all_fit most 0 (lines text) (eqb-true _ _ q.0) in
        omega (arith, eqb-true (length (kept_of text)) (length text) q.1)

-- A text that begins with a line.
with_line : (bytes line : List ℕ) → is_line line ≡ true → take (length line) bytes ≡ line → lines bytes ≡ line ∷ lines (drop (length line) bytes)
with_line bytes line one e =
    let rest = drop (length line) bytes in
    let whole_text : bytes ≡ line ++ rest = sym (take-append-drop (length line) bytes) ∙ ap (λ l. l ++ rest) e in
    ap lines whole_text ∙ lines_joined line rest (kept_line line one) ∙ ap (λ l. l ++ lines rest) (lines_one line one)

first_is_line : (bytes : List ℕ) → 0 < length (first_line bytes) → is_line (first_line bytes) ≡ true
first_is_line bytes h =
    (every_uncons is_line (first_line bytes) (lines (drop (length (first_line bytes)) bytes)) (rw (next_line bytes h) at (lines_are_lines bytes))).0

-- A line that stands whole before the cut, and one that doesn't.
module _ (bytes : List ℕ) (cut : ℕ) (h : 0 < length (first_line bytes)) where
  cut_behind : length (first_line bytes) ≤ cut
      → lines (take cut bytes) ≡ first_line bytes ∷ lines (take (cut - length (first_line bytes)) (drop (length (first_line bytes)) bytes))
  cut_behind k =
      let line = first_line bytes in
      let e : length line + (cut - length line) ≡ cut = omega arith in
      with_line (take cut bytes) line (first_is_line bytes h) (take-take (length line) cut bytes k ∙ first_line_stands bytes)
      ∙ ap (λ l. line ∷ lines l) (ap (λ n. drop (length line) (take n bytes)) (sym e) ∙ drop_take (length line) (cut - length line) bytes)

  cut_within : cut < length (first_line bytes) → lines (take cut bytes) ≡ []
  cut_within k =
      let line = first_line bytes in
      ap lines (sym (take-take cut (length line) bytes (omega arith)) ∙ ap (take cut) (first_line_stands bytes))
      ∙ line_cut line cut (first_is_line bytes h) k

cut_none : (bytes : List ℕ) (cut : ℕ) → lines bytes ≡ [] → lines (take cut bytes) ≡ []
cut_none bytes cut none = go (same_or_not (length (first_line (take cut bytes))) 0)
  where
    go : (length (first_line (take cut bytes)) ≡ 0) ⊎ (length (first_line (take cut bytes)) ≡ 0 → ⊥) → lines (take cut bytes) ≡ []
    go (inl e) = no_next_line (take cut bytes) e
    go (inr e) =
        let line = first_line (take cut bytes) in
        let stands = first_line_stands (take cut bytes) in
        let short : length line ≤ cut = omega (arith, simp (length-take) at (ap length stands)) in
        let found = with_line bytes line (first_is_line (take cut bytes) (omega arith)) (sym (take-take (length line) cut bytes short) ∙ stands) in
        absurd (omega (arith, ap length (sym none ∙ found)))

-- Behind the last term no line is well formed.
none_behind : (most number : ℕ) (texts : List (List ℕ)) → suc most ≤ number → formed_from most number texts ≡ 0
unfolding formed_from well_formed
none_behind most number [] h = refl
none_behind most number (line ∷ rest) h = rw (ne_eqb number 0 (λ e. omega arith), lt-leb number most (omega arith))

-- The first line decides, and then those behind it.
more : (most number : ℕ) (bytes : List ℕ) (cut : ℕ) → 0 < length (first_line bytes) → room most number ≤ cut
    → ((b : List ℕ) (c : ℕ) → room most (suc number) ≤ c → formed_from most (suc number) (lines (take c b)) ≡ formed_from most (suc number) (lines b))
    → formed_from most number (lines (take cut bytes)) ≡ formed_from most number (lines bytes)
unfolding formed_from
more most number bytes cut h wide on = go (well_formed most number (first_line bytes)) refl (ltb cut (length (first_line bytes))) refl
  where
    go : (b : Bool) → well_formed most number (first_line bytes) ≡ b → (c : Bool) → ltb cut (length (first_line bytes)) ≡ c
        → formed_from most number (lines (take cut bytes)) ≡ formed_from most number (lines bytes)
    go true f c g =
        let line = first_line bytes in
        let short = fits most number line f in
        rw (cut_behind bytes cut h (omega arith), next_line bytes h, f)
        (ap suc (on (drop (length line) bytes) (cut - length line) (omega arith)))
    go false f true g = rw (cut_within bytes cut h (ltb-true cut (length (first_line bytes)) g), next_line bytes h, f)
    go false f false g = rw (cut_behind bytes cut h (ltb-false cut (length (first_line bytes)) g), next_line bytes h, f)

-- So many lines are well formed in what is cut as in the whole, where the cut leaves room for them.
cut_same : (fuel most number : ℕ) (bytes : List ℕ) (cut : ℕ) → suc most ≤ number + fuel → room most number ≤ cut
    → formed_from most number (lines (take cut bytes)) ≡ formed_from most number (lines bytes)
cut_same zero most number bytes cut enough wide =
    none_behind most number (lines (take cut bytes)) (omega arith) ∙ sym (none_behind most number (lines bytes) (omega arith))
cut_same (suc fuel) most number bytes cut enough wide = go (same_or_not (length (first_line bytes)) 0) (cut_same fuel most (suc number))
  where
    go : (length (first_line bytes) ≡ 0) ⊎ (length (first_line bytes) ≡ 0 → ⊥)
        → ((b : List ℕ) (c : ℕ) → suc most ≤ suc number + fuel → room most (suc number) ≤ c
        → formed_from most (suc number) (lines (take c b)) ≡ formed_from most (suc number) (lines b))
        → formed_from most number (lines (take cut bytes)) ≡ formed_from most number (lines bytes)
    go (inl e) on =
        let none = no_next_line bytes e in
        ap (formed_from most number) (cut_none bytes cut none ∙ sym none)
    go (inr e) on = more most number bytes cut (omega arith) wide (λ b c. on b c (omega arith))

-- The theorem: a text cut anywhere behind the longest well-formed one says what the whole text says.
pub cut_says : (most cut : ℕ) (text : List ℕ) → 12 + 47 * most < cut → said most (take cut text) ≡ said most text
unfolding formed room
cut_says most cut text h = go (ltb cut (length text)) refl
  where
    go : (b : Bool) → ltb cut (length text) ≡ b → said most (take cut text) ≡ said most text
    go true e =
        let k = ltb-true cut (length text) e in
        let size = length-take-le cut text (omega arith) in
        too_long most (take cut text) (omega arith)
        ∙ ap malformed (cut_same (suc most) most 0 text cut (omega arith) (omega arith))
        ∙ sym (too_long most text (omega arith))
    go false e = ap (said most) (take_all cut text (ltb-false cut (length text) e))
