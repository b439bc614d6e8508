-- The lines of texts that stand one behind the other, and of a text that is cut anywhere: what follows the last LF is begun and no line yet.
use mathlib.Core.Path.{◌≡◌, refl, ap, ◌∙◌, sym}
use mathlib.Core.Bool.{Bool, true, false, cond, not, true≢false}
use mathlib.Core.List.{List, [], ◌∷◌, ◌++◌, flat_map, append-nil, append_assoc}
use Prim.Native.Nat.{ℕ, zero, suc, ◌+◌, ◌-◌, ◌<◌, ◌≤◌}
use native.Mathlib.Omega.{arith}
use borrow.Author.Tests.{eqb-true, leb-true, leb-false, not-true}
use lib.Dec.{eqb, leb}
use lib.ListN.{length, get_or, take, length-append, length-take}
use lib.Seq.{take-nil, take-append_seam, take-append-le, take-append-add}
use Rattle.std.specs.List.{sum_by}
use Rattle.std.proofs.lemmas.List.Concat.{length-flat_map}
use Rattle.lists.specs.Members.{every}
use Rattle.lists.proofs.Every.{every_cons, every_uncons, every_append}
use Rattle.lists.proofs.Parts.{nothing_in}
use Rattle.fields.specs.Lines.{lines, lines_after, kept_of, is_line}

-- What is begun behind the last LF, with what was begun before the text.
unfoldable left_after : List ℕ → List ℕ → List ℕ
left_after begun [] = begun
left_after begun (byte ∷ rest) = left_after (cond (eqb byte 10) [] (begun ++ (byte ∷ []))) rest

-- No byte is an LF.
unfoldable pub no_feed : List ℕ → Bool
no_feed bytes = every (λ byte. not (eqb byte 10)) bytes

joined_after : (begun p q : List ℕ) → lines_after begun (p ++ q) ≡ lines_after begun p ++ lines_after (left_after begun p) q
unfolding lines_after left_after
joined_after begun [] q = refl
joined_after begun (byte ∷ p) q =
    let next = cond (eqb byte 10) [] (begun ++ (byte ∷ [])) in
    let done : List (List ℕ) = cond (eqb byte 10) ((begun ++ (byte ∷ [])) ∷ []) [] in
    ap (λ l. done ++ l) (joined_after next p q) ∙ sym (append_assoc done (lines_after next p) (lines_after (left_after next p) q))

nothing_lost : (begun p : List ℕ) → flat_map (λ line. line) (lines_after begun p) ++ left_after begun p ≡ begun ++ p
unfolding lines_after left_after flat_map
nothing_lost begun [] = sym (append-nil begun)
nothing_lost begun (byte ∷ p) = go (eqb byte 10) refl (nothing_lost [] p) (nothing_lost (begun ++ (byte ∷ [])) p)
  where
    go : (b : Bool) → eqb byte 10 ≡ b
        → flat_map (λ line. line) (lines_after [] p) ++ left_after [] p ≡ p
        → flat_map (λ line. line) (lines_after (begun ++ (byte ∷ [])) p) ++ left_after (begun ++ (byte ∷ [])) p ≡ (begun ++ (byte ∷ [])) ++ p
        → flat_map (λ line. line) (lines_after begun (byte ∷ p)) ++ left_after begun (byte ∷ p) ≡ begun ++ (byte ∷ p)
    go true e ended ahead =
        rw e
        (append_assoc (begun ++ (byte ∷ [])) (flat_map (λ line. line) (lines_after [] p)) (left_after [] p)
        ∙ ap (λ l. (begun ++ (byte ∷ [])) ++ l) ended
        ∙ append_assoc begun (byte ∷ []) p)
    go false e ended ahead = rw e (ahead ∙ append_assoc begun (byte ∷ []) p)

module _ (bytes : List ℕ) where
  kept_and_left : kept_of bytes ++ left_after [] bytes ≡ bytes
  unfolding kept_of lines
  kept_and_left = nothing_lost [] bytes

  -- What is kept is the front of the text.
  pub kept_front : take (length (kept_of bytes)) bytes ≡ kept_of bytes
  kept_front = ap (take (length (kept_of bytes))) (sym kept_and_left) ∙ take-append_seam (kept_of bytes) (left_after [] bytes)

  -- The kept bytes are those of all lines, and no more than there are.
  pub kept_length : length (kept_of bytes) ≡ sum_by length (lines bytes)
  unfolding kept_of flat_map
  kept_length = length-flat_map (λ line. line) (lines bytes)

  pub kept_short : length (kept_of bytes) ≤ length bytes
  kept_short = omega (arith, ap length kept_front, length-take (length (kept_of bytes)) bytes)

  nothing_left : kept_of bytes ≡ bytes → left_after [] bytes ≡ []
  nothing_left e =
      nothing_in (left_after [] bytes)
      (omega (arith, ap length kept_and_left, ap length e, length-append (kept_of bytes) (left_after [] bytes)))

-- Behind a text that is kept whole another one's lines begin anew.
pub lines_joined : (p q : List ℕ) → kept_of p ≡ p → lines (p ++ q) ≡ lines p ++ lines q
unfolding lines
lines_joined p q whole = joined_after [] p q ∙ ap (λ l. lines_after [] p ++ lines_after l q) (nothing_left p whole)

-- One line.
line_after : (begun line : List ℕ) → is_line line ≡ true → lines_after begun line ≡ (begun ++ line) ∷ []
unfolding is_line lines_after
line_after begun [] e = let z : ◌≡◌ {A = ℕ} 0 1 = cc in absurd (omega arith)
line_after begun (byte ∷ rest) e = go (eqb byte 10) refl (line_after (begun ++ (byte ∷ [])) rest)
  where
    go : (b : Bool) → eqb byte 10 ≡ b
        → (is_line rest ≡ true → lines_after (begun ++ (byte ∷ [])) rest ≡ ((begun ++ (byte ∷ [])) ++ rest) ∷ [])
        → lines_after begun (byte ∷ rest) ≡ (begun ++ (byte ∷ rest)) ∷ []
    go true f ahead =
        let last : rest ≡ [] = nothing_in rest (eqb-true (length rest) 0 (rw f at e)) in
        rw (f, last)
    go false f ahead = rw f (ahead (rw f at e) ∙ ap (λ l. l ∷ []) (append_assoc begun (byte ∷ []) rest))

pub lines_one : (line : List ℕ) → is_line line ≡ true → lines line ≡ line ∷ []
unfolding lines
lines_one line e = line_after [] line e

pub kept_line : (line : List ℕ) → is_line line ≡ true → kept_of line ≡ line
unfolding kept_of flat_map
kept_line line e = rw (lines_one line e) (append-nil line)

-- Bytes without LF and then one.
pub line_ended : (body : List ℕ) → no_feed body ≡ true → is_line (body ++ (10 ∷ [])) ≡ true
unfolding is_line no_feed every
line_ended [] e = refl
line_ended (byte ∷ body) e =
    let parts = every_uncons (λ b. not (eqb b 10)) byte body e in
    rw (not-true (eqb byte 10) parts.0) (line_ended body parts.1)

-- Texts that are one line each.
line_found : (begun bytes : List ℕ) → no_feed begun ≡ true → every is_line (lines_after begun bytes) ≡ true
unfolding lines_after no_feed every
line_found begun [] free = refl
line_found begun (byte ∷ rest) free = go (eqb byte 10) refl (line_found [] rest refl) (line_found (begun ++ (byte ∷ [])) rest)
  where
    go : (b : Bool) → eqb byte 10 ≡ b
        → every is_line (lines_after [] rest) ≡ true
        → (no_feed (begun ++ (byte ∷ [])) ≡ true → every is_line (lines_after (begun ++ (byte ∷ [])) rest) ≡ true)
        → every is_line (lines_after begun (byte ∷ rest)) ≡ true
    go true e ended ahead =
        rw (e, eqb-true byte 10 e) (every_cons is_line (begun ++ (10 ∷ [])) (lines_after [] rest) (line_ended begun free) ended)
    go false e ended ahead =
        rw e
        (ahead
        (every_append (λ b. not (eqb b 10)) begun (byte ∷ []) free
        (every_cons (λ b. not (eqb b 10)) byte [] (rw e) refl)))

pub lines_are_lines : (bytes : List ℕ) → every is_line (lines bytes) ≡ true
unfolding lines no_feed every
lines_are_lines bytes = line_found [] bytes refl

-- Lines one behind the other are read back, so what is kept of a text is kept again.
pub lines_read_back : (texts : List (List ℕ)) → every is_line texts ≡ true → lines (flat_map (λ line. line) texts) ≡ texts
unfolding flat_map lines lines_after
lines_read_back [] good = refl
lines_read_back (text ∷ rest) good =
    let parts = every_uncons is_line text rest good in
    lines_joined text (flat_map (λ line. line) rest) (kept_line text parts.0)
    ∙ rw (lines_one text parts.0) (ap (λ l. text ∷ l) (lines_read_back rest parts.1))

pub lines_kept : (bytes : List ℕ) → lines (kept_of bytes) ≡ lines bytes
unfolding kept_of
lines_kept bytes = lines_read_back (lines bytes) (lines_are_lines bytes)

pub kept_again : (bytes : List ℕ) → kept_of (kept_of bytes) ≡ kept_of bytes
unfolding kept_of
kept_again bytes = ap (flat_map (λ line. line)) (lines_kept bytes)

-- A text with a line keeps something.
some_kept : (texts : List (List ℕ)) → every is_line texts ≡ true → 0 < length texts → 0 < length (flat_map (λ line. line) texts)
unfolding flat_map is_line
some_kept [] good some = absurd (omega arith)
some_kept ([] ∷ rest) good some =
    let z : ◌≡◌ {A = ℕ} 0 1 = cc (every_uncons is_line [] rest good).0 in absurd (omega arith)
some_kept ((byte ∷ line) ∷ rest) good some = omega (arith, length-append (byte ∷ line) (flat_map (λ line. line) rest))

pub kept_some : (bytes : List ℕ) → 0 < length (lines bytes) → 0 < length (kept_of bytes)
unfolding kept_of
kept_some bytes some = some_kept (lines bytes) (lines_are_lines bytes) some

-- A line's last byte is its LF.
pub line_ends : (line : List ℕ) → is_line line ≡ true → get_or line (length line - 1) 0 ≡ 10
unfolding is_line
line_ends [] e = absurd (true≢false (sym e))
line_ends (byte ∷ []) e = go (eqb byte 10) refl
  where
    go : (b : Bool) → eqb byte 10 ≡ b → byte ≡ 10
    go true f = eqb-true byte 10 f
    go false f = absurd (true≢false (sym (rw f at e)))
line_ends (byte ∷ (next ∷ rest)) e = go (eqb byte 10) refl (line_ends (next ∷ rest))
  where
    go : (b : Bool) → eqb byte 10 ≡ b → (is_line (next ∷ rest) ≡ true → get_or (next ∷ rest) (length (next ∷ rest) - 1) 0 ≡ 10)
        → get_or (byte ∷ (next ∷ rest)) (length (byte ∷ (next ∷ rest)) - 1) 0 ≡ 10
    go true f ahead = absurd (omega (arith, eqb-true (length (next ∷ rest)) 0 (rw f at e)))
    go false f ahead =
        let before : length (next ∷ rest) - 1 ≡ length rest = omega arith in
        let last : length (byte ∷ (next ∷ rest)) - 1 ≡ suc (length rest) = omega arith in
        let ends = ahead (rw f at e) in
        rw last (rw before at ends)

-- A line that is cut is none.
cut_after : (begun line : List ℕ) (k : ℕ) → is_line line ≡ true → k < length line → lines_after begun (take k line) ≡ []
unfolding is_line lines_after
cut_after begun line zero e h = refl
cut_after begun [] (suc k) e h = absurd (omega arith)
cut_after begun (byte ∷ rest) (suc k) e h = go (eqb byte 10) refl (λ f. cut_after (begun ++ (byte ∷ [])) rest k f (omega arith))
  where
    go : (b : Bool) → eqb byte 10 ≡ b
        → (is_line rest ≡ true → lines_after (begun ++ (byte ∷ [])) (take k rest) ≡ [])
        → lines_after begun (byte ∷ take k rest) ≡ []
    go true f ahead = absurd (omega (arith, eqb-true (length rest) 0 (rw f at e)))
    go false f ahead = rw f (ahead (rw f at e))

pub line_cut : (line : List ℕ) (k : ℕ) → is_line line ≡ true → k < length line → lines (take k line) ≡ []
unfolding lines
line_cut line k e h = cut_after [] line k e h

-- How many of the texts, one behind the other, stand whole in so many bytes.
unfoldable pub whole_in : ℕ → List (List ℕ) → ℕ
whole_in room [] = 0
whole_in room (text ∷ rest) = cond (leb (length text) room) (suc (whole_in (room - length text) rest)) 0

-- Lines that are cut after any number of bytes are as many of them as stand whole before the cut.
pub lines_cut : (texts : List (List ℕ)) (k : ℕ) → every is_line texts ≡ true
    → lines (take k (flat_map (λ line. line) texts)) ≡ take (whole_in k texts) texts
unfolding flat_map whole_in lines lines_after
lines_cut [] k good = rw (take-nil k)
lines_cut (text ∷ rest) k good =
    let parts = every_uncons is_line text rest good in
    go (leb (length text) k) refl parts.0 (lines_cut rest (k - length text) parts.1)
  where
    go : (b : Bool) → leb (length text) k ≡ b → is_line text ≡ true
        → lines (take (k - length text) (flat_map (λ line. line) rest)) ≡ take (whole_in (k - length text) rest) rest
        → lines (take k (text ++ flat_map (λ line. line) rest)) ≡ take (whole_in k (text ∷ rest)) (text ∷ rest)
    go true e one ahead =
        let whole : k ≡ length text + (k - length text) = omega (arith, leb-true (length text) k e) in
        let cut : take k (text ++ flat_map (λ line. line) rest) ≡ text ++ take (k - length text) (flat_map (λ line. line) rest) =
        ap (λ n. take n (text ++ flat_map (λ line. line) rest)) whole
        ∙ take-append-add text (flat_map (λ line. line) rest) (k - length text) in
        rw (cut, e)
        (lines_joined text (take (k - length text) (flat_map (λ line. line) rest)) (kept_line text one)
        ∙ rw (lines_one text one) (ap (λ l. text ∷ l) ahead))
    go false e one ahead =
        let short = leb-false (length text) k e in
        rw (take-append-le k text (flat_map (λ line. line) rest) (omega arith), e) (line_cut text k one short)

-- What is kept of them is the lines that stand whole.
pub kept_cut : (texts : List (List ℕ)) (k : ℕ) → every is_line texts ≡ true
    → kept_of (take k (flat_map (λ line. line) texts)) ≡ flat_map (λ line. line) (take (whole_in k texts) texts)
unfolding kept_of
kept_cut texts k good = ap (flat_map (λ line. line)) (lines_cut texts k good)

pub whole_within : (texts : List (List ℕ)) (k : ℕ) → whole_in k texts ≤ length texts
unfolding whole_in
whole_within [] k = omega arith
whole_within (text ∷ rest) k = go (leb (length text) k) (whole_within rest (k - length text))
  where
    go : (b : Bool) → whole_in (k - length text) rest ≤ length rest → cond b (suc (whole_in (k - length text) rest)) 0 ≤ suc (length rest)
    go true h = omega arith
    go false h = omega arith
