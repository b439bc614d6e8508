-- One step along a text, line by line.
use Rattle.std.proofs.Common.{◌≡◌, refl, ap, ◌∙◌, sym, Bool, true, false, cond, List, [], ◌∷◌, ◌++◌, append_assoc, ℕ, suc, ◌+◌, ◌-◌, ◌<◌, ◌≤◌, length, get_or, take, drop, length-append, arith, MatchOption, Option, Some, None, Bor}
use Rattle.std.specs.Option.{option_map, unwrap_or}
use Rattle.std.proofs.lemmas.Option.{unwrap_or-slice_get}
use Rattle.std.proofs.lemmas.Bool.{ltb-true, ltb-false}
use Rattle.std.proofs.lemmas.List.{length-take-le, drop-drop, get_or-append-add, get_or_append_left}
use Rattle.std.specs.List.{position, position_or_len, slice_get}
use mathlib.Core.List.{flat_map}
use lib.Dec.{eqb, ltb}
use Rattle.fields.specs.Lines.{lines, lines_after, first_line, kept_of, found_line}

-- The byte is an LF.
abbrev is_feed : ℕ → Bool
is_feed byte = eqb byte 10

-- A search for the first LF, in the middle of a line.
line_ends : (begun bytes : List ℕ) → position_or_len is_feed bytes < length bytes
    → lines_after begun bytes
    ≡ (begun ++ take (position_or_len is_feed bytes + 1) bytes) ∷ lines (drop (position_or_len is_feed bytes + 1) bytes)
unfolding lines lines_after
line_ends begun [] h = absurd (omega arith)
line_ends begun (byte ∷ rest) h = go (eqb byte 10) refl (line_ends (begun ++ (byte ∷ [])) rest)
  where
    go : (b : Bool) → eqb byte 10 ≡ b
        → (position_or_len is_feed rest < length rest
        → lines_after (begun ++ (byte ∷ [])) rest
        ≡ ((begun ++ (byte ∷ [])) ++ take (position_or_len is_feed rest + 1) rest) ∷ lines (drop (position_or_len is_feed rest + 1) rest))
        → lines_after begun (byte ∷ rest)
        ≡ (begun ++ take (position_or_len is_feed (byte ∷ rest) + 1) (byte ∷ rest)) ∷ lines (drop (position_or_len is_feed (byte ∷ rest) + 1) (byte ∷ rest))
    go true e on = rw e
    go false e on =
        let n = position_or_len is_feed rest in
        let more : 1 + n + 1 ≡ suc (n + 1) = omega arith in
        rw (e, more) (rw append_assoc at (on (omega (arith, rw e at h))))

no_line : (begun bytes : List ℕ) → length bytes ≤ position_or_len is_feed bytes → lines_after begun bytes ≡ []
unfolding lines_after
no_line begun [] h = refl
no_line begun (byte ∷ rest) h = go (eqb byte 10) refl (no_line (begun ++ (byte ∷ [])) rest)
  where
    go : (b : Bool) → eqb byte 10 ≡ b
        → (length rest ≤ position_or_len is_feed rest → lines_after (begun ++ (byte ∷ [])) rest ≡ [])
        → lines_after begun (byte ∷ rest) ≡ []
    go true e on = absurd (omega (arith, rw e at h))
    go false e on = rw e (on (omega (arith, rw e at h)))

-- What a search for the first LF finds: the end of the first line, or that there is no line.
pub feed_found : (bytes : List ℕ) (found : Option ℕ) → found ≡ position is_feed bytes
    → MatchOption found (lines bytes ≡ [])
    (λ place. (place < length bytes) × (lines bytes ≡ take (place + 1) bytes ∷ lines (drop (place + 1) bytes)))
unfolding lines
feed_found bytes found e = rw e (go (ltb (position_or_len is_feed bytes) (length bytes)) refl)
  where
    go : (b : Bool) → ltb (position_or_len is_feed bytes) (length bytes) ≡ b
        → MatchOption (cond b (Some (position_or_len is_feed bytes)) None) (lines bytes ≡ [])
        (λ place. (place < length bytes) × (lines bytes ≡ take (place + 1) bytes ∷ lines (drop (place + 1) bytes)))
    go true f = let h = ltb-true (position_or_len is_feed bytes) (length bytes) f in (h, line_ends [] bytes h)
    go false f = no_line [] bytes (ltb-false (position_or_len is_feed bytes) (length bytes) f)

-- Line by line.
module _ (bytes : List ℕ) where
  -- The line that a text begins with, and the lines after it; or there is none.
  record Split (line : List ℕ) : Type 0 where
    more : 0 < length line → lines bytes ≡ line ∷ lines (drop (length line) bytes)
    none : length line ≡ 0 → lines bytes ≡ []
    stands : take (length line) bytes ≡ line

  split : Split (first_line bytes)
  unfolding first_line
  split = go (position is_feed bytes) (feed_found bytes (position is_feed bytes) refl)
    where
      go : (found : Option ℕ)
          → MatchOption found (lines bytes ≡ [])
          (λ place. (place < length bytes) × (lines bytes ≡ take (place + 1) bytes ∷ lines (drop (place + 1) bytes)))
          → Split (first_line bytes)
      go None e = rw e (record { more = λ h. absurd (omega arith); none = λ h. e; stands = refl })
      go (Some place) h =
          let long : length (take (place + 1) bytes) ≡ place + 1 = length-take-le (place + 1) bytes (omega arith) in
          rw h.1
          (record {
            more = λ m. rw long h.1;
            none = λ z. absurd (omega arith);
            stands = ap (λ n. take n bytes) long;
          })

  pub first_line_stands : take (length (first_line bytes)) bytes ≡ first_line bytes
  first_line_stands = split.stands

  pub next_line : 0 < length (first_line bytes) → lines bytes ≡ first_line bytes ∷ lines (drop (length (first_line bytes)) bytes)
  next_line h = split.more h

  pub no_next_line : length (first_line bytes) ≡ 0 → lines bytes ≡ []
  no_next_line e = split.none e

-- The same for a text from a line's start on, with the place where that line ends.
module _ (bytes : List ℕ) (from end : ℕ) (is_end : end ≡ from + length (first_line (drop from bytes))) where
  pub lines_none : end ≡ from → lines (drop from bytes) ≡ []
  lines_none e = no_next_line (drop from bytes) (omega arith)

  pub line_part : take (end - from) (drop from bytes) ≡ first_line (drop from bytes)
  line_part =
      let e : end - from ≡ length (first_line (drop from bytes)) = omega arith in
      rw e (first_line_stands (drop from bytes))

  pub lines_next : (end ≡ from → ⊥) → lines (drop from bytes) ≡ take (end - from) (drop from bytes) ∷ lines (drop end bytes)
  lines_next more =
      rw (line_part, is_end)
      (next_line (drop from bytes) (omega arith)
      ∙ ap (λ l. first_line (drop from bytes) ∷ lines l) (drop-drop (length (first_line (drop from bytes))) from bytes))

  pub kept_more : (end ≡ from → ⊥) → from + length (kept_of (drop from bytes)) ≡ end + length (kept_of (drop end bytes))
  unfolding kept_of flat_map
  kept_more more =
      let both : kept_of (drop from bytes) ≡ first_line (drop from bytes) ++ kept_of (drop end bytes) =
      rw (lines_next more, line_part) in
      omega (arith, ap length both, length-append (first_line (drop from bytes)) (kept_of (drop end bytes)))

few_after : (begun bytes : List ℕ) → length (lines_after begun bytes) ≤ length bytes
unfolding lines_after
few_after begun [] = omega arith
few_after begun (byte ∷ rest) = go (eqb byte 10) (few_after [] rest) (few_after (begun ++ (byte ∷ [])) rest)
  where
    go : (b : Bool) → length (lines_after [] rest) ≤ length rest → length (lines_after (begun ++ (byte ∷ [])) rest) ≤ length rest
        → length (cond b ((begun ++ (byte ∷ [])) ∷ []) [] ++ lines_after (cond b [] (begun ++ (byte ∷ []))) rest) ≤ suc (length rest)
    go true h k = omega arith
    go false h k = omega arith

-- There are no more lines than bytes.
pub lines_few : (bytes : List ℕ) → length (lines bytes) ≤ length bytes
unfolding lines
lines_few bytes = few_after [] bytes

-- The part with this number, or an empty one.
pub part_found : (texts : List (List ℕ)) (n : ℕ) (found : Option (Bor (List ℕ))) (empty : Bor (List ℕ))
    → option_map (λ part. part.now) found ≡ slice_get texts n → empty.now ≡ [] → (unwrap_or found empty).now ≡ get_or texts n []
part_found texts n None empty e none = none ∙ (rw (← e) at (unwrap_or-slice_get texts n []))
part_found texts n (Some part) empty e none = rw (← e) at (unwrap_or-slice_get texts n [])

-- A line of two texts, the one behind the other.
module _ (kept new : List ℕ) (line : ℕ) where
  pub found_in_kept : line < length (lines kept) → get_or (lines kept) line [] ≡ found_line kept new line
  unfolding found_line
  found_in_kept h = sym (get_or_append_left (lines kept) (lines new) [] line h)

  pub found_in_new : length (lines kept) ≤ line → get_or (lines new) (line - length (lines kept)) [] ≡ found_line kept new line
  unfolding found_line
  found_in_new h =
      let e : length (lines kept) + (line - length (lines kept)) ≡ line = omega arith in
      sym (get_or-append-add (lines kept) (lines new) (line - length (lines kept)) []) ∙ ap (λ n. get_or (lines kept ++ lines new) n []) e
