-- Parts written one behind the other are one part, and so are elements.
use mathlib.Core.Path.{◌≡◌, refl, ap, ◌∙◌, sym}
use mathlib.Core.List.{List, [], ◌∷◌, ◌++◌, map, append_assoc, append-nil, map-append}
use Prim.Native.Nat.{ℕ, ◌+◌, ◌-◌, ◌<◌, ◌≤◌}
use native.Mathlib.Nat.{zero-add, add-zero}
use native.Mathlib.Numerals.{add-one}
use native.Mathlib.Omega.{arith}
use borrow.Rule.Slice.PartMut.{put_mid}
use lib.ListN.{length, get_or, set, take, drop, length-append, length-take, length-drop, length-map, drop_of_length-le, take-append-drop}
use lib.Seq.{sets, sets-eq, set_split, drop-drop, drop-append-add, take_at, take-suc, length-take-le}
use Rattle.lists.specs.Written.{written_at}
use Rattle.lists.proofs.Written.{length_written, drop_written}
use Rattle.lists.proofs.Steps.{part_to_end}

module _ {A : Type 0} where
  pub set_written : (s : List A) (i : ℕ) (v : A) → i < length s → set s i v ≡ written_at i (v ∷ []) s
  unfolding written_at
  set_written s i v h = rw (add-one i) (set_split s i v h)

  -- Elements stored one behind the other are a part written there.
  pub stores_written : (part s : List A) (place : ℕ) → place + length part ≤ length s → sets s place part ≡ written_at place part s
  unfolding written_at
  stores_written part s place h = sets-eq part s place h ∙ append_assoc (take place s) part (drop (place + length part) s)

  pub nothing_written : (place : ℕ) (s : List A) → written_at place [] s ≡ s
  unfolding written_at
  nothing_written place s = rw (add-zero place) (take-append-drop place s)

  -- What is left of a list lent from a place on, with a part written over its front.
  pub rest_written : (place : ℕ) (part s : List A) → place ≤ length s
      → put_mid place (length s - place) s (written_at 0 part (take (length s - place) (drop place s))) ≡ written_at place part s
  unfolding written_at
  rest_written place part s h =
      rw (
        part_to_end s place,
        zero-add (length part),
        drop-drop (length part) place s,
        drop_of_length-le (drop place s) {i = length s - place} (simp length-drop (omega arith)),
        append-nil (part ++ drop (place + length part) s),
      )

  pub written_behind : (place : ℕ) (p q s : List A) → place + length p ≤ length s
      → written_at (place + length p) q (written_at place p s) ≡ written_at place (p ++ q) s
  unfolding written_at
  written_behind place p q s h =
      let front = take place s ++ p in
      let l : length front ≡ place + length p =
      length-append (take place s) p ∙ ap (λ n. n + length p) (length-take-le place s (omega arith)) in
      let e : place + length p + length q ≡ place + length (p ++ q) = omega (arith, length-append p q) in
      let near : take (place + length p) (written_at place p s) ≡ front =
      ap (take (place + length p)) (sym (append_assoc (take place s) p (drop (place + length p) s)))
      ∙ take_at front (drop (place + length p) s) (place + length p) l in
      let far : drop (place + length p + length q) (written_at place p s) ≡ drop (place + length (p ++ q)) s =
      drop_written place p s h (place + length p + length q) (omega arith) ∙ ap (λ n. drop n s) e in
      both near far
      ∙ append_assoc (take place s) p (q ++ drop (place + length (p ++ q)) s)
      ∙ ap (λ l. take place s ++ l) (sym (append_assoc p q (drop (place + length (p ++ q)) s)))
    where
      both : {a b c d : List A} → a ≡ b → c ≡ d → a ++ (q ++ c) ≡ b ++ (q ++ d)
      both e f = rw (e, f)

  -- One element stored behind a part.
  pub written_one : (place : ℕ) (part s : List A) (i : ℕ) (v : A) → i ≡ place + length part → i < length s
      → set (written_at place part s) i v ≡ written_at place (part ++ (v ∷ [])) s
  written_one place part s i v e h =
      rw e
      (set_written (written_at place part s) (place + length part) v (rw (length_written place part s (omega arith)) (omega arith))
      ∙ written_behind place part (v ∷ []) s (omega arith))

  -- A part written over the front of what was lent from a place on, and one element stored behind it.
  pub written_and_one : (place : ℕ) (part : List A) (mark : A) (s : List A) → place + (length part + 1) ≤ length s
      → set (put_mid place (length s - place) s (written_at 0 part (take (length s - place) (drop place s)))) (place + length part) mark
      ≡ written_at place (part ++ (mark ∷ [])) s
  written_and_one place part mark s h =
      rw (rest_written place part s (omega arith)) (written_one place part s (place + length part) mark refl (omega arith))

  -- At the front there is always room.
  pub written_behind_front : (p q s : List A) → written_at (length p) q (written_at 0 p s) ≡ written_at 0 (p ++ q) s
  unfolding written_at
  written_behind_front p q s =
      rw (
        zero-add (length p),
        zero-add (length (p ++ q)),
        take_at p (drop (length p) s) (length p) refl,
        drop-append-add p (drop (length p) s) (length q),
        drop-drop (length q) (length p) s,
        length-append p q,
      )
      (sym (append_assoc p q (drop (length p + length q) s)))

  -- A part written behind one of so many elements at the front.
  pub front_behind : (p q s out : List A) (n : ℕ) → length p ≡ n → out ≡ written_at 0 p s → written_at n q out ≡ written_at 0 (p ++ q) s
  front_behind p q s out n l e = rw (e, ← l) (written_behind_front p q s)

-- A part was written at a place, and this is the place after it.
pub record Wrote {A : Type 0} (at : ℕ) (part before after : List A) (end : ℕ) : Type 0 where
  pub behind : end ≡ at + length part
  pub written : after ≡ written_at at part before

module _ {A : Type 0} where
  pub wrote_none : (at : ℕ) (before : List A) → Wrote at [] before before at
  wrote_none at before = record { behind = omega arith; written = sym (nothing_written at before) }

  -- One part behind the other.
  pub then_wrote : {at middle end : ℕ} {p q before between after : List A} → Wrote at p before between middle → Wrote middle q between after end
      → middle ≤ length before → Wrote at (p ++ q) before after end
  then_wrote {at} {middle} {end} {p} {q} {before} a b room =
      record {
        behind = omega (arith, a.behind, b.behind, length-append p q);
        written =
            b.written
            ∙ ap (written_at middle q) a.written
            ∙ ap (λ n. written_at n q (written_at at p before)) a.behind
            ∙ written_behind at p q before (omega (arith, a.behind));
      }

  -- A field and the mark behind it.
  pub field_wrote : (field : List A) (mark : A) {at end : ℕ} {before after : List A} → end ≡ at + (length field + 1)
      → after ≡ written_at at (field ++ (mark ∷ [])) before → Wrote at (field ++ (mark ∷ [])) before after end
  field_wrote field mark e w = record { behind = omega (arith, e, length-append field (mark ∷ [])); written = w }

-- A rule's values of a list, written one after the other over the front.
module _ {A B : Type 0} (rule : A → B) (s : List A) (t : List B) where
  pub mapped_start : t ≡ written_at 0 (map rule (take 0 s)) t
  unfolding written_at
  mapped_start = refl

  pub mapped_next : (i : ℕ) (d : A) → i < length s → length s ≤ length t
      → set (written_at 0 (map rule (take i s)) t) i (rule (get_or s i d)) ≡ written_at 0 (map rule (take (i + 1) s)) t
  mapped_next i d h k =
      let part = map rule (take i s) in
      let size : i ≡ 0 + length part = simp (length-map, length-take) (omega arith) in
      let more : map rule (take (i + 1) s) ≡ part ++ (rule (get_or s i d) ∷ []) =
      rw (add-one i, take-suc s i d h) (map-append rule (take i s) (get_or s i d ∷ [])) in
      written_one 0 part t i (rule (get_or s i d)) size (omega arith) ∙ ap (λ p. written_at 0 p t) (sym more)
