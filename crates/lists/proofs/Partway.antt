-- A part that is written piece by piece: what is written and what is left are always the whole.
use mathlib.Core.Path.{◌≡◌, refl, ap, ◌∙◌, sym}
use mathlib.Core.List.{List, [], ◌∷◌, ◌++◌, append_assoc, append-nil}
use Prim.Native.Nat.{ℕ, ◌+◌, ◌<◌, ◌≤◌}
use native.Mathlib.Omega.{arith}
use lib.ListN.{length, set, length-append}
use Rattle.lists.specs.Written.{written_at}
use Rattle.lists.proofs.Written.{length_written}
use Rattle.lists.proofs.Behind.{set_written, Wrote, wrote_none, then_wrote}

pub record Partway {A : Type 0} (whole : List A) (at : ℕ) (text rest s : List A) (here : ℕ) : Type 0 where
  pub front : List A
  pub parts : whole ≡ front ++ rest
  pub wrote : Wrote at front text s here

module _ {A : Type 0} (whole : List A) (at : ℕ) (text : List A) (room : at + length whole ≤ length text) where
  pub parts_start : (rest : List A) → whole ≡ rest → Partway whole at text rest text at
  parts_start rest e = record { front = []; parts = e; wrote = wrote_none at text }

  module _ {rest s : List A} {here : ℕ} (w : Partway whole at text rest s here) where
    lengths : length whole ≡ length w.front + length rest
    lengths = ap length w.parts ∙ length-append w.front rest

    pub parts_same : length s ≡ length text
    parts_same = ap length w.wrote.written ∙ length_written at w.front text (omega (arith, lengths))

    -- What is left has room.
    pub parts_room : here + length rest ≤ length s
    parts_room = omega (arith, lengths, parts_same, w.wrote.behind)

  pub parts_mark : {mark : A} {rest s : List A} {here : ℕ} → Partway whole at text (mark ∷ rest) s here → (here < length s) × (here < length text)
  parts_mark w = (omega (arith, parts_room w), omega (arith, parts_room w, parts_same w))

  -- A part written, and one behind an element that was stored.
  pub parts_piece : (part more : List A) {s after : List A} {here end : ℕ} → Partway whole at text (part ++ more) s here
      → end ≡ here + length part → after ≡ written_at here part s → Partway whole at text more after end
  parts_piece part more {s} {after} {here} {end} w e f =
      record {
        front = w.front ++ part;
        parts = w.parts ∙ sym (append_assoc w.front part more);
        wrote = then_wrote w.wrote (record { behind = e; written = f }) (omega (arith, parts_room w, parts_same w));
      }

  pub parts_next : (mark : A) (part more : List A) {s after : List A} {here end : ℕ} → Partway whole at text (mark ∷ (part ++ more)) s here
      → end ≡ here + 1 + length part → after ≡ written_at (here + 1) part (set s here mark) → Partway whole at text more after end
  parts_next mark part more {s} {after} {here} {end} w e f =
      parts_piece part more (parts_piece (mark ∷ []) (part ++ more) w refl (set_written s here mark (omega (arith, parts_room w)))) e f

  pub parts_end : {s : List A} {here : ℕ} → Partway whole at text [] s here → (here ≡ at + length whole) × (s ≡ written_at at whole text)
  parts_end w =
      let e = w.parts ∙ append-nil w.front in
      (w.wrote.behind ∙ ap (λ l. at + length l) (sym e), w.wrote.written ∙ ap (λ l. written_at at l text) (sym e))
