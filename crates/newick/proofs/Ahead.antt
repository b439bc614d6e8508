-- What stands ahead of a place of a text: its byte, and what stands ahead of the places behind it.
use mathlib.Core.Path.{◌≡◌, ap, ◌∙◌, sym}
use mathlib.Core.List.{List, ◌∷◌, ◌++◌}
use Prim.Native.Nat.{ℕ, suc, ◌+◌}
use native.Mathlib.Nat.{add-zero}
use native.Mathlib.Numerals.{add-one}
use lib.ListN.{length, get_or, drop}
use lib.Seq.{get_or-drop, drop-drop, drop-append_seam}
use Rattle.newick.specs.Reading.{byte_at}

module _ (text : List ℕ) (at : ℕ) where
  pub ahead_first : (rest : List ℕ) → drop at text ≡ rest → byte_at text at ≡ byte_at rest 0
  unfolding byte_at
  ahead_first rest e = ap (λ n. get_or text n 0) (sym (add-zero at)) ∙ sym (get_or-drop at text 0 0) ∙ ap (λ l. get_or l 0 0) e

  pub ahead_byte : (byte : ℕ) (rest : List ℕ) → drop at text ≡ byte ∷ rest → byte_at text at ≡ byte
  unfolding byte_at
  ahead_byte byte rest e = ahead_first (byte ∷ rest) e

  pub ahead_next : (byte : ℕ) (rest : List ℕ) → drop at text ≡ byte ∷ rest → drop (suc at) text ≡ rest
  ahead_next byte rest e = ap (λ n. drop n text) (sym (add-one at)) ∙ sym (drop-drop 1 at text) ∙ ap (drop 1) e

  pub ahead_over : (part rest : List ℕ) → drop at text ≡ part ++ rest → drop (at + length part) text ≡ rest
  ahead_over part rest e = sym (drop-drop (length part) at text) ∙ ap (drop (length part)) e ∙ drop-append_seam part rest
