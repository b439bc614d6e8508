-- A text from a place on as the beginning of something longer.
use mathlib.Core.Path.{◌≡◌, ap, ◌∙◌, sym}
use mathlib.Core.List.{List, ◌∷◌, ◌++◌, append_assoc}
use Prim.Native.Nat.{ℕ, ◌<◌}
use native.Mathlib.Omega.{arith}
use lib.ListN.{length, drop, length-append}
use lib.Seq.{drop-length}

-- From a place on the text is the beginning of something longer.
pub record Begins (text : List ℕ) (at : ℕ) (whole : List ℕ) : Type 0 where
  pub rest : List ℕ
  pub more : 0 < length rest
  pub joined : drop at text ++ rest ≡ whole

pub begins_longer : (text : List ℕ) (at : ℕ) (whole longer : List ℕ) → Begins text at whole → Begins text at (whole ++ longer)
begins_longer text at whole longer b =
    record {
      rest = b.rest ++ longer;
      more = omega (arith, b.more, length-append b.rest longer);
      joined = sym (append_assoc (drop at text) b.rest longer) ∙ ap (λ l. l ++ longer) b.joined;
    }

pub begins_behind : (text : List ℕ) (at end : ℕ) (front whole : List ℕ) → drop at text ≡ front ++ drop end text → Begins text end whole
    → Begins text at (front ++ whole)
begins_behind text at end front whole e b =
    record {
      rest = b.rest;
      more = b.more;
      joined = ap (λ l. l ++ b.rest) e ∙ append_assoc front (drop end text) b.rest ∙ ap (λ l. front ++ l) b.joined;
    }

pub begins_end : (text : List ℕ) (at byte : ℕ) (whole : List ℕ) → at ≡ length text → Begins text at (byte ∷ whole)
begins_end text at byte whole e =
    record { rest = byte ∷ whole; more = omega arith; joined = rw (e, drop-length text) }
