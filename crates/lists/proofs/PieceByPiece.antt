-- Pieces of a bounded length written one behind the other: how far the writing has come.
use mathlib.Core.Path.{◌≡◌, refl, ◌∙◌}
use mathlib.Core.List.{List, [], ◌++◌}
use Prim.Native.Nat.{ℕ, ◌+◌, ◌*◌, ◌<◌, ◌≤◌}
use native.Mathlib.Nat.{mul-zero, mul-suc, mul-le-mul_left}
use native.Mathlib.Numerals.{add-one}
use native.Mathlib.Omega.{arith}
use lib.ListN.{length}
use Rattle.lists.proofs.Behind.{Wrote, wrote_none, then_wrote}

-- The text of the first pieces is written.
pub record Pieces {A : Type 0} (text_of : ℕ → List A) (width start count : ℕ) (before after : List A) (at done : ℕ) : Type 0 where
  pub some : done ≤ count
  pub near : at ≤ start + width * done
  pub size : length after ≡ length before
  pub wrote : Wrote start (text_of done) before after at

module _ {A : Type 0} (text_of : ℕ → List A) (width start count : ℕ) (before : List A) (room : start + width * count ≤ length before) where
  pub pieces_start : text_of 0 ≡ [] → Pieces text_of width start count before before start 0
  pieces_start e =
      record { some = omega arith; near = rw (mul-zero width) (omega arith); size = refl; wrote = rw e (wrote_none start before) }

  module _ (after : List A) (at done : ℕ) (p : Pieces text_of width start count before after at done) where
    pub pieces_go : (next piece : List A) (end : ℕ) → done < count → text_of (done + 1) ≡ text_of done ++ piece
        → Wrote at piece after next end → end ≤ at + width → length next ≡ length after → Pieces text_of width start count before next end (done + 1)
    pieces_go next piece end h more w near same =
        let wider : width * (done + 1) ≡ width * done + width = rw (add-one done) (mul-suc width done) in
        let within : width * done ≤ width * count = mul-le-mul_left width p.some in
        record {
          some = omega arith;
          near = omega (arith, p.near, wider);
          size = same ∙ p.size;
          wrote = rw more (then_wrote p.wrote w (omega (arith, p.near, within)));
        }

    pub pieces_end : count ≤ done → Wrote start (text_of count) before after at
    pieces_end h =
        let e : count ≡ done = omega (arith, p.some) in
        rw e p.wrote
