-- What writing an accepted tree answers, by whether the text fits; and that a text that was written fits.
use Rattle.std.specs.Prelude.{Err, Ok, Result}
use Rattle.refusal.specs.declared.Refusal.{Refusal}
use mathlib.Core.Path.{◌≡◌, refl}
use mathlib.Core.Bool.{Bool, true, false, cond}
use mathlib.Core.List.{List}
use Prim.Native.Nat.{ℕ, ◌<◌, ◌≤◌}
use native.Mathlib.Omega.{arith}
use borrow.Author.Tests.{le-leb, lt-leb, leb-true}
use lib.Dec.{leb}
use lib.ListN.{length}
use Rattle.refusal.specs.declared.Refusal.TheVariants.{Room}
use Rattle.tree.specs.Writing.{written_as}

pub short_answer : (text : List ℕ) (room : ℕ) → room < length text → Err Room ≡ written_as (Ok tt) text room
unfolding written_as
short_answer text room h = rw (lt-leb (length text) room h)

pub whole_answer : (text : List ℕ) (room count : ℕ) → count ≡ length text → length text ≤ room → Ok count ≡ written_as (Ok tt) text room
unfolding written_as
whole_answer text room count e h = rw (e, le-leb (length text) room h)

-- What was written has the text's length and fits.
pub record Fits (text : List ℕ) (room count : ℕ) : Type 0 where
  pub exact : count ≡ length text
  pub within : length text ≤ room

pub written_fits : (checked : Result (Unit {0}) Refusal) (text : List ℕ) (room count : ℕ) → Ok count ≡ written_as checked text room → Fits text room count
unfolding written_as
written_fits (Ok tt) text room count e = go (leb (length text) room) refl e
  where
    go : (b : Bool) → leb (length text) room ≡ b → Ok count ≡ cond b (Ok (length text)) (Err Room) → Fits text room count
    go true f e = record { exact = cc; within = leb-true (length text) room f }
    go false f e = let z : ◌≡◌ {A = ℕ} 0 1 = cc in absurd (omega arith)
written_fits (Err refusal) text room count e = let z : ◌≡◌ {A = ℕ} 0 1 = cc in absurd (omega arith)
