-- "19 at the first byte that no such text can go on with, or at its end if it stops short …, or 1 at a 257th `(` if that stands first".
use Rattle.std.specs.Prelude.{◌≡◌, List, ◌++◌, ℕ, suc, ◌<◌, ◌≤◌, length, get_or, take, Err}
use Prim.Native.Char.{code}
use Rattle.refusal.specs.declared.Refusal.TheVariants.{NewickForm, TooManyNodes}
use Rattle.newick.specs.Grammar.{Shape, Spells}
use Rattle.newick.specs.Reading.{opened}
use Rattle.newick.specs.Calls.{newick_read}

-- 19: up to the place some text of the grammar begins so, one that goes on where this one ends; with the byte at the place none begins
-- so. No more `(` stand before it than a text may have nodes.
pub record StopsAt (most : ℕ) (text : List ℕ) (place : ℕ) : Type 0 where
  pub within : place ≤ length text
  pub shape : Shape
  pub rest : List ℕ
  pub begins : Spells shape (take place text ++ rest)
  pub more : place ≡ length text → 0 < length rest
  pub no_further : place < length text → (other : Shape) (beyond : List ℕ) → Spells other (take (suc place) text ++ beyond) → ⊥
  pub few : opened text place ≤ most

-- 1: at the place a `(` stands, up to and with it some text of the grammar begins so, and as many stand before it as a text may have nodes.
pub record CrowdedAt (most : ℕ) (text : List ℕ) (place : ℕ) : Type 0 where
  pub opens : get_or text place 0 ≡ code "("
  pub shape : Shape
  pub rest : List ℕ
  pub begins : Spells shape (take (suc place) text ++ rest)
  pub full : opened text place ≡ most

-- Of every call that gives 19, and of every call that gives 1 with a place.
abbrev pub FormRefused : Type 0
FormRefused =
    (most : ℕ) (text : List ℕ) (room place : ℕ) → newick_read most text room ≡ Err (NewickForm place) → StopsAt most text place

abbrev pub CrowdRefused : Type 0
CrowdRefused =
    (most : ℕ) (text : List ℕ) (room place : ℕ) → newick_read most text room ≡ Err (TooManyNodes place) → CrowdedAt most text place

-- The two exclude each other, wherever their places are.
abbrev pub NeverBoth : Type 0
NeverBoth = (most : ℕ) (text : List ℕ) (place other : ℕ) → StopsAt most text place → CrowdedAt most text other → ⊥
