-- 19 and 1 exclude each other: up to the 1 the text can go on, and no more `(` stand before the 19 than may.
use mathlib.Core.Path.{◌≡◌, refl, ap, ◌∙◌, sym}
use mathlib.Core.Bool.{Bool, true, false}
use mathlib.Core.List.{List, ◌++◌, append_assoc}
use Prim.Native.Nat.{ℕ, suc, ◌<◌, ◌≤◌}
use native.Mathlib.Omega.{arith}
use borrow.Author.Tests.{ltb-true, ltb-false}
use lib.Dec.{ltb}
use lib.ListN.{length, take, drop, take-append-drop}
use lib.Seq.{take-take}
use Rattle.lists.specs.Counting.{same}
use Rattle.newick.specs.Reading.{byte_at}
use Rattle.newick.specs.Stops.{NeverBoth}
use Rattle.newick.proofs.DigitsStand.{byte_stands}
use Rattle.newick.proofs.Opened.{opened_byte, opened_grows}

-- A beginning of a beginning.
begun_longer : (text rest : List ℕ) (place other : ℕ) → place ≤ other
    → take other text ++ rest ≡ take place text ++ (drop place (take other text) ++ rest)
begun_longer text rest place other h =
    ap (λ l. l ++ rest) (sym (take-append-drop place (take other text)) ∙ ap (λ l. l ++ drop place (take other text)) (take-take place other text h))
    ∙ append_assoc (take place text) (drop place (take other text)) rest

pub never_both : NeverBoth
unfolding byte_at same
never_both most text place other stops crowds = go (ltb other place) refl
  where
    seen : other < length text
    seen = (byte_stands text other 40 crowds.opens (omega arith)).0

    go : (b : Bool) → ltb other place ≡ b → ⊥
    go true q =
        let h = ltb-true other place q in
        omega (arith, opened_byte text other 40 crowds.opens (omega arith), opened_grows text (suc other) place h, stops.few, crowds.full)
    go false q =
        let h = ltb-false other place q in
        stops.no_further (omega (arith, seen)) crowds.shape (drop (suc place) (take (suc other) text) ++ crowds.rest)
        (rw (begun_longer text crowds.rest (suc place) (suc other) (omega arith)) at crowds.begins)
