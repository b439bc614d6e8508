-- A text refused by 19, or by 1 for a node too many: up to the place such a text begins, and with the byte at the place of a 19 none begins
-- so.
use mathlib.Core.Path.{◌≡◌, refl, ap, ◌∙◌, sym}
use mathlib.Core.Bool.{false}
use mathlib.Core.List.{List, ◌++◌}
use mathlib.Core.Logic.{inl, inr}
use Prim.Native.Nat.{ℕ, suc, ◌+◌, ◌<◌, ◌≤◌}
use native.Mathlib.Nat.{add-zero}
use native.Mathlib.Omega.{arith}
use lib.ListN.{length, take, length-append, get_or-eq_default, get_or-append}
use lib.Seq.{length-take-le, get_or-take}
use Rattle.newick.specs.Grammar.{Shape, Spells}
use Rattle.newick.specs.Reading.{Reading, got, stuck, crowded, byte_at, opened, text_read}
use Rattle.newick.specs.Stops.{StopsAt, CrowdedAt}
use Rattle.newick.specs.code.Within.{root_within}
use Rattle.newick.proofs.Shapes.{name_of, rows_in}
use Rattle.newick.proofs.Counted.{Counted, root_agrees}
use Rattle.newick.proofs.DigitsTheSame.{Alike}
use Rattle.newick.proofs.ReadTheSame.{reach, crowds, root_same}
use Rattle.newick.proofs.ReadingStops.{Halts}
use Rattle.newick.proofs.WholeText.{root_ahead, TextWay, whole, more_behind, cut_short, too_many, text_way}
use Rattle.newick.proofs.TextBegun.{TextBegun, root_short, root_whole}

module _ (text : List ℕ) (place : ℕ) where
  -- A text is like its own beginning up to where that ends, and like every text that begins so.
  front_alike : place ≤ length text → Alike text (take place text) place
  unfolding byte_at
  front_alike h =
      record {
        before = λ at low. get_or-take place text at 0 low;
        there = inr (get_or-eq_default (take place text) 0 (omega (arith, length-take-le place text h)));
      }

  begun_alike : place < length text → (beyond : List ℕ) → Alike text (take (suc place) text ++ beyond) place
  unfolding byte_at
  begun_alike h beyond = record { before = λ at low. as_before at (omega arith); there = inl (as_before place (omega arith)) }
    where
      as_before : (at : ℕ) → at < suc place → byte_at (take (suc place) text ++ beyond) at ≡ byte_at text at
      as_before at low =
          get_or-append (take (suc place) text) beyond 0 at (omega (arith, length-take-le (suc place) text h)) ∙ get_or-take (suc place) text at 0 low

-- What reading the root came to.
module _ (most : ℕ) (text : List ℕ) (r : Reading) (e : root_within most text ≡ r) where
  reached : reach r ≤ length text
  reached = rw e at ((root_same text text 0 0 (record { before = λ at h. refl; there = inl refl }) most).within (omega arith))

  front_size : length (take (reach r) text) ≡ reach r
  front_size = length-take-le (reach r) text reached

  -- The text up to there comes to the same.
  front_read : root_within most (take (reach r) text) ≡ r
  front_read =
      let s = root_same text (take (reach r) text) (reach r) 0 (front_alike text (reach r) reached) most in
      rw (add-zero most) at (s.same (rw e (omega arith)) (λ c. refl)) ∙ e

  front_begun : Halts (take (reach r) text) r → (b : TextBegun (take (reach r) text)) × (0 < length b.rest)
  front_begun h = root_short most (take (reach r) text) (rw front_read h)

  -- So does every text that goes on so, and where more nodes may stand too: none that does is whole.
  none_further : crowds r ≡ false → reach r < length text → (other : Shape) (beyond : List ℕ) → Spells other (take (suc (reach r)) text ++ beyond) → ⊥
  unfolding reach
  none_further calm h other beyond spells =
      let begun : List ℕ = take (suc (reach r)) text ++ beyond in
      let extra = length (rows_in other) in
      let s = root_same text begun (reach r) extra (begun_alike text (reach r) h beyond) most in
      let again = s.same (rw e (omega arith)) (λ c. let z : ◌≡◌ {A = ℕ} 0 1 = cc in absurd (omega arith)) in
      let read : got (name_of other) (rows_in other) (length begun) ≡ r =
      sym (root_ahead (most + extra) other begun spells (omega arith)) ∙ again ∙ e in
      omega (arith, ap reach read, length-append (take (suc (reach r)) text) beyond, length-take-le (suc (reach r)) text h)

  stops : crowds r ≡ false → (b : TextBegun (take (reach r) text)) → (reach r ≡ length text → 0 < length b.rest) → opened text (reach r) ≤ most
      → StopsAt most text (reach r)
  stops calm b more few =
      record {
        within = reached;
        shape = b.shape;
        rest = b.rest;
        begins = b.spells;
        more = more;
        no_further = none_further calm;
        few = few;
      }

module _ (most : ℕ) (text : List ℕ) (place : ℕ) where
  pub text_stops : text_read most text ≡ stuck place → StopsAt most text place
  unfolding reach crowds Halts Counted
  text_stops e = go (text_way most text)
    where
      go : TextWay most text → StopsAt most text place
      go (whole name rows root read) = let z : ◌≡◌ {A = ℕ} 0 1 = cc in absurd (omega arith)
      go (more_behind name rows at root other read) =
          let here : at ≡ place = cc in
          let t = rw root at (root_agrees most text).counted in
          let size = front_size most text (got name rows at) root in
          let front = front_read most text (got name rows at) root ∙ ap (λ end. got name rows end) (sym size) in
          rw (← here)
          (stops most text (got name rows at) root refl (root_whole most (take at text) name rows front) (λ p. absurd (other p))
          (omega (arith, t.all, t.few)))
      go (cut_short at root read) =
          let here : at ≡ place = cc in
          let b = front_begun most text (stuck at) root (sym (front_size most text (stuck at) root)) in
          rw (← here) (stops most text (stuck at) root refl b.0 (λ p. b.1) (rw root at (root_agrees most text).counted))
      go (too_many at root read) = let z : ◌≡◌ {A = ℕ} 0 1 = cc in absurd (omega arith)

  pub text_crowded : text_read most text ≡ crowded place → CrowdedAt most text place
  unfolding reach crowds Halts Counted byte_at
  text_crowded e = go (text_way most text)
    where
      go : TextWay most text → CrowdedAt most text place
      go (whole name rows root read) = let z : ◌≡◌ {A = ℕ} 0 1 = cc in absurd (omega arith)
      go (more_behind name rows at root other read) = let z : ◌≡◌ {A = ℕ} 0 1 = cc in absurd (omega arith)
      go (cut_short at root read) = let z : ◌≡◌ {A = ℕ} 0 1 = cc in absurd (omega arith)
      go (too_many at root read) =
          let here : at ≡ place = cc in
          let b = front_begun most text (crowded at) root (sym (front_size most text (crowded at) root)) in
          let t = rw root at (root_agrees most text).counted in
          rw (← here) (record { opens = t.0; shape = b.0.shape; rest = b.0.rest; begins = b.0.spells; full = t.1 })
