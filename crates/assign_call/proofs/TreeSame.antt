-- The numbers read from the bytes of a tree mean what the bytes mean: all of them, or none where the tree is refused anyway.
use mathlib.Core.Path.{◌≡◌, ap, ◌∙◌, sym}
use mathlib.Core.List.{List, ◌++◌}
use Prim.Native.Nat.{ℕ, ◌*◌, ◌/◌, ◌<◌, ◌≤◌}
use native.Mathlib.Omega.{arith}
use borrow.Author.Tests.{eq-eqb, ne_eqb, lt-leb, le-leb}
use lib.ListN.{length, take, length-append}
use lib.Seq.{length-take-le, take_at}
use Rattle.lists.specs.Ranges.{listed}
use Rattle.lists.proofs.Listed.{length_listed}
use Rattle.terms.specs.Good.{modes_good}
use Rattle.topphatt.specs.Answer.{asked, outcome}
use Rattle.call_bytes.specs.Bytes.{word_at, words}
use Rattle.assign_call.specs.code.Handing.{tree_numbers}
use Rattle.assign_call.specs.code.Reading.{TreeRead}

module _ (most modes : ℕ) (bytes numbers : List ℕ) where
  pub tree_beyond : most < modes → TreeRead most modes bytes numbers 0
  unfolding outcome modes_good
  tree_beyond h =
      record {
        fits = omega arith;
        same = λ rooms e heuristic terms.
            rw (e, le-leb 1 modes (omega arith), lt-leb modes most h);
      }

  pub tree_none : (length bytes ≡ 6 * modes → ⊥) → TreeRead most modes bytes numbers 0
  unfolding tree_numbers
  tree_none h = record { fits = omega arith; same = λ rooms e heuristic terms. rw (ne_eqb (length bytes) (6 * modes) h) }

  pub tree_all : length bytes ≡ 6 * modes → 3 * modes ≤ length numbers → (part rest : List ℕ)
      → part ≡ listed (word_at bytes) 0 (length (take (3 * modes) numbers)) → TreeRead most modes bytes (part ++ rest) (3 * modes)
  unfolding tree_numbers words
  tree_all long room part rest e =
      let half : length bytes / 2 ≡ 3 * modes = omega (arith, long) in
      let k : length (take (3 * modes) numbers) ≡ 3 * modes = length-take-le (3 * modes) numbers room in
      let whole : part ≡ listed (word_at bytes) 0 (length bytes / 2) = e ∙ ap (listed (word_at bytes) 0) (k ∙ sym half) in
      let l : length part ≡ 3 * modes = ap length whole ∙ length_listed (word_at bytes) 0 (length bytes / 2) ∙ half in
      let read : take (3 * modes) (part ++ rest) ≡ tree_numbers modes bytes =
      take_at part rest (3 * modes) l ∙ rw (eq-eqb (length bytes) (6 * modes) long) whole in
      record {
        fits = omega (arith, l, length-append part rest);
        same = λ rooms e heuristic terms. ap (λ tree. outcome rooms (asked modes 0 tree heuristic terms)) read;
      }
