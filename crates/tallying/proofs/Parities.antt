-- The parities of a term's numbers, one number more at a time, and a table raised by them.
use mathlib.Core.Path.{◌≡◌, refl, sym}
use mathlib.Core.List.{List, [], ◌∷◌}
use mathlib.Core.Logic.{⊎_elim}
use Prim.Native.Nat.{ℕ, ◌+◌, ◌*◌, ◌%◌, ◌<◌, ◌≤◌}
use native.Mathlib.Numerals.{add-one}
use native.Mathlib.Omega.{arith}
use lib.ListN.{length, get_or, take, set, length-set}
use lib.Seq.{take-suc, get_or-set_same, get_or-set_other}
use Rattle.lists.specs.Counting.{same, occurrences}
use Rattle.lists.proofs.Sums.{occurrences_append, same_one, same_none}
use Rattle.lists.proofs.Tests.{same_or_not}
use Rattle.tallying.specs.code.Tallies.{AllBelow, Turned}

-- One number more of a list.
pub occurrences_more : (n : ℕ) (l : List ℕ) (i : ℕ) → i < length l
    → occurrences n (take (i + 1) l) ≡ occurrences n (take i l) + same (get_or l i 0) n
unfolding occurrences
occurrences_more n l i h =
    rw (add-one i, take-suc l i 0 h) (let e = occurrences_append n (take i l) (get_or l i 0 ∷ []) in omega arith)

-- A bound of the numbers so far and of the next bounds them all.
pub below_on : (term : List ℕ) (at bound higher : ℕ) → at < length term → AllBelow term at bound → bound ≤ higher → get_or term at 0 < higher
    → AllBelow term (at + 1) higher
below_on term at bound higher h below up last n k =
    let more = occurrences_more n term at h in
    let none = same_none (get_or term at 0) n (λ e. omega arith) in
    omega (arith, below n (omega arith))

module _ (term : List ℕ) (at : ℕ) (table : List ℕ) (h : at < length term) where
  -- A number beyond the table changes nothing.
  pub turned_beyond : length table ≤ get_or term at 0 → Turned term at table table
  turned_beyond beyond =
      record {
        same_length = refl;
        turned = λ n k.
            (let more = occurrences_more n term at h in
            let other = same_none (get_or term at 0) n (λ e. omega arith) in
            omega arith);
      }

  -- The entry of the number goes from one parity to the other.
  pub turned_here : (place value odd : ℕ) → place ≡ get_or term at 0 → place < length table
      → odd ≡ occurrences place (take at term) % 2 → value + 2 * odd ≡ get_or table place 0 + 1
      → Turned term at table (set table place value)
  turned_here place value odd is within parity written =
      record {
        same_length = length-set table place value;
        turned = λ n k. ⊎_elim (here n) (there n) (same_or_not n place);
      }
    where
      here : (n : ℕ) → n ≡ place
          → get_or (set table place value) n 0 + occurrences n (take at term) % 2 ≡ get_or table n 0 + occurrences n (take (at + 1) term) % 2
      here n e =
          rw e
          (let more = occurrences_more place term at h in
          let own = same_one (get_or term at 0) place (sym is) in
          let now = get_or-set_same table place value 0 within in
          omega arith)

      there : (n : ℕ) → (n ≡ place → ⊥)
          → get_or (set table place value) n 0 + occurrences n (take at term) % 2 ≡ get_or table n 0 + occurrences n (take (at + 1) term) % 2
      there n apart =
          let more = occurrences_more n term at h in
          let other = same_none (get_or term at 0) n (λ e. apart (omega arith)) in
          let now = get_or-set_other table place n value 0 apart in
          omega arith
