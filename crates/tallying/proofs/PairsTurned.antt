-- What the leaves of a mode weigh beside z, one number of a term more at a time, and a table that follows it.
use mathlib.Core.Path.{◌≡◌, refl, sym, ap, ◌∙◌}
use mathlib.Core.List.{List}
use mathlib.Core.Logic.{◌⊎◌, inl, inr, ⊎_elim}
use Prim.Native.Nat.{ℕ, zero, suc, ◌+◌, ◌-◌, ◌*◌, ◌/◌, ◌%◌, ◌<◌, ◌≤◌}
use native.Mathlib.Nat.{add-zero}
use native.Mathlib.Omega.{arith}
use lib.ListN.{length, get_or, take, set, length-set}
use lib.Seq.{get_or-set_same, get_or-set_other}
use Rattle.lists.specs.Counting.{occurrences}
use Rattle.lists.proofs.Sums.{same_one, same_none}
use Rattle.lists.proofs.Tests.{same_or_not}
use Rattle.tallying.specs.code.Pairs.{beside, PairTurned}
use Rattle.tallying.proofs.Parities.{occurrences_more}

-- The two numbers are the leaves of one mode.
abbrev pub Partners : ℕ → ℕ → Type 0
Partners number other = (number % 2 ≡ 0 → other ≡ number + 1) × (number % 2 ≡ 1 → other + 1 ≡ number)

even_or_odd : (number : ℕ) → (number ≡ 2 * (number / 2)) ⊎ (number ≡ 2 * (number / 2) + 1)
even_or_odd number = ⊎_elim (λ e. inl (omega arith)) (λ n. inr (omega arith)) (same_or_not (number % 2) 0)

-- One parity turned, beside its partner's and z's: where these two differ the weight stays 1; where they agree it goes up from 0 if the
-- turned one was as they are, and down to 0 if not.
idle : (own theirs odd : ℕ) → own ≤ 1 → theirs + odd ≡ 1 → (own + theirs + odd + 1) / 2 % 2 ≡ (1 - own + theirs + odd + 1) / 2 % 2
idle zero theirs odd h e = let s : 0 + theirs + odd + 1 ≡ 2 = omega arith in let t : 1 - 0 + theirs + odd + 1 ≡ 3 = omega arith in rw (s, t)
idle (suc zero) theirs odd h e =
    let s : 1 + theirs + odd + 1 ≡ 3 = omega arith in let t : 1 - 1 + theirs + odd + 1 ≡ 2 = omega arith in rw (s, t)
idle (suc (suc own)) theirs odd h e = absurd (omega arith)

up : (odd : ℕ) → odd ≤ 1 → ((odd + odd + odd + 1) / 2 % 2 ≡ 0) × ((1 - odd + odd + odd + 1) / 2 % 2 ≡ 1)
up zero h = (refl, refl)
up (suc zero) h = (refl, refl)
up (suc (suc odd)) h = absurd (omega arith)

down : (odd : ℕ) → odd ≤ 1 → ((1 - odd + odd + odd + 1) / 2 % 2 ≡ 1) × ((1 - (1 - odd) + odd + odd + 1) / 2 % 2 ≡ 0)
down zero h = (refl, refl)
down (suc zero) h = (refl, refl)
down (suc (suc odd)) h = absurd (omega arith)

module _ (odd : ℕ) (term : List ℕ) (at : ℕ) (h : at < length term) where
  -- A number of another mode changes nothing.
  other_mode : (k : ℕ) → (get_or term at 0 / 2 ≡ k → ⊥) → beside odd k (take (at + 1) term) ≡ beside odd k (take at term)
  unfolding beside
  other_mode k apart =
      let not_even = same_none (get_or term at 0) (2 * k) (λ e. apart (omega arith)) in
      let not_odd = same_none (get_or term at 0) (2 * k + 1) (λ e. apart (omega arith)) in
      rw (occurrences_more (2 * k) term at h, occurrences_more (2 * k + 1) term at h, not_even, not_odd, add-zero, add-zero)

  -- A number of the mode turns its own parity, beside its partner's.
  module _ (number other : ℕ) (is : number ≡ get_or term at 0) (partners : Partners number other) where
    abbrev pub own : ℕ
    own = occurrences number (take at term) % 2

    abbrev pub partner's : ℕ
    partner's = occurrences other (take at term) % 2

    abbrev Turns : Type 0
    Turns =
        (beside odd (number / 2) (take at term) ≡ (own + partner's + odd + 1) / 2 % 2)
        × (beside odd (number / 2) (take (at + 1) term) ≡ (1 - own + partner's + odd + 1) / 2 % 2)

    from_sums : (let k = number / 2 in
        (occurrences (2 * k) (take at term) % 2 + occurrences (2 * k + 1) (take at term) % 2 ≡ own + partner's)
        × (occurrences (2 * k) (take (at + 1) term) % 2 + occurrences (2 * k + 1) (take (at + 1) term) % 2 ≡ 1 - own + partner's))
        → Turns
    unfolding beside
    from_sums sums = (ap (λ s. (s + odd + 1) / 2 % 2) sums.0, ap (λ s. (s + odd + 1) / 2 % 2) sums.1)

    -- The two leaves by their numbers: the one that comes turns its parity, the other keeps its own.
    counts : (mine theirs : ℕ) → number ≡ mine → other ≡ theirs → (mine ≡ theirs → ⊥)
        → (occurrences mine (take at term) % 2 ≡ own)
        × (occurrences theirs (take at term) % 2 ≡ partner's)
        × (occurrences mine (take (at + 1) term) % 2 ≡ 1 - own)
        × (occurrences theirs (take (at + 1) term) % 2 ≡ partner's)
    counts mine theirs e o apart =
        let was = ap (λ n. occurrences n (take at term)) e in
        let stood = ap (λ n. occurrences n (take at term)) o in
        let here = occurrences_more mine term at h in
        let there = occurrences_more theirs term at h in
        let one = same_one (get_or term at 0) mine (omega arith) in
        let none = same_none (get_or term at 0) theirs (λ q. apart (omega arith)) in
        (omega arith, omega arith, omega arith, omega arith)

    lower : number ≡ 2 * (number / 2) → Turns
    lower e =
        let told = counts (2 * (number / 2)) (2 * (number / 2) + 1) e (omega (arith, partners.0 (omega arith))) (λ q. omega arith) in
        from_sums (omega arith, omega arith)

    upper : number ≡ 2 * (number / 2) + 1 → Turns
    upper e =
        let told = counts (2 * (number / 2) + 1) (2 * (number / 2)) e (omega (arith, partners.1 (omega arith))) (λ q. omega arith) in
        from_sums (omega arith, omega arith)

    this_mode : Turns
    this_mode = ⊎_elim lower upper (even_or_odd number)

    abbrev pub before : ℕ
    before = beside odd (number / 2) (take at term)

    abbrev pub now : ℕ
    now = beside odd (number / 2) (take (at + 1) term)

    module _ (low : odd ≤ 1) (agree : partner's ≡ odd) where
      pub goes_up : own ≡ odd → (before ≡ 0) × (now ≡ 1)
      goes_up e =
          let turns = rw (agree, e) at this_mode in
          (turns.0 ∙ (up odd low).0, turns.1 ∙ (up odd low).1)

      pub goes_down : own + odd ≡ 1 → (before ≡ 1) × (now ≡ 0)
      goes_down e =
          let other_way : own ≡ 1 - odd = omega arith in
          let turns = rw (agree, other_way) at this_mode in
          (turns.0 ∙ (down odd low).0, turns.1 ∙ (down odd low).1)

  module _ (table : List ℕ) where
    -- A number of a mode beyond the table changes nothing.
    pub pair_beyond : length table ≤ get_or term at 0 / 2 → PairTurned odd term at table table
    pair_beyond beyond =
        record { same_length = refl; turned = λ k l. ap (λ w. get_or table k 0 + w) (sym (other_mode k (λ e. omega arith))) }

    module _ (number other : ℕ) (is : number ≡ get_or term at 0) (partners : Partners number other) where
      -- Nor does one whose partner's parity is not z's.
      pub pair_idle : partner's number other is partners + odd ≡ 1 → PairTurned odd term at table table
      pair_idle e =
          record { same_length = refl; turned = λ k l. ap (λ w. get_or table k 0 + w) (⊎_elim (here k) (there k) (same_or_not k (number / 2))) }
        where
          here : (k : ℕ) → k ≡ number / 2 → beside odd k (take at term) ≡ beside odd k (take (at + 1) term)
          here k q =
              rw q
              (let turns = this_mode number other is partners in
              turns.0 ∙ idle (own number other is partners) (partner's number other is partners) odd (omega arith) e ∙ sym turns.1)

          there : (k : ℕ) → (k ≡ number / 2 → ⊥) → beside odd k (take at term) ≡ beside odd k (take (at + 1) term)
          there k apart = sym (other_mode k (λ q. apart (omega arith)))

      -- Any other changes the entry of its mode, as its leaves' weight changes.
      pub pair_here : (value : ℕ) → number / 2 < length table
          → value + beside odd (number / 2) (take at term) ≡ get_or table (number / 2) 0 + beside odd (number / 2) (take (at + 1) term)
          → PairTurned odd term at table (set table (number / 2) value)
      pair_here value within written =
          record {
            same_length = length-set table (number / 2) value;
            turned = λ k l. ⊎_elim (here k) (there k) (same_or_not k (number / 2));
          }
        where
          here : (k : ℕ) → k ≡ number / 2
              → get_or (set table (number / 2) value) k 0 + beside odd k (take at term) ≡ get_or table k 0 + beside odd k (take (at + 1) term)
          here k e = rw (e, get_or-set_same table (number / 2) value 0 within) written

          there : (k : ℕ) → (k ≡ number / 2 → ⊥)
              → get_or (set table (number / 2) value) k 0 + beside odd k (take at term) ≡ get_or table k 0 + beside odd k (take (at + 1) term)
          there k apart = rw (get_or-set_other table (number / 2) k value 0 apart, other_mode k (λ e. apart (omega arith)))
