-- Where each pair has a mode or none and no two the same, as many pairs have none as modes are unassigned; and giving a pair that has none
-- a mode that is unassigned leaves it so.
use mathlib.Core.Path.{◌≡◌, ap, ◌∙◌, sym}
use mathlib.Core.Bool.{true, not}
use mathlib.Core.List.{List}
use mathlib.Core.Logic.{◌⊎◌, inl, inr, ⊎_elim}
use Prim.Native.Nat.{ℕ, suc, ◌+◌, ◌<◌, ◌≤◌}
use native.Mathlib.Omega.{arith}
use borrow.Author.Tests.{lt-ltb}
use lib.Dec.{eqb, ltb}
use lib.ListN.{length, get_or, set, replicate, length-set, length-replicate, get_or-replicate}
use lib.Seq.{get_or-set_same, get_or-set_other}
use Rattle.lists.specs.Counting.{occurrences}
use Rattle.lists.specs.Members.{every, some_of}
use Rattle.lists.specs.Ranges.{listed}
use Rattle.lists.proofs.Tests.{same_or_not}
use Rattle.lists.proofs.Every.{every_by_place}
use Rattle.lists.proofs.Occurring.{occurs_twice, one_or_none}
use Rattle.lists.proofs.Replaced.{occurrences_set, occurrences_replicate}
use Rattle.lists.proofs.Pigeonholes.{counted_all, values_same}
use Rattle.lists.proofs.Totals.{total, total_add, total_same, total_ones}
use Rattle.lists.proofs.Sums.{one_if, same_one, same_none, length_keep, sum_listed}
use Rattle.tree.specs.Table.{place_of_code}
use Rattle.tree.proofs.Standing.{place_within, stands_there}
use Rattle.choice.specs.Choices.{unassigned}
use Rattle.topphatt.specs.Assignment.{Fair, Given}

-- Before the first round no pair has a mode.
pub fair_before : (modes : ℕ) → Fair modes (replicate modes modes)
fair_before modes =
    record {
      whole = length-replicate modes modes;
      known = λ k h. omega (arith, get_or-replicate modes k modes modes h);
      once = λ mode h. omega (arith, occurrences_replicate mode modes modes (λ e. absurd (omega arith)));
    }

module _ (modes : ℕ) (assigned : List ℕ) (fair : Fair modes assigned) where
  entries_below : every (λ v. ltb v (suc modes)) assigned ≡ true
  entries_below =
      every_by_place (λ v. ltb v (suc modes)) assigned modes
      (λ i h. lt-ltb (get_or assigned i modes) (suc modes) (omega (arith, fair.known i (omega (arith, fair.whole)))))

  pub as_many : occurrences modes assigned ≡ length (unassigned modes assigned)
  unfolding unassigned total
  as_many =
      let all : total (λ v. occurrences v assigned) (suc modes) ≡ length assigned = counted_all (suc modes) assigned entries_below in
      let missing : ℕ → ℕ = λ v. one_if (not (some_of (eqb v) assigned)) in
      let each : total (λ v. occurrences v assigned + missing v) modes ≡ modes =
      total_same (λ v. occurrences v assigned + missing v) (λ v. 1) modes (λ v h. one_or_none v assigned (fair.once v h)) ∙ total_ones modes in
      let listed_missing : length (unassigned modes assigned) ≡ total missing modes =
      length_keep (λ v. not (some_of (eqb v) assigned)) (listed (λ v. v) 0 modes) ∙ sum_listed missing modes in
      omega (arith, total_add (λ v. occurrences v assigned) missing modes, fair.whole)

  -- Where a mode is unassigned a pair has none; where two pairs have none, two modes are.
  pub pair_without : 0 < length (unassigned modes assigned) → (k : ℕ) × (k < modes) × (get_or assigned k modes ≡ modes)
  pair_without h =
      let some : 1 ≤ occurrences modes assigned = omega (arith, as_many) in
      (place_of_code assigned modes, omega (arith, place_within modes assigned some, fair.whole), stands_there modes modes assigned some)

  pub two_left : (j k : ℕ) → j < modes → k < modes → (j ≡ k → ⊥) → modes ≤ get_or assigned j modes → modes ≤ get_or assigned k modes
      → 2 ≤ length (unassigned modes assigned)
  two_left j k h l apart none nor =
      omega (
        arith,
        as_many,
        occurs_twice modes assigned j k modes (omega (arith, fair.whole)) (omega (arith, fair.whole)) apart
            (omega (arith, fair.known j h)) (omega (arith, fair.known k l)),
      )

  -- Where no pair has none, each mode is one pair's.
  pub each_assigned : occurrences modes assigned ≡ 0 → (mode : ℕ) → mode < modes → occurrences mode assigned ≡ 1
  unfolding total
  each_assigned none mode h =
      let all = counted_all (suc modes) assigned entries_below in
      sym
      (values_same (λ v. 1) (λ v. occurrences v assigned) modes (λ v l. fair.once v l) (omega (arith, total_ones modes, fair.whole)) mode h)

  module _ (k mode : ℕ) (h : k < modes) (none : modes ≤ get_or assigned k modes) (free : mode < modes) (new : occurrences mode assigned ≡ 0) where
    had_none : get_or assigned k modes ≡ modes
    had_none = omega (arith, fair.known k h)

    inside : k < length assigned
    inside = omega (arith, fair.whole)

    entries_now : (j : ℕ) → ((j ≡ k) × (get_or (set assigned k mode) j modes ≡ mode)) ⊎ ((j ≡ k → ⊥) × (get_or (set assigned k mode) j modes ≡ get_or assigned j modes))
    entries_now j =
        ⊎_elim
        (λ e. inl (e, rw e (get_or-set_same assigned k mode modes inside)))
        (λ other. inr (other, get_or-set_other assigned k j mode modes other))
        (same_or_not j k)

    -- Only the new mode and the mark for none occur otherwise than before.
    pub others_stay : (v : ℕ) → v < modes → (v ≡ mode → ⊥) → occurrences v (set assigned k mode) ≡ occurrences v assigned
    others_stay v l other =
        omega (
          arith,
          occurrences_set v assigned k mode modes inside,
          same_none mode v (λ e. other (sym e)),
          same_none (get_or assigned k modes) v (λ e. absurd (omega (arith, had_none))),
        )

    pub given : Given modes assigned (set assigned k mode)
    given =
        record {
          fair = record {
            whole = length-set assigned k mode ∙ fair.whole;
            known = λ j l. ⊎_elim (λ here. omega (arith, here.1)) (λ there. omega (arith, there.1, fair.known j l)) (entries_now j);
            once =
                λ v l.
                ⊎_elim
                (λ e.
                omega (
                  arith,
                  ap (λ u. occurrences u assigned) e,
                  occurrences_set v assigned k mode modes inside,
                  same_one mode v (sym e),
                ))
                (λ other. omega (arith, others_stay v l other, fair.once v l))
                (same_or_not v mode);
          };
          fewer =
              omega (
                arith,
                occurrences_set modes assigned k mode modes inside,
                same_one (get_or assigned k modes) modes had_none,
                same_none mode modes (λ e. absurd (omega arith)),
              );
          stays = λ j l. ⊎_elim (λ here. absurd (omega (arith, ap (λ i. get_or assigned i modes) here.0))) (λ there. there.1) (entries_now j);
        }

pub given_twice : (modes : ℕ) (first second third : List ℕ) → Given modes first second → Given modes second third → Given modes first third
given_twice modes first second third g h =
    record {
      fair = h.fair;
      fewer = omega (arith, g.fewer, h.fewer);
      stays = λ k l. h.stays k (omega (arith, g.stays k l)) ∙ g.stays k l;
    }
