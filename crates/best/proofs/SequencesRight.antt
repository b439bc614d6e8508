-- The sequences are all lawful ones, in order: each goes on from where it began, and two differ first where their merges do.
use mathlib.Core.Path.{◌≡◌, refl, ap, ◌∙◌, sym}
use mathlib.Core.List.Memᴰ
use mathlib.Core.List.{List, [], ◌∷◌, Memᴰ}
use Prim.Native.Nat.{ℕ, zero, suc, ◌+◌, ◌-◌, ◌<◌}
use native.Mathlib.Numerals.{add-one}
use native.Mathlib.Omega.{arith}
use lib.ListN.{length}
use Rattle.lists.specs.Ordered.{Ascending}
use Rattle.lists.proofs.Membership.{joined, of_joined}
use Rattle.lists.proofs.Ordered.{joined_ascends}
use Rattle.entities.specs.declared.Triple.{Triple}
use Rattle.history.specs.History.{merge_of, history_before}
use Rattle.history.specs.Lawful.{Lawful, LawfulHistory}
use Rattle.history.proofs.HistoryBefore.{before_next, before_first}
use Rattle.history.proofs.RunsOn.{before_lawful}
use Rattle.best.specs.Sequences.{Before, Earlier, lawful_triples, sequences_from, sequences, SequencesRight}
use Rattle.best.proofs.LawfulTriples.{lawful_listed, listed_lawful, lawful_ascend}

-- So many merges more, behind those of a history.
record GoesOn (steps : ℕ) (history merges : List Triple) : Type 0 where
  pub long : length merges ≡ length history + steps
  pub begins : history_before merges (length history) ≡ history

-- What came before all of them is all of them.
before_all : (merges : List Triple) (count : ℕ) → length merges ≡ count → history_before merges count ≡ merges
before_all merges count e = let none : length merges - count ≡ 0 = omega arith in rw none

module _ (merges : List Triple) (merge : Triple) (history : List Triple) (steps : ℕ) where
  -- The first of the merges more.
  first_more : GoesOn steps (merge ∷ history) merges → (merge_of merges (length history) ≡ merge) × (history_before merges (length history) ≡ history)
  first_more on =
      let next = before_next merges (length history) (omega (arith, on.long)) in
      let same : history_before merges (length history + 1) ≡ merge ∷ history = rw (add-one (length history)) on.begins in
      (cc, cc)

  one_more : GoesOn steps (merge ∷ history) merges → GoesOn (suc steps) history merges
  one_more on = record { long = omega (arith, on.long); begins = (first_more on).1 }

module _ (modes : ℕ) where
  goes_on : (steps : ℕ) (history merges : List Triple) → Memᴰ merges (sequences_from modes steps history) → GoesOn steps history merges
  unfolding sequences_from
  goes_on zero history merges m =
      let same = Memᴰ.eq_of_singleton m in
      rw same (record { long = omega arith; begins = before_all history (length history) refl })
  goes_on (suc steps) history merges m =
      let from = of_joined (λ merge. sequences_from modes steps (merge ∷ history)) (lawful_triples modes history) m in
      one_more merges from.0 history steps (goes_on steps (from.0 ∷ history) merges from.2)

  goes_lawful : (steps : ℕ) (history merges : List Triple) → LawfulHistory modes history → Memᴰ merges (sequences_from modes steps history)
      → LawfulHistory modes merges
  unfolding sequences_from
  goes_lawful zero history merges lawful m = rw (Memᴰ.eq_of_singleton m) lawful
  goes_lawful (suc steps) history merges lawful m =
      let from = of_joined (λ merge. sequences_from modes steps (merge ∷ history)) (lawful_triples modes history) m in
      goes_lawful steps (from.0 ∷ history) merges (listed_lawful modes history from.0 from.1, lawful) from.2

  -- A lawful history has a lawful merge at each step.
  merge_lawful : (merges : List Triple) → LawfulHistory modes merges → (step : ℕ) → step < length merges
      → Lawful modes (history_before merges step) (merge_of merges step)
  merge_lawful merges lawful step h =
      (rw (before_next merges step h) at (before_lawful modes (length merges - (step + 1)) merges lawful)).0

  listed_on : (steps : ℕ) (history merges : List Triple) → LawfulHistory modes merges → GoesOn steps history merges
      → Memᴰ merges (sequences_from modes steps history)
  unfolding sequences_from
  listed_on zero history merges lawful on = Memᴰ.head (sym (before_all merges (length history) (omega (arith, on.long))) ∙ on.begins)
  listed_on (suc steps) history merges lawful on =
      let step = length history in
      let within : step < length merges = omega (arith, on.long) in
      let merge = merge_of merges step in
      let fits : Lawful modes history merge = rw on.begins at (merge_lawful merges lawful step within) in
      let next : history_before merges (suc step) ≡ merge ∷ history =
      rw (← add-one step) (before_next merges step within ∙ ap (λ before. merge ∷ before) on.begins) in
      joined (λ other. sequences_from modes steps (other ∷ history)) (lawful_triples modes history) (lawful_listed modes history merge fits)
      (listed_on steps (merge ∷ history) merges lawful (record { long = omega (arith, on.long); begins = next }))

  from_ascend : (steps : ℕ) (history : List Triple) → Ascending Earlier (sequences_from modes steps history)
  unfolding sequences_from
  from_ascend zero history = (λ merges m. absurd (Memᴰ.not-nil m), tt)
  from_ascend (suc steps) history =
      joined_ascends Before Earlier (λ merge. sequences_from modes steps (merge ∷ history)) (λ merge. from_ascend steps (merge ∷ history)) apart
      (lawful_triples modes history) (lawful_ascend modes history)
    where
      apart : (a c : Triple) → Before a c → (p q : List Triple) → Memᴰ p (sequences_from modes steps (a ∷ history))
          → Memᴰ q (sequences_from modes steps (c ∷ history)) → Earlier p q
      apart a c h p q m n =
          let one = goes_on steps (a ∷ history) p m in
          let other = goes_on steps (c ∷ history) q n in
          let first = first_more p a history steps one in
          let second = first_more q c history steps other in
          record {
            step = length history;
            within_one = omega (arith, one.long);
            within_other = omega (arith, other.long);
            same_before = first.1 ∙ sym second.1;
            differs = rw (first.0, second.0) h;
          }

pub sequences_right : SequencesRight
unfolding sequences
sequences_right modes =
    record {
      each = λ merges lawful all. listed_on modes modes [] merges lawful (record { long = omega arith; begins = before_first merges });
      no_other = λ merges m. (goes_lawful modes modes [] merges tt m, omega (arith, (goes_on modes modes [] merges m).long));
      ascending = from_ascend modes modes [];
    }
