-- How many sequences there are, and the k-th of them from k.
use mathlib.Core.Path.{◌≡◌, refl, ap, ◌∙◌}
use mathlib.Core.List.{List, [], ◌∷◌, reverse}
use Prim.Native.Nat.{ℕ, zero, suc, ◌+◌, ◌-◌, ◌*◌, ◌/◌, ◌%◌, ◌<◌, ◌≤◌}
use native.Mathlib.Nat.{mod-lt, div-lt_iff_lt-mul, mul-pos}
use native.Mathlib.Omega.{arith}
use lib.ListN.{length, get_or, take, set}
use Rattle.lists.proofs.Writes.{written_next}
use Rattle.entities.specs.declared.Triple.{Triple}
use Rattle.history.specs.Lawful.{LawfulHistory}
use Rattle.best.specs.Sequences.{lawful_triples, sequences_from, sequences, step_count, sequence_count, SequenceCount, SmallCounts}
use Rattle.best.specs.Call.{most_to_try}
use Rattle.best.specs.code.Numbered.{no_merge, sequence_at}
use Rattle.best.proofs.LawfulTriples.{listed_lawful}
use Rattle.best.proofs.StepCount.{step_counted}
use Rattle.best.proofs.MergesKept.{newest_first}
use Rattle.best.proofs.EqualParts.{member_at, length_parts, getD_parts}

pub some_sequence : (j : ℕ) → 0 < sequence_count j
unfolding sequence_count step_count
some_sequence zero = omega arith
some_sequence (suc j) = mul-pos {m = suc j * (2 * suc j - 1)} {n = sequence_count j} (mul-pos {m = suc j} {n = 2 * suc j - 1} (omega arith) (omega arith)) (some_sequence j)

module _ (modes : ℕ) where
  from_count : (steps : ℕ) (history : List Triple) → LawfulHistory modes history → length history + steps ≡ modes
      → length (sequences_from modes steps history) ≡ sequence_count steps
  unfolding sequences_from sequence_count
  from_count zero history lawful left = refl
  from_count (suc steps) history lawful left =
      length_parts (λ merge. sequences_from modes steps (merge ∷ history)) (sequence_count steps) (lawful_triples modes history)
      (λ merge m. from_count steps (merge ∷ history) (listed_lawful modes history merge m, lawful) (omega arith))
      ∙ ap (λ n. n * sequence_count steps) (step_counted modes history lawful (suc steps) left)

  from_at : (steps : ℕ) (history : List Triple) → LawfulHistory modes history → length history + steps ≡ modes
      → (k : ℕ) → k < sequence_count steps → get_or (sequences_from modes steps history) k [] ≡ sequence_at modes steps history k
  unfolding sequences_from sequence_count sequence_at
  from_at zero history lawful left k h = let first : k ≡ 0 = omega arith in rw first
  from_at (suc steps) history lawful left k h =
      let ways = sequence_count steps in
      let all = lawful_triples modes history in
      let many = step_counted modes history lawful (suc steps) left in
      let within : k < length all * ways = rw many h in
      let front : k / ways < length all = (div-lt_iff_lt-mul {k = ways} {x = k} {y = length all} (some_sequence steps)).1 within in
      let merge = get_or all (k / ways) no_merge in
      let fits = listed_lawful modes history merge (member_at all (k / ways) no_merge front) in
      getD_parts (λ other. sequences_from modes steps (other ∷ history)) ways (some_sequence steps) all
      (λ other m. from_count steps (other ∷ history) (listed_lawful modes history other m, lawful) (omega arith)) k no_merge [] within
      ∙ from_at steps (merge ∷ history) (fits, lawful) (omega arith) (k % ways) (mod-lt k (some_sequence steps))

  pub sequence_numbered : (k : ℕ) → k < sequence_count modes → get_or (sequences modes) k [] ≡ sequence_at modes modes [] k
  unfolding sequences
  sequence_numbered k h = from_at modes [] tt (omega arith) k h

pub sequences_counted : SequenceCount
unfolding sequences
sequences_counted modes = from_count modes modes [] tt (omega arith)

pub small_counts : SmallCounts
unfolding sequence_count step_count
small_counts = record { of_one = sequences_counted 1; of_two = sequences_counted 2; of_three = sequences_counted 3; of_four = sequences_counted 4 }

-- One step of a sequence from its number: the merge that the number says is put behind those of the steps before.
pub sequence_next : (modes step k ways : ℕ) (merges : List Triple) (merge : Triple) → step < modes → step < length merges
    → ways ≡ sequence_count (modes - step - 1) → merge ≡ get_or (lawful_triples modes (reverse (take step merges))) (k / ways) no_merge
    → sequence_at modes (modes - (step + 1)) (reverse (take (step + 1) (set merges step merge))) (k % ways)
    ≡ sequence_at modes (modes - step) (reverse (take step merges)) k
unfolding sequence_at
sequence_next modes step k ways merges merge left room ways_are merge_is =
    let older = reverse (take step merges) in
    let fewer : modes - (step + 1) ≡ modes - step - 1 = omega arith in
    let more : suc (modes - step - 1) ≡ modes - step = omega arith in
    let next : reverse (take (step + 1) (set merges step merge)) ≡ merge ∷ older =
    rw (written_next merges step merge room) (newest_first (take step merges) merge) in
    let one : sequence_at modes (modes - step - 1) (merge ∷ older) (k % ways) ≡ sequence_at modes (suc (modes - step - 1)) older k =
    rw (merge_is, ways_are) in
    rw (fewer, next) (one ∙ ap (λ n. sequence_at modes n older k) more)

-- Of few modes there are few.
pub few_sequences : (modes : ℕ) → modes ≤ most_to_try → sequence_count modes ≤ 2520
unfolding sequence_count step_count
few_sequences zero h = omega arith
few_sequences (suc zero) h = omega arith
few_sequences (suc (suc zero)) h = omega arith
few_sequences (suc (suc (suc zero))) h = omega arith
few_sequences (suc (suc (suc (suc zero)))) h = omega arith
few_sequences (suc (suc (suc (suc (suc modes))))) h = absurd (omega arith)
