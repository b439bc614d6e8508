-- The trials of a run with j merges to come are j(j + 1)(4j - 1) / 3, whatever its terms.
use mathlib.Core.Path.{◌≡◌, refl, ap, ◌∙◌, sym}
use mathlib.Core.List.{List, ◌∷◌}
use Prim.Native.Nat.{ℕ, zero, suc, ◌+◌, ◌-◌, ◌*◌}
use native.Mathlib.Nat.{mul-add, add-mul, mul_assoc, suc-mul, mul-suc, mul-div_right}
use native.Mathlib.Omega.{arith}
use lib.ListN.{length}
use Rattle.entities.specs.declared.Triple.{Triple}
use Rattle.terms.specs.Job.{Job}
use Rattle.history.specs.Lawful.{LawfulHistory}
use Rattle.history.specs.computed.Pairs.{lawful_pairs}
use Rattle.history.specs.computed.Choosing.{chosen}
use Rattle.history.specs.computed.Greedy.{trials}
use Rattle.history.specs.Trials.{trial_total}
use Rattle.history.proofs.PairCount.{pair_count}
use Rattle.history.proofs.RunLawful.{chosen_lawful}

-- One step of the sum, in a form without subtraction.
step_sum : (t j : ℕ) → 3 * t + j ≡ j * j * (4 * j + 3) → 3 * (2 * suc j * (2 * j + 1) + t) + suc j ≡ suc j * suc j * (4 * suc j + 3)
step_sum t j e =
    let rest = simp (mul-add, mul_assoc) at e in
    simp (suc-mul, mul-suc, mul-add, add-mul, mul_assoc) (omega arith)

summed : (job : Job) (j : ℕ) (history : List Triple) → LawfulHistory job.modes history → length history + j ≡ job.modes
    → 3 * trials job j history + j ≡ j * j * (4 * j + 3)
unfolding trials
summed job zero history lawful left = refl
summed job (suc j) history lawful left =
    let next = chosen job history in
    let rest = summed job j (next ∷ history) (chosen_lawful job history lawful (omega arith), lawful) (omega arith) in
    let odd : 2 * suc j - 1 ≡ 2 * j + 1 = omega arith in
    let pairs : length (lawful_pairs job.modes history) ≡ 2 * suc j * (2 * j + 1) = pair_count job.modes history lawful (suc j) left ∙ ap (λ n. 2 * suc j * n) odd in
    rw pairs (step_sum (trials job j (next ∷ history)) j rest)

-- The same sum as document 01 writes it.
three_times : (t j : ℕ) → 3 * t + j ≡ j * j * (4 * j + 3) → 3 * t ≡ j * (j + 1) * (4 * j - 1)
three_times t zero e = omega arith
three_times t (suc j) e =
    let rest = simp (suc-mul, mul-suc, mul-add, add-mul, mul_assoc) at e in
    let less : 4 * suc j - 1 ≡ 4 * j + 3 = omega arith in
    rw less (simp (suc-mul, mul-suc, mul-add, add-mul, mul_assoc) (omega arith))

module _ (job : Job) (j : ℕ) (history : List Triple) (lawful : LawfulHistory job.modes history) (left : length history + j ≡ job.modes) where
  pub three_trials : 3 * trials job j history ≡ j * (j + 1) * (4 * j - 1)
  three_trials = three_times (trials job j history) j (summed job j history lawful left)

  pub trials_total : trials job j history ≡ trial_total j
  unfolding trial_total
  trials_total = rw (← three_trials) (sym (mul-div_right (trials job j history) {m = 3} (omega arith)))
