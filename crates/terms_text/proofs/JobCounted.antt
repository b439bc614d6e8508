-- What is known where a job's terms were counted.
use Rattle.std.specs.Prelude.{Err, Ok}
use mathlib.Core.Path.{◌≡◌, refl}
use mathlib.Core.Bool.{Bool, true, false, not, cond}
use mathlib.Core.List.{List}
use Prim.Native.Nat.{ℕ, ◌≤◌}
use native.Mathlib.Omega.{arith}
use Rattle.refusal.specs.declared.Refusal.{Refusal}
use Rattle.refusal.specs.declared.Refusal.TheVariants.{Modes}
use Rattle.refusal.specs.Numbers.{number_of}
use Rattle.terms.specs.Good.{modes_good, checked}
use Rattle.terms.proofs.GoodModes.{good_modes}
use Rattle.terms_text.proofs.TermsRefused.{terms_refusal}
use Rattle.terms_text.specs.Jobs.{counted}

module _ (most modes : ℕ) (numbers : List ℕ) where
  pub counted_good : (count : ℕ) → counted most modes numbers ≡ Ok count → (1 ≤ modes) × (modes ≤ most) × (checked modes numbers ≡ Ok count)
  unfolding counted
  counted_good count e = go (modes_good most modes) refl
    where
      go : (b : Bool) → modes_good most modes ≡ b → (1 ≤ modes) × (modes ≤ most) × (checked modes numbers ≡ Ok count)
      go true m =
          let good = good_modes most modes m in
          (good.0, good.1, rw m at e)
      go false m =
          let f : Err Modes ≡ Ok count = rw m at e in
          let z : ◌≡◌ {A = ℕ} 0 1 = cc in
          absurd (omega arith)

  pub counted_refusal : (why : Refusal) → counted most modes numbers ≡ Err why → number_of why ≤ 4
  unfolding counted
  counted_refusal why = go (modes_good most modes)
    where
      go : (b : Bool) → cond (not b) (Err Modes) (checked modes numbers) ≡ Err why → number_of why ≤ 4
      go true e = terms_refusal modes numbers why e
      go false e = let same : Modes ≡ why = cc in rw (← same) (omega arith)
