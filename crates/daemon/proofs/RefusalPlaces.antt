-- The place of a refused run is below 65536.
use Rattle.std.specs.Prelude.{Err, Ok, Result}
use mathlib.Core.Path.{◌≡◌, refl}
use mathlib.Core.List.{List}
use Prim.Native.Nat.{ℕ, ◌≤◌}
use native.Mathlib.Omega.{arith}
use Rattle.refusal.specs.declared.Refusal.{Refusal}
use Rattle.refusal.specs.declared.Refusal.TheVariants.{Modes, Room, Rule as NoRule}
use Rattle.refusal.specs.Numbers.{place_of}
use Rattle.terms.specs.Rules.{rule_good, rule_of}
use Rattle.terms.specs.Job.{Job, job_of}
use Rattle.terms.specs.Good.{modes_good, checked}
use Rattle.obeying.specs.Obeying.{Obeyed, went, refused, obeyed}
use Rattle.obeying.proofs.LineRefused.{journal_refusal}
use Rattle.journal.specs.Resuming.{Outcome, done, refuses, with_journal, Rooms, roomy, with_terms, resumed}
use Rattle.call_bytes.proofs.RefusalNumbers.{unless, bad_place, bad_row_place}
use Rattle.terms.proofs.GoodModes.{good_modes}

-- The place that a call is refused at; 0 where it is done.
unfoldable place_of_code : Outcome → ℕ
place_of_code (done part) = 0
place_of_code (refuses refusal) = place_of refusal

module _ (modes rule : ℕ) (numbers : List ℕ) (rooms : Rooms) (small : rooms.modes ≤ 256) (bytes : List ℕ) where
  -- A line is refused no further than the merges made before it.
  journal_place : (job : Job) → job.modes ≤ 256 → (found : Obeyed) → obeyed job bytes ≡ found → place_of_code (with_journal job bytes found) ≤ 65535
  unfolding with_journal place_of_code
  journal_place job few (went history) e = omega arith
  journal_place job few (refused made why) e =
      let line = journal_refusal job bytes made why e in
      omega (arith, line.0, line.1.place)

  terms_place : (found : Result ℕ Refusal) → modes ≤ rooms.modes → bad_place found ≤ 2048 → place_of_code (with_terms rooms modes (rule_of rule) numbers bytes found) ≤ 65535
  unfolding with_terms place_of_code bad_place
  terms_place (Ok count) few bad =
      let job = job_of modes (rule_of rule) count numbers in
      unless place_of_code 65535 (roomy rooms modes count) (refuses Room) (with_journal job bytes (obeyed job bytes)) (omega arith)
      (λ f. journal_place job (omega (arith, few, small)) (obeyed job bytes) refl)
  terms_place (Err refusal) few bad = omega (arith, bad)

  resumed_place : place_of_code (resumed rooms modes rule numbers bytes) ≤ 65535
  unfolding resumed place_of_code
  resumed_place =
      unless place_of_code 65535 (modes_good rooms.modes modes) (refuses Modes) _ (omega arith)
      (λ f.
      unless place_of_code 65535 (rule_good rule) (refuses NoRule) (with_terms rooms modes (rule_of rule) numbers bytes (checked modes numbers)) (omega arith)
      (λ g. terms_place (checked modes numbers) (good_modes rooms.modes modes f).1 (bad_row_place modes numbers)))

  pub refused_place : (refusal : Refusal) → resumed rooms modes rule numbers bytes ≡ refuses refusal → place_of refusal ≤ 65535
  unfolding place_of_code
  refused_place refusal e = rw e at resumed_place
