-- What a caller in C reads from the number that a run returns: it is 0 where the call is done, and else its parts are the refusal's number and place.
use mathlib.Core.Path.{◌≡◌, ap, ◌∙◌, sym}
use mathlib.Core.List.{List}
use Prim.Native.Nat.{ℕ, ◌*◌, ◌/◌, ◌%◌, ◌≤◌}
use native.Mathlib.Omega.{arith}
use Rattle.refusal.specs.declared.Refusal.{Refusal}
use Rattle.refusal.specs.Numbers.{number_of, place_of}
use Rattle.journal.specs.Resuming.{Ending, done, refuses}
use Rattle.entities.specs.Limits.{most_modes, most_terms, work_width}
use Rattle.call_bytes.specs.code.Handing.{term_numbers}
use Rattle.call_bytes.proofs.RefusalNumbers.{result_says}
use Rattle.daemon.specs.Calls.{Lent, resume_called}
use Rattle.daemon.specs.Promises.{result_of}
use Rattle.daemon.specs.code.Handing.{Own, rooms_in, resume_handed}
use Rattle.daemon.proofs.RefusalPlaces.{refused_place}
use Rattle.daemon.proofs.Outright.{resume_outright}

module _ (most : ℕ) (small : most ≤ most_modes) (modes : ℕ) (terms read : List ℕ) (given : Lent) where
  abbrev result : ℕ
  result = result_of (resume_called most modes terms read given)

  pub done_says : (part : Ending) → resume_called most modes terms read given ≡ done part → result ≡ 0
  unfolding result_of
  done_says part e = ap result_of e

  pub refusal_says : (refusal : Refusal) → resume_called most modes terms read given ≡ refuses refusal
      → (1 ≤ result) × (result / 65536 ≡ number_of refusal) × (result % 65536 ≡ place_of refusal)
  unfolding result_of resume_handed rooms_in
  refusal_says refusal e =
      let own : Own = record { modes = most; work = work_width * most_terms; rows = 4 * most; drops = most } in
      let handed = sym (resume_outright own (omega arith) (omega arith) (omega arith) modes terms read given) ∙ e in
      result_says refusal result (refused_place modes 0 (term_numbers terms) (rooms_in own given) small read refusal handed) (ap result_of e)
