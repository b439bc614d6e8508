-- What a caller in C reads from the number that assigning returns, where it refuses: its parts are the refusal's number and place.
use mathlib.Core.Path.{◌≡◌, ap, ◌∙◌, sym}
use mathlib.Core.List.{List}
use Prim.Native.Nat.{ℕ, ◌*◌, ◌/◌, ◌%◌, ◌≤◌}
use native.Mathlib.Omega.{arith}
use Rattle.refusal.specs.declared.Refusal.{Refusal}
use Rattle.refusal.specs.Numbers.{number_of, place_of}
use Rattle.entities.specs.Limits.{most_modes, most_terms, work_width}
use Rattle.topphatt.specs.Answer.{refused, asked, Rooms}
use Rattle.call_bytes.specs.code.Handing.{term_numbers}
use Rattle.call_bytes.proofs.RefusalNumbers.{result_says}
use Rattle.assign_call.specs.Calls.{LentTable, assign_called}
use Rattle.assign_call.specs.Promises.{assign_result_of}
use Rattle.assign_call.specs.code.Handing.{tree_numbers, table_rooms_in, assign_handed}
use Rattle.assign_call.proofs.AssignPlaces.{assign_refused_place}
use Rattle.assign_call.proofs.Outright.{assign_outright}

module _ (most : ℕ) (small : most ≤ most_modes) (modes : ℕ) (tree : List ℕ) (heuristic : ℕ) (terms : List ℕ) (given : LentTable) where
  abbrev assign_result : ℕ
  assign_result = assign_result_of (assign_called most modes tree heuristic terms given)

  pub assign_refusal_says : (refusal : Refusal) → assign_called most modes tree heuristic terms given ≡ refused refusal
      → (1 ≤ assign_result) × (assign_result / 65536 ≡ number_of refusal) × (assign_result % 65536 ≡ place_of refusal)
  unfolding assign_result_of assign_handed table_rooms_in
  assign_refusal_says refusal e =
      let own : Rooms = record { modes = most; work = work_width * most_terms; table = 3 * most } in
      let call = asked modes 0 (tree_numbers modes tree) heuristic (term_numbers terms) in
      let handed = sym (assign_outright own (omega arith) (omega arith) modes tree heuristic terms given) ∙ e in
      result_says refusal assign_result (assign_refused_place (table_rooms_in own given) small call refusal handed) (ap assign_result_of e)
