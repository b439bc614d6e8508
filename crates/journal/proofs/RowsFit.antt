-- The rows of a run that is done: four numbers a mode, and there was room for them.
use mathlib.Core.Path.{◌≡◌, ap, ◌∙◌}
use mathlib.Core.List.{List}
use Prim.Native.Nat.{ℕ, ◌*◌, ◌≤◌}
use native.Mathlib.Omega.{arith}
use borrow.Author.Tests.{leb-true}
use lib.Dec.{leb}
use lib.ListN.{length}
use Rattle.lists.proofs.Tests.{both}
use Rattle.terms.specs.Rules.{rule_of}
use Rattle.terms.specs.Job.{job_of}
use Rattle.terms.specs.Good.{modes_good}
use Rattle.history.specs.computed.Greedy.{finished}
use Rattle.history.proofs.RunLawful.{finished_lawful, finished_length}
use Rattle.history.proofs.FlatpackRows.{length_flatpack}
use Rattle.journal.specs.Resuming.{Ending, done, ending, Rooms, resumed}
use Rattle.history.proofs.DropsAddUp.{length_drops}
use Rattle.obeying.proofs.Obedience.{obedient}
use Rattle.journal.proofs.CallDone.{rooms_say, call_done}

pub record RowsFit (rooms : Rooms) (modes : ℕ) (part : Ending) : Type 0 where
  pub some : 1 ≤ modes
  pub few : modes ≤ rooms.modes
  pub room : 4 * modes ≤ rooms.rows
  pub exact : length part.rows ≡ 4 * modes
  pub steps : length part.drops ≡ modes

pub rows_fit : (rooms : Rooms) (modes rule : ℕ) (numbers bytes : List ℕ) (part : Ending) → 3 * rooms.modes ≤ 65535
    → resumed rooms modes rule numbers bytes ≡ done part → RowsFit rooms modes part
unfolding modes_good ending
rows_fit rooms modes rule numbers bytes part small says =
    let known = call_done rooms modes rule numbers bytes part says in
    let job = job_of modes (rule_of rule) known.count numbers in
    let history = known.history in
    let m = both (leb 1 modes) (leb modes rooms.modes) known.modes_are in
    let some = leb-true 1 modes m.0 in
    let few = leb-true modes rooms.modes m.1 in
    let obeys = obedient job bytes history known.obeys in
    let lawful = finished_lawful job history obeys.lawful obeys.within in
    let all = finished_length job history obeys.lawful obeys.within in
    record {
      some = some;
      few = few;
      room = (rooms_say rooms modes known.count known.rooms_are).1;
      exact =
          ap (λ e. length e.rows) known.ends
          ∙ length_flatpack modes (finished job history) lawful all some (omega (arith, few, small));
      steps = ap (λ e. length e.drops) known.ends ∙ length_drops job (finished job history) ∙ all;
    }
