-- What a caller concludes of a run: its merges are lawful and no more than the modes, its rows may stand elsewhere, and one stretch
-- follows another.
use mathlib.Core.Path.{◌≡◌, refl, ◌∙◌}
use mathlib.Core.List.{List, ◌∷◌}
use Prim.Native.Nat.{ℕ, suc, ◌-◌, ◌*◌, ◌<◌, ◌≤◌}
use native.Mathlib.Omega.{arith}
use lib.ListN.{length, take}
use Rattle.entities.specs.declared.Triple.{Triple}
use Rattle.terms.specs.Job.{Job}
use Rattle.terms.proofs.CountedRows.{counted_front}
use Rattle.terms.proofs.OwnRows.{front_held}
use Rattle.history.specs.Lawful.{Lawful, LawfulHistory}
use Rattle.history.specs.Choice.{weight_in}
use Rattle.history.specs.computed.Choosing.{chosen}
use Rattle.history.specs.computed.Greedy.{greedy, finished}
use Rattle.merging.specs.declared.run.Run.{Run}
use Rattle.merging.specs.code.State.{history_of}
use Rattle.merging.specs.code.Runs.{Holds, Ready, Went}
use Rattle.merging.proofs.Recording.{length_recorded}

module _ (job : Job) (rows : List ℕ) (run : Run) (holds : Holds job rows run) where
  pub merges_within : length (history_of run) ≤ job.modes
  merges_within = rw (length_recorded run.merges run.step) holds.inside

  pub merges_lawful : LawfulHistory job.modes (history_of run)
  merges_lawful = holds.lawful

  pub rows_room : 9 * length job.terms ≤ length rows
  rows_room = rw (← holds.count_is) holds.held.room

  -- The same rows at the front of other numbers.
  pub moved : (others : List ℕ) → 9 * length job.terms ≤ length others
      → take (9 * length job.terms) others ≡ take (9 * length job.terms) rows → Holds job others run
  moved others room front =
      let count = holds.count_is in
      let same = rw (← count) at front in
      record {
        whole = holds.whole;
        modes_are = holds.modes_are;
        rule_is = holds.rule_is;
        count_is = count;
        some = holds.some;
        few = holds.few;
        light = holds.light;
        inside = holds.inside;
        lawful = holds.lawful;
        tied = holds.tied;
        held = front_held 9 run.count rows others same (rw count room) holds.held;
        rows_are = counted_front run.count others rows same ∙ holds.rows_are;
        weight_is = holds.weight_is;
        bounded = holds.bounded;
        weights_are = holds.weights_are;
        drops_are = holds.drops_are;
      }

  -- The next merge, where it is lawful and truly weighed.
  pub ready : (triple : Triple) (weight : ℕ) → length (history_of run) < job.modes → Lawful job.modes (history_of run) triple
      → weight ≡ weight_in job (history_of run) triple → Ready job rows run triple weight
  ready triple weight left lawful weighs =
      record {
        holds = holds;
        left = rw (← length_recorded run.merges run.step) left;
        lawful = lawful;
        weight_is = weighs;
      }

  -- Nothing done yet.
  pub went_nowhere : Went job (history_of run) rows run rows
  went_nowhere = record { holds = holds; merges = refl; rest = refl }

-- One stretch after another.
pub went_on : (job : Job) (earlier history : List Triple) (middle last : Run) (rows middle_rows last_rows : List ℕ)
    → Went job earlier rows middle middle_rows → Went job history middle_rows last last_rows → Went job history rows last last_rows
went_on job earlier history middle last rows middle_rows last_rows one two =
    record { holds = two.holds; merges = two.merges; rest = two.rest ∙ one.rest }

-- The state as of the merges that it has written down.
pub went_here : (job : Job) (history : List Triple) (run : Run) (rows now_rows : List ℕ)
    → Went job history rows run now_rows → Went job (history_of run) rows run now_rows
went_here job history run rows now_rows went = record { holds = went.holds; merges = refl; rest = went.rest }

-- One greedy step more leads to the same end.
module _ (job : Job) (history : List Triple) where
  pub finished_on : length history < job.modes → finished job (chosen job history ∷ history) ≡ finished job history
  unfolding finished greedy
  finished_on h = let e : job.modes - length history ≡ suc (job.modes - suc (length history)) = omega arith in rw e

  pub finished_already : job.modes ≤ length history → finished job history ≡ history
  unfolding finished greedy
  finished_already h = let e : job.modes - length history ≡ 0 = omega arith in rw e
