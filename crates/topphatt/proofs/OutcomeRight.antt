-- A call that is done has computed what document 01 describes.
use Rattle.std.specs.Prelude.{Ok}
use mathlib.Core.Path.{◌≡◌, refl}
use Prim.Native.Nat.{ℕ}
use Rattle.tree.specs.Check.{tree_checked}
use Rattle.slots.proofs.AcceptedFits.{accepted_fits}
use Rattle.topphatt.specs.Rounds.{Task}
use Rattle.topphatt.specs.computed.Rounding.{ended}
use Rattle.topphatt.specs.Answer.{answer_table, task_of}
use Rattle.topphatt.specs.Assignment.{AnswerRight, EveryAssignment}
use Rattle.topphatt.proofs.AssignDone.{assign_done}
use Rattle.topphatt.proofs.RoundsGo.{all_assigned}
use Rattle.topphatt.proofs.RoundsWent.{ended_went}
use Rattle.topphatt.proofs.AnswerShape.{answer_shape}
use Rattle.topphatt.proofs.AnswerAccepted.{answer_accepted}

module _ (most : ℕ) (task : Task) (accepted : tree_checked most task.job.modes task.table ≡ Ok tt) where
  ended_right : AnswerRight most task (ended task).weight (answer_table task.job.modes (ended task).assigned task.table)
  ended_right =
      let all = all_assigned most task accepted in
      let fits = accepted_fits most task.job.modes task.table accepted in
      record {
        end = ended task;
        went = ended_went most task accepted;
        weight_is = refl;
        answer_is = refl;
        all = all;
        shape = answer_shape task.job.modes task.table (ended task).assigned all fits most accepted;
        accepted = answer_accepted task.job.modes task.table (ended task).assigned all fits most accepted;
      }

pub outcome_right : EveryAssignment
outcome_right rooms call count weight answer e =
    let known = assign_done rooms call count weight answer e in
    rw (known.weight_is, known.answer_is) (ended_right rooms.modes (task_of call count) known.accepted)
