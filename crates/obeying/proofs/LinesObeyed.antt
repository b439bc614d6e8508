-- Line by line: what the lines ahead come to, after what was made so far, is the whole answer.
use Rattle.std.specs.Prelude.{Err, Ok, Result}
use mathlib.Core.Path.{◌≡◌, refl, ◌∙◌, sym}
use mathlib.Core.Bool.{Bool}
use mathlib.Core.List.{List, [], ◌∷◌, ◌++◌}
use Prim.Native.Nat.{ℕ}
use Rattle.refusal.specs.declared.Refusal.{Refusal}
use Rattle.entities.specs.declared.Triple.{Triple}
use Rattle.terms.specs.Job.{Job}
use Rattle.merging.specs.declared.run.Run.{Run}
use Rattle.merging.specs.code.State.{history_of}
use Rattle.merging.specs.code.Runs.{Holds, Went}
use Rattle.merging.proofs.Runs.{went_nowhere, went_on}
use Rattle.obeying.specs.Obeying.{Obeyed, went, refused, obeyed_next, obeyed_lines}
use Rattle.obeying.specs.code.Obeys.{obeying, came_to, Obeys}

-- Nothing is obeyed after a refusal.
pub refused_stays : (by_hand : Bool) (job : Job) (made : List Triple) (why : Refusal) (ahead : List (List ℕ))
    → obeyed_lines by_hand job (refused made why) ahead ≡ refused made why
unfolding obeyed_lines obeyed_next
refused_stays by_hand job made why [] = refl
refused_stays by_hand job made why (bytes ∷ rest) = refused_stays by_hand job made why rest

-- Lines obeyed one after the other are obeyed together.
pub lines_on_lines : (by_hand : Bool) (job : Job) (so_far : Obeyed) (first more : List (List ℕ))
    → obeyed_lines by_hand job so_far (first ++ more) ≡ obeyed_lines by_hand job (obeyed_lines by_hand job so_far first) more
unfolding obeyed_lines
lines_on_lines by_hand job so_far [] more = refl
lines_on_lines by_hand job so_far (bytes ∷ first) more = lines_on_lines by_hand job (obeyed_next by_hand job bytes so_far) first more

module _ (by_hand : Bool) (job : Job) (first_rows : List ℕ) (answer : Obeyed) where
  pub record Along (run : Run) (rows : List ℕ) (ahead : List (List ℕ)) : Type 0 where
    pub so_far : Went job (history_of run) first_rows run rows
    pub comes : obeyed_lines by_hand job (went (history_of run)) ahead ≡ answer

  pub along_starts : (first : Run) → Holds job first_rows first → (ahead : List (List ℕ))
      → obeyed_lines by_hand job (went (history_of first)) ahead ≡ answer → Along first first_rows ahead
  along_starts first holds ahead e = record { so_far = went_nowhere job first_rows first holds; comes = e }

  module _ (run : Run) (rows : List ℕ) where
    pub along_ends : Along run rows [] → Obeys job answer first_rows rows (obeying (Ok tt) run)
    unfolding came_to obeyed_lines
    along_ends along = record { comes_to = along.comes; went = along.so_far }

    -- One line more, that is obeyed or refused.
    module _ (bytes : List ℕ) (rest : List (List ℕ)) (along : Along run rows (bytes ∷ rest)) (now_rows : List ℕ) (next : Run) where
      module _ (verdict : Result (Unit {0}) Refusal)
          (obeys : Obeys job (obeyed_next by_hand job bytes (went (history_of run))) rows now_rows (obeying verdict next)) where
        after : Went job (history_of next) first_rows next now_rows
        after = went_on job _ (history_of next) run next first_rows rows now_rows along.so_far obeys.went

        comes_on : obeyed_lines by_hand job (came_to verdict (history_of next)) rest ≡ answer
        unfolding obeyed_lines
        comes_on = rw obeys.comes_to along.comes

      pub along_goes : Obeys job (obeyed_next by_hand job bytes (went (history_of run))) rows now_rows (obeying (Ok tt) next) → Along next now_rows rest
      unfolding came_to
      along_goes obeys = record { so_far = after (Ok tt) obeys; comes = comes_on (Ok tt) obeys }

      pub along_stops : (why : Refusal) → Obeys job (obeyed_next by_hand job bytes (went (history_of run))) rows now_rows (obeying (Err why) next)
          → Obeys job answer first_rows now_rows (obeying (Err why) next)
      unfolding came_to
      along_stops why obeys =
          record {
            comes_to = sym (refused_stays by_hand job (history_of next) why rest) ∙ comes_on (Err why) obeys;
            went = after (Err why) obeys;
          }
