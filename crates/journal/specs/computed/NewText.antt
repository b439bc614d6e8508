-- The new lines of a run as a computation: they are those that `ObeyedThenGreedy` describes (`obeyed-then-greedy`).
use mathlib.Core.List.{List, [], ◌∷◌, ◌++◌, flat_map}
use Rattle.std.specs.Prelude.{ℕ, zero, suc, ◌-◌, length}
use Rattle.entities.specs.declared.Triple.{Triple}
use Rattle.terms.specs.Job.{Job}
use Rattle.history.specs.computed.Choosing.{chosen}
use Rattle.journal.specs.Writing.{line_of, header_behind}

-- The lines of so many greedy steps from a history.
unfoldable pub greedy_lines : Job → ℕ → List Triple → List (List ℕ)
greedy_lines job zero history = []
greedy_lines job (suc steps) history =
    line_of job history (chosen job history) ∷ greedy_lines job steps (chosen job history ∷ history)

-- What a run that goes on from a history writes, behind so many kept bytes.
unfoldable pub new_text : Job → ℕ → List Triple → List ℕ
new_text job kept history = header_behind job kept ++ flat_map (λ line. line) (greedy_lines job (job.modes - length history) history)

-- The journal of an unbroken run.
unfoldable pub unbroken : Job → List ℕ
unbroken job = new_text job 0 []
