-- What the code that obeys a journal comes to: the run as of the merges that were made, and why it stopped where a line was refused.
use Rattle.std.specs.Prelude.{◌≡◌, List, ℕ, Err, Ok, Result}
use Rattle.refusal.specs.declared.Refusal.{Refusal}
use Rattle.entities.specs.declared.Triple.{Triple}
use Rattle.terms.specs.Job.{Job}
use Rattle.merging.specs.declared.run.Run.{Run}
use Rattle.merging.specs.code.State.{history_of}
use Rattle.merging.specs.code.Runs.{Went}
use Rattle.obeying.specs.declared.Obeying.{Obeying}
use Rattle.obeying.specs.Obeying.{Obeyed, went as goes, refused}

-- A verdict beside the run that was come to.
abbrev pub obeying : Result (Unit {0}) Refusal → Run → Obeying
obeying verdict run = record { verdict = verdict; run = run }

-- What was come to, as the meaning says it.
unfoldable pub came_to : Result (Unit {0}) Refusal → List Triple → Obeyed
came_to (Ok done) made = goes made
came_to (Err why) made = refused made why

-- The answer of the meaning, and the run of the same job with the merges that were made.
pub record Obeys (job : Job) (answer : Obeyed) (rows now_rows : List ℕ) (found : Obeying) : Type 0 where
  pub comes_to : came_to found.verdict (history_of found.run) ≡ answer
  pub went : Went job (history_of found.run) rows found.run now_rows
