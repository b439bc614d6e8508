-- What a caller knows of a run, whatever its tables' sizes: the job that it is of, the merges that it has made, and its rows.
use Rattle.std.specs.Prelude.{List, ℕ}
use Rattle.entities.specs.declared.Triple.{Triple}
use Rattle.entities.specs.Limits.{most_modes, entity_room}
use Rattle.terms.specs.Job.{Job}
use Rattle.merging.specs.declared.run.Run.{Run}
use Rattle.merging.specs.code.State.{HoldsIn, ReadyIn, WentIn}

-- The run is of this job, and its rows are at the front of these numbers.
abbrev pub Holds : Job → List ℕ → Run → Type 0
Holds job rows run = HoldsIn entity_room most_modes job rows run

-- A lawful merge with its true weight, ready to be made.
abbrev pub Ready : Job → List ℕ → Run → Triple → ℕ → Type 0
Ready job rows run triple weight = ReadyIn entity_room most_modes job rows run triple weight

-- The run has made these merges; the numbers behind its rows are as they were.
abbrev pub Went : Job → List Triple → List ℕ → Run → List ℕ → Type 0
Went job history rows after now_rows = WentIn entity_room most_modes job history rows after now_rows
