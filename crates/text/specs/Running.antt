-- What a program's text asks for: "The program `hatt` reads standard input …", and 18 "before any other number".
use Rattle.std.specs.Prelude.{List, ℕ, ◌+◌, ◌*◌}
use Rattle.refusal.specs.declared.Refusal.TheVariants.{Malformed}
use Rattle.entities.specs.Limits.{most_modes, most_terms, work_width}
use Rattle.terms.specs.declared.rules.Rule.{Rule}
use Rattle.terms.specs.Rules.{rule_number}
use Rattle.journal.specs.Resuming.{Outcome, refuses, resumed, Rooms as RunRooms}
use Rattle.terms_text.specs.Input.{Said, given, malformed, said}
use Rattle.terms_text.specs.Jobs.{Request}

-- What a program has room for: the most terms that it reads, and what its run has room for.
pub record Rooms : Type 0 where
  pub terms : ℕ
  pub run : RunRooms

-- "Modes n: 1 to 256. … Terms T: 0 to 2048"; "Room: … rows 4n; … journal bytes 16 + 21n." Document 02: "9T work numbers", "a lent table of n
-- numbers".
abbrev pub program_rooms : Rooms
program_rooms =
    record {
      terms = most_terms;
      run =
          record {
            modes = most_modes;
            work = work_width * most_terms;
            rows = 4 * most_modes;
            journal = 16 + 21 * most_modes;
            drops = most_modes;
          };
    }

-- The bytes that a program has room to print: more than the longest answer has.
abbrev pub printed_room : ℕ
printed_room = 16384

-- 18 is "before any other number".
unfoldable pub ran_by : Rooms → Rule → Said → List ℕ → Outcome
ran_by rooms rule (given modes numbers) read = resumed rooms.run modes (rule_number rule) numbers read
ran_by rooms rule (malformed line) read = refuses (Malformed line)

-- What the run that is asked for comes to in these rooms, resumed from the journal that is read; an empty one is an unbroken run.
unfoldable pub ran : Rooms → Request → List ℕ → Outcome
ran rooms asks read = ran_by rooms asks.rule (said rooms.terms asks.text) read
