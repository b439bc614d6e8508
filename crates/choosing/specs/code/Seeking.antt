-- What the search through a step's lawful triples says of what it is made with.
use Rattle.std.specs.Prelude.{List, ℕ}
use Rattle.entities.specs.declared.Triple.{Triple}
use Rattle.entities.specs.Limits.{entity_room}
use Rattle.choosing.specs.declared.lawful.Couple.{Couple}
use Rattle.choosing.specs.declared.seeking.Seeking.{Seeking}
use Rattle.choosing.specs.code.Couples.{weight_here, Tied}

-- The weight of a triple in the rows that a choice is sought among.
abbrev pub measured : Seeking → Triple → ℕ
measured seeking = weight_here seeking.gathered.count seeking.gathered.rows.now

-- The tables are those of this history.
abbrev pub TiedTo : Seeking → List Triple → Type 0
TiedTo seeking history = Tied entity_room seeking.modes history seeking.tables.now

-- A couple and a z.
abbrev pub triple_of : Couple → ℕ → Triple
triple_of named z = record { x = named.x; y = named.y; z = z }
