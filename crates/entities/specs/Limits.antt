-- The numbers at which calls stop: "Modes n: 1 to 256 … Terms T: 0 to 2048, in rows of eight u16". They are limits of calls and of the
-- tables that calls hold; no rule turns on them.
use Rattle.std.specs.Prelude.{ℕ, ◌+◌, ◌*◌}

-- The most modes that a call takes.
abbrev pub most_modes : ℕ
most_modes = 256

-- The most terms.
abbrev pub most_terms : ℕ
most_terms = 2048

-- The numbers of a term's row.
abbrev pub row_width : ℕ
row_width = 8

-- Document 02: "Each work row gets a ninth number".
abbrev pub work_width : ℕ
work_width = 9

-- "marks for all 769 entities held by value": leaves 0 to 2n and parents to 3n, of the most modes.
abbrev pub entity_room : ℕ
entity_room = 3 * most_modes + 1
