-- How the code goes through the lawful pairs: each a with its x and y first, then every z that is free beside them.
use Rattle.choosing.specs.declared.lawful.Couple.{Couple}
use Rattle.std.specs.Prelude.{◌≡◌, Bool, false, cond, not, ◌&&◌, ℕ, ◌+◌, ◌*◌, ◌%◌, ◌<◌, ◌≤◌, eqb, ltb, get_or, None, Option, Some}
use mathlib.Core.List.{List, [], map, Memᴰ}
use Rattle.lists.specs.Least.{least}
use Rattle.lists.specs.Members.{keep}
use Rattle.lists.specs.Ranges.{listed}
use Rattle.entities.specs.declared.Triple.{Triple}
use Rattle.entities.specs.Limits.{row_width, entity_room}
use Rattle.terms.specs.Rows.{terms_of}
use Rattle.terms.specs.Weight.{weight_of}
use Rattle.tallying.specs.code.Tallies.{Looked}
use Rattle.history.specs.History.{next_parent, is_open, z_end}
use Rattle.history.specs.computed.Pairs.{holder, named}
use Rattle.choosing.specs.declared.choice.Best.{Best}
use Rattle.choosing.specs.declared.entity_tables.Tables.{Tables}

-- x of the triples that an entity names; z has no part in it.
unfoldable pub x_of : ℕ → List Triple → ℕ → ℕ
x_of modes history a = (named modes history (record { a = a; z = 0 })).x

-- y of the triples that an entity names.
unfoldable pub y_of : ℕ → List Triple → ℕ → ℕ
y_of modes history a = (named modes history (record { a = a; z = 0 })).y

-- "an even 2k below 2n and … 2k+1".
unfoldable pub ends_pair : ℕ → ℕ → ℕ → Bool
ends_pair modes x_end y_end = eqb (x_end % 2) 0 && (ltb x_end (2 * modes) && eqb y_end (x_end + 1))

-- x and y are two open entities with paired z-ends.
unfoldable pub coupled : ℕ → List Triple → ℕ → ℕ → Bool
coupled modes history x y =
    is_open modes history x
    && (is_open modes history y && (not (eqb x y) && ends_pair modes (z_end modes history x) (z_end modes history y)))

-- The x and y that an entity names, where they are lawful beside each other.
unfoldable pub couple : ℕ → List Triple → ℕ → Option Couple
couple modes history a =
    cond (coupled modes history (x_of modes history a) (y_of modes history a))
    (Some (record { x = x_of modes history a; y = y_of modes history a }))
    None

-- z is open, and neither x nor y.
unfoldable pub free : ℕ → List Triple → Triple → Bool
free modes history triple = not (eqb triple.x triple.z) && (not (eqb triple.y triple.z) && is_open modes history triple.z)

-- The triples of x and y with each free z of so many from here on.
unfoldable pub beside : ℕ → List Triple → ℕ → ℕ → ℕ → ℕ → List Triple
beside modes history x y from count =
    keep (free modes history) (listed (λ z. record { x = x; y = y; z = z }) from count)

-- The triples of a couple with each free z.
unfoldable pub beside_couple : ℕ → List Triple → ℕ → Option Couple → List Triple
beside_couple modes history count (Some couple) = beside modes history couple.x couple.y 0 count
beside_couple modes history count None = []

-- The weight of a triple in the first rows.
unfoldable pub weight_here : ℕ → List ℕ → Triple → ℕ
weight_here count rows triple = weight_of triple (terms_of row_width count rows)

-- What a couple weighs beside any z is `all` and z's entry of `odds`, less z's entry of `less`.
abbrev pub CoupleLooked : ℕ → List ℕ → Couple → ℕ → List ℕ → List ℕ → Type 0
CoupleLooked count rows named all odds less = Looked entity_room (weight_here count rows) named.x named.y all odds less

-- It never weighs less than this.
abbrev pub CoupleBounded : ℕ → List ℕ → Couple → ℕ → Type 0
CoupleBounded count rows named apart =
    (z : ℕ) → apart ≤ weight_here count rows (record { x = named.x; y = named.y; z = z })

-- A triple with its weight.
unfoldable pub weighed : (Triple → ℕ) → Triple → Best
weighed measure triple = record { weight = measure triple; triple = triple }

-- The best so far against the triples of a list, one after the other; on a tie the first.
unfoldable pub seek : (Triple → ℕ) → Best → List Triple → Best
seek measure best triples = least (λ b. b.weight) best (map (weighed measure) triples)

-- Before the first triple: above every weight, since a row weighs at most 1.
unfoldable pub nothing : ℕ → Best
nothing count = record { weight = count + 1; triple = record { x = 0; y = 0; z = 0 } }

-- No triple of the list is lighter than the best.
abbrev pub Settled : (Triple → ℕ) → Best → List Triple → Type 0
Settled measure best triples = (triple : Triple) → Memᴰ triple triples → best.weight ≤ measure triple

-- Nor is any that an entity below `a` names.
abbrev pub SettledBelow : (Triple → ℕ) → ℕ → List Triple → ℕ → Best → ℕ → Type 0
SettledBelow measure modes history next best a =
    (lower : ℕ) → lower < a → Settled measure best (beside_couple modes history next (couple modes history lower))

-- The tables of the entities say what the history says, as far as they reach.
abbrev pub OpensAre : ℕ → ℕ → List Triple → List Bool → Type 0
OpensAre room modes history opens = (entity : ℕ) → entity < room → get_or opens entity false ≡ is_open modes history entity

abbrev pub EndsAre : ℕ → ℕ → List Triple → List ℕ → Type 0
EndsAre room modes history ends = (entity : ℕ) → entity < room → get_or ends entity 0 ≡ z_end modes history entity

abbrev pub HoldersAre : ℕ → ℕ → List Triple → List ℕ → Type 0
HoldersAre room modes history holders = (leaf : ℕ) → leaf < room → get_or holders leaf 0 ≡ holder modes history leaf

pub record Tied (room modes : ℕ) (history : List Triple) (tables : Tables) : Type 0 where
  pub within : next_parent modes history ≤ room
  pub opens_are : OpensAre room modes history tables.opens
  pub ends_are : EndsAre room modes history tables.ends
  pub holders_are : HoldersAre room modes history tables.holders
