-- "A lawful triple (x, y, z) is three different open entities where x's z-end is an even 2k below 2n and y's is 2k+1."
use Rattle.std.specs.Prelude.{◌≡◌, Bool, true, not, ◌&&◌, ◌⊎◌, ℕ, ◌+◌, ◌*◌, ◌%◌, ◌<◌, eqb, ltb}
use mathlib.Core.List.{List, [], ◌∷◌, Memᴰ}
use Rattle.lists.specs.Ordered.{Ascending}
use Rattle.entities.specs.declared.Triple.{Triple}
use Rattle.history.specs.History.{is_open, z_end}

-- The sentence, a field a fact.
pub record Lawful (modes : ℕ) (history : List Triple) (triple : Triple) : Type 0 where
  pub x_open : is_open modes history triple.x ≡ true
  pub y_open : is_open modes history triple.y ≡ true
  pub z_open : is_open modes history triple.z ≡ true
  pub x_not_y : triple.x ≡ triple.y → ⊥
  pub x_not_z : triple.x ≡ triple.z → ⊥
  pub y_not_z : triple.y ≡ triple.z → ⊥
  pub x_even : z_end modes history triple.x % 2 ≡ 0
  pub x_below : z_end modes history triple.x < 2 * modes
  pub y_next : z_end modes history triple.y ≡ z_end modes history triple.x + 1

-- The merges so far were lawful, each when it was made.
abbrev pub LawfulHistory : ℕ → List Triple → Type 0
LawfulHistory modes [] = Unit
LawfulHistory modes (merge ∷ history) = Lawful modes history merge × LawfulHistory modes history

-- "After n steps the last parent is the root": it is open, and nothing else is.
pub record OneRoot (modes : ℕ) (history : List Triple) : Type 0 where
  pub root_open : is_open modes history (3 * modes) ≡ true
  pub alone : (entity : ℕ) → is_open modes history entity ≡ true → entity ≡ 3 * modes

-- "three … open entities", as a test: 9 is given where it fails, and 10 where the next one does.
unfoldable pub three_open : ℕ → List Triple → Triple → Bool
three_open modes history triple =
    is_open modes history triple.x && (is_open modes history triple.y && is_open modes history triple.z)

-- "three different … entities where x's z-end is an even 2k below 2n and y's is 2k+1".
unfoldable pub paired : ℕ → List Triple → Triple → Bool
paired modes history triple =
    not (eqb triple.x triple.y)
    && (not (eqb triple.x triple.z)
    && (not (eqb triple.y triple.z)
    && (eqb (z_end modes history triple.x % 2) 0
    && (ltb (z_end modes history triple.x) (2 * modes)
    && eqb (z_end modes history triple.y) (z_end modes history triple.x + 1)))))

-- "A lawful ordered pair (a, z) names it when a is its x or its y."
pub record Pair : Type 0 where
  pub a : ℕ
  pub z : ℕ

-- "names it when a is its x or its y".
pub record Names (pair : Pair) (triple : Triple) : Type 0 where
  pub a_is : (pair.a ≡ triple.x) ⊎ (pair.a ≡ triple.y)
  pub z_is : pair.z ≡ triple.z

-- The pair is earlier "in ascending a, then z".
abbrev pub Sooner : Pair → Pair → Type 0
Sooner p q = (p.a < q.a) ⊎ ((p.a ≡ q.a) × (p.z < q.z))

-- A list of the lawful ordered pairs: each pair that names a lawful triple, no other, and none twice, for they ascend.
pub record LawfulPairs (modes : ℕ) (history : List Triple) (pairs : List Pair) : Type 0 where
  pub each : (pair : Pair) (triple : Triple) → Lawful modes history triple → Names pair triple → Memᴰ pair pairs
  pub no_other : (pair : Pair) → Memᴰ pair pairs → (triple : Triple) × (Lawful modes history triple × Names pair triple)
  pub ascending : Ascending Sooner pairs
