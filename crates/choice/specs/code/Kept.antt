-- What the structs of the search through a round's choices keep.
use Rattle.std.specs.Prelude.{List, ℕ, ◌+◌, ◌*◌, ◌≤◌, ◌<◌}
use Rattle.entities.specs.declared.Triple.{Triple}
use Rattle.entities.specs.Limits.{most_modes, row_width}
use Rattle.terms.specs.Rows.{terms_of}
use Rattle.terms.specs.Weight.{weight_of}
use Rattle.tallying.specs.code.Tallies.{Looked}

-- No number of a slot is above 3n+2.
abbrev pub SlotsFit : ℕ → Triple → Type 0
SlotsFit modes slots = (slots.x ≤ 3 * modes + 2) × (slots.y ≤ 3 * modes + 2) × (slots.z ≤ 3 * modes + 2)

-- X and Y are leaves that aren't fixed yet.
abbrev pub PairUnfixed : ℕ → Triple → Type 0
PairUnfixed modes slots = (3 * modes < slots.x) × (3 * modes < slots.y)

-- What X and Y weigh beside any z is `all` and z's entry of `odds`, less z's entry of `less`.
abbrev pub CoupleLooked : ℕ → List ℕ → Triple → ℕ → List ℕ → List ℕ → Type 0
CoupleLooked count rows slots all odds less =
    Looked (2 * most_modes) (λ triple. weight_of triple (terms_of row_width count rows)) slots.x slots.y all odds less
