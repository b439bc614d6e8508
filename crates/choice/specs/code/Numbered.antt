-- The choices of three slots, as the code has them: by the numbers that the slots stand as.
use Rattle.std.specs.Prelude.{cond, ◌&&◌, ℕ}
use mathlib.Core.List.{List, [], ◌∷◌, map, flat_map}
use Rattle.entities.specs.declared.Triple.{Triple}
use Rattle.slots.specs.code.Numbers.{number_unfixed, number_leaf}
use Rattle.choice.specs.Choices.{without, with_z}

-- What a slot of this number may stand as, of these modes.
unfoldable pub numbered : ℕ → ℕ → List ℕ → List ℕ
numbered modes number free = cond (number_unfixed modes number) (map (number_leaf modes number) free) (number ∷ [])

-- The choices of three slots of these numbers.
unfoldable pub numbered_choices : ℕ → List ℕ → ℕ → ℕ → ℕ → List Triple
numbered_choices modes free x y z =
    cond (number_unfixed modes x && number_unfixed modes y)
    (flat_map (λ mode. with_z (number_leaf modes x mode) (number_leaf modes y mode) (numbered modes z (without mode free))) free)
    (with_z x y (numbered modes z free))
