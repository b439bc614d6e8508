-- What the strings of a tree promise: any two "differ in an odd number of places where neither is I", and those of one term multiply to as many letters as the term weighs.
use Rattle.std.specs.Prelude.{◌≡◌, true, List, [], ◌∷◌, map, ℕ, ◌+◌, ◌*◌, ◌%◌, ◌<◌, ltb, Ok}
use Rattle.lists.specs.Counting.{sum}
use Rattle.lists.specs.Members.{every}
use Rattle.terms.specs.declared.letters.Letter.{Letter}
use Rattle.terms.specs.declared.letters.Letter.TheVariants.{Nothing, X, Y, Z}
use Rattle.terms.specs.Letters.{not_none}
use Rattle.tree.specs.Table.{nodes}
use Rattle.tree.specs.Check.{tree_checked}
use Rattle.tree_weight.specs.Weight.{node_letter, tree_weight}
use Rattle.strings.specs.Strings.{string}

-- Two letters multiplied, "phase left off": equal ones give none, two different ones the third.
unfoldable pub times : Letter → Letter → Letter
times Nothing other = other
times X Nothing = X
times X X = Nothing
times X Y = Z
times X Z = Y
times Y Nothing = Y
times Y X = Z
times Y Y = Nothing
times Y Z = X
times Z Nothing = Z
times Z X = Y
times Z Y = X
times Z Z = Nothing

-- "multiplied place by place".
unfoldable pub multiplied : List Letter → List Letter → List Letter
multiplied [] others = []
multiplied (letter ∷ letters) [] = []
multiplied (letter ∷ letters) (other ∷ others) = times letter other ∷ multiplied letters others

-- "the letters of one term's strings multiplied", from no letter anywhere.
unfoldable pub product : ℕ → List ℕ → List ℕ → List Letter
product modes table [] = map (λ node. Nothing) (nodes modes)
product modes table (majorana ∷ term) = multiplied (string modes table majorana) (product modes table term)

-- In how many places the letters are "non-I".
unfoldable pub letters_in : List Letter → ℕ
letters_in letters = sum (map not_none letters)

-- 1 where two letters "differ … where neither is I".
unfoldable pub clash : Letter → Letter → ℕ
clash Nothing other = 0
clash X Nothing = 0
clash X X = 0
clash X Y = 1
clash X Z = 1
clash Y Nothing = 0
clash Y X = 1
clash Y Y = 0
clash Y Z = 1
clash Z Nothing = 0
clash Z X = 1
clash Z Y = 1
clash Z Z = 0

-- In how many places two strings do.
unfoldable pub clashes : List Letter → List Letter → ℕ
clashes [] others = 0
clashes (letter ∷ letters) [] = 0
clashes (letter ∷ letters) (other ∷ others) = clash letter other + clashes letters others

-- "Any two different strings differ in an odd number of places where neither is I": as operators they anticommute.
abbrev pub Anticommute : Type 0
Anticommute =
    (most modes : ℕ) (table : List ℕ) → tree_checked most modes table ≡ Ok tt
    → (majorana other : ℕ) → majorana < 2 * modes → other < 2 * modes → (majorana ≡ other → ⊥)
    → clashes (string modes table majorana) (string modes table other) % 2 ≡ 1

-- That number is always one: the node at which the two paths part.
abbrev pub ClashOnce : Type 0
ClashOnce =
    (most modes : ℕ) (table : List ℕ) → tree_checked most modes table ≡ Ok tt
    → (majorana other : ℕ) → majorana < 2 * modes → other < 2 * modes → (majorana ≡ other → ⊥)
    → clashes (string modes table majorana) (string modes table other) ≡ 1

-- So no two Majoranas have the same string,
abbrev pub StringsDiffer : Type 0
StringsDiffer =
    (most modes : ℕ) (table : List ℕ) → tree_checked most modes table ≡ Ok tt
    → (majorana other : ℕ) → majorana < 2 * modes → other < 2 * modes → (majorana ≡ other → ⊥)
    → string modes table majorana ≡ string modes table other → ⊥

-- and none is without a letter.
abbrev pub NotAllNone : Type 0
NotAllNone =
    (most modes : ℕ) (table : List ℕ) → tree_checked most modes table ≡ Ok tt
    → (majorana : ℕ) → majorana < 2 * modes → 0 < letters_in (string modes table majorana)

-- A term's product has at each node the letter that the term has there, for any table.
abbrev pub ProductIsLetters : Type 0
ProductIsLetters =
    (modes : ℕ) (table term : List ℕ) → product modes table term ≡ map (node_letter modes table term) (nodes modes)

-- "non-I in as many places as the tree weight of that term alone".
abbrev pub ProductWeighs : Type 0
ProductWeighs =
    (modes : ℕ) (table term : List ℕ) → every (λ index. ltb index (2 * modes)) term ≡ true
    → letters_in (product modes table term) ≡ tree_weight modes table (term ∷ [])
