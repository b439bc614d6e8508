-- "a node writes its three children in parentheses, a child writes a leaf or goes on to its node. Nodes are `n0`, leaves `m0`, the absent
-- child `e`."
use Rattle.std.specs.Prelude.{◌≡◌, Bool, true, false, ◌&&◌, List, ◌++◌, ℕ, leb}
use Rattle.fields.specs.Texts.{spelt}
use Rattle.fields.specs.Decimal.{decimal}

-- What a text spells: a leaf by its number, the absent child, or a node's X, Y and Z child and its label.
pub data Shape : Type 0 where
  leaf : ℕ → Shape
  none : Shape
  node : Shape → Shape → Shape → ℕ → Shape

-- The text of a child.
unfoldable pub spelled : Shape → List ℕ
spelled (leaf number) = spelt "m" ++ decimal number
spelled none = spelt "e"
spelled (node x y z label) =
    spelt "(" ++ (spelled x ++ (spelt "," ++ (spelled y ++ (spelt "," ++ (spelled z ++ (spelt ")n" ++ decimal label))))))

-- "numbers as in the journal": at most 65535.
unfoldable pub numbers_fit : Shape → Bool
numbers_fit (leaf number) = leb number 65535
numbers_fit none = true
numbers_fit (node x y z label) = numbers_fit x && (numbers_fit y && (numbers_fit z && leb label 65535))

unfoldable pub is_node : Shape → Bool
is_node (leaf number) = false
is_node none = false
is_node (node x y z label) = true

-- The text of a whole tree: a node, and `;` behind it.
pub record Spells (shape : Shape) (text : List ℕ) : Type 0 where
  pub root : is_node shape ≡ true
  pub numbers : numbers_fit shape ≡ true
  pub text_is : text ≡ spelled shape ++ spelt ";"
