-- "Only this spelling is read": a text read from a place on, and where no such text can go on.
use Rattle.std.specs.Prelude.{cond, List, [], ◌∷◌, ◌++◌, ℕ, zero, suc, ◌+◌, eqb, ltb, length, get_or, take}
use Prim.Native.Char.{code}
use Rattle.lists.specs.Counting.{occurrences}
use Rattle.fields.specs.Decimal.{is_number, value}

-- What reading a child came to: its name, the nodes closed so far and the place behind it; or the place of the first byte that no such
-- text can go on with; or that of a `(` that opens a node too many. A closed node is four numbers: its label and its children's names.
pub data Reading : Type 0 where
  got : ℕ → List ℕ → ℕ → Reading
  stuck : ℕ → Reading
  crowded : ℕ → Reading

-- The name of a node is its label. Which code a leaf has is known when all nodes are read, so till then its name is beyond all labels.
unfoldable pub leaf_name : ℕ → ℕ
leaf_name number = 65536 + number

abbrev pub absent_name : ℕ
absent_name = 131072

-- What comes after a child that was read.
unfoldable pub follows : Reading → (ℕ → List ℕ → ℕ → Reading) → Reading
follows (got name rows at) next = next name rows at
follows (stuck place) next = stuck place
follows (crowded place) next = crowded place

-- The byte at a place; 0, which no such text has, at the text's end.
unfoldable pub byte_at : List ℕ → ℕ → ℕ
byte_at text at = get_or text at 0

-- A byte that must stand at a place, and what comes after it.
unfoldable pub expected : ℕ → List ℕ → ℕ → Reading → Reading
expected byte text at next = cond (eqb (byte_at text at) byte) next (stuck at)

-- A child, and a byte that must stand behind it.
unfoldable pub marked : ℕ → List ℕ → Reading → Reading
marked byte text child = follows child (λ name rows at. expected byte text at (got name rows (suc at)))

-- "numbers as in the journal": digits behind those begun, as long as they make a number, at most so many.
unfoldable pub digits_on : ℕ → List ℕ → ℕ → List ℕ → List ℕ
digits_on zero text at begun = begun
digits_on (suc more) text at begun =
    let longer = begun ++ (byte_at text at ∷ []) in
    cond (is_number longer) (digits_on more text (suc at) longer) begun

unfoldable pub number_digits : List ℕ → ℕ → List ℕ
number_digits text at = digits_on 5 text at []

-- A number that must stand at a place, and what comes after it.
unfoldable pub numbered : List ℕ → ℕ → (ℕ → ℕ → Reading) → Reading
numbered text at next =
    let digits = number_digits text at in
    cond (eqb (length digits) 0) (stuck at) (next (value digits) (at + length digits))

-- "a child writes a leaf or goes on to its node".
unfoldable pub child_by : (List ℕ → ℕ → Reading) → List ℕ → List ℕ → ℕ → Reading
child_by on_to_node text rows at =
    cond (eqb (byte_at text at) (code "e")) (got absent_name rows (suc at))
    (cond (eqb (byte_at text at) (code "m")) (numbered text (suc at) (λ number end. got (leaf_name number) rows end))
    (on_to_node rows at))

-- A node's name behind its children closes it.
unfoldable pub named : List ℕ → List ℕ → ℕ → ℕ → ℕ → ℕ → Reading
named text rows at x y z =
    expected (code "n") text at
    (numbered text (suc at) (λ label end. got label (rows ++ (label ∷ (x ∷ (y ∷ (z ∷ []))))) end))

-- "three children in parentheses", behind the `(`.
unfoldable pub inside : (List ℕ → ℕ → Reading) → List ℕ → List ℕ → ℕ → Reading
inside child text rows at =
    follows (marked (code ",") text (child rows at))
    (λ x rows at.
    follows (marked (code ",") text (child rows at))
    (λ y rows at.
    follows (marked (code ")") text (child rows at))
    (λ z rows at. named text rows at x y z)))

-- How many `(` stand before a place.
unfoldable pub opened : List ℕ → ℕ → ℕ
opened text at = occurrences (code "(") (take at text)

-- A node: one too many where as many `(` stand before its own as a text may have nodes. `depth` nodes may stand one within the other.
unfoldable pub node_read : ℕ → ℕ → List ℕ → List ℕ → ℕ → Reading
node_read most zero text rows at = expected (code "(") text at (crowded at)
node_read most (suc depth) text rows at =
    expected (code "(") text at
    (cond (ltb (opened text at) most) (inside (child_by (node_read most depth text) text) text rows (suc at)) (crowded at))

-- A whole text of at most so many nodes, and so no deeper: a node, `;` behind it, and nothing behind that.
unfoldable pub text_read : ℕ → List ℕ → Reading
text_read most text =
    follows (marked (code ";") text (node_read most most text [] 0))
    (λ name rows at. cond (eqb at (length text)) (got name rows at) (stuck at))
