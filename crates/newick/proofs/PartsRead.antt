-- How each part of a text is read, case by case.
use Rattle.std.specs.Prelude.{Result, Ok, Err}
use mathlib.Core.Path.{◌≡◌, refl, ap, ◌∙◌, sym}
use mathlib.Core.Bool.{true, false}
use mathlib.Core.Logic.{◌⊎◌, inl, inr}
use mathlib.Core.List.{List, [], ◌∷◌, ◌++◌}
use Prim.Native.Nat.{ℕ, zero, suc, ◌+◌, ◌-◌, ◌*◌, ◌<◌, ◌≤◌}
use native.Mathlib.Numerals.{add-one}
use native.Mathlib.Omega.{arith}
use borrow.Author.Tests.{eq-eqb, ne_eqb, lt-ltb, le-ltb}
use lib.Dec.{eqb}
use lib.ListN.{length, take}
use Rattle.lists.specs.Written.{written_at}
use Rattle.lists.proofs.Written.{front_written}
use Rattle.newick.specs.declared.reading.Child.{Child}
use Rattle.newick.specs.declared.reading.Stop.{Stop}
use Rattle.newick.specs.declared.reading.Stop.TheVariants.{Stuck, Crowded}
use Rattle.newick.specs.declared.digits.Number.{Number}
use Rattle.newick.specs.Reading.{Reading, got, stuck, crowded, absent_name, leaf_name, follows, byte_at, expected, marked, number_digits, numbered, child_by, named, inside}
use Rattle.newick.specs.code.Within.{node_within, child_within}
use Rattle.newick.specs.code.Promises.{NumberRead, stopped, meant, place_of, end_of, closed_of, Reads}

-- The child with the byte behind it says what a byte behind the child says, and ends within the text.
module _ (text : List ℕ) (byte : ℕ) (child : Child) where
  abbrev pub Marked : Result Child Stop → Type 0
  Marked r =
      ((numbers : List ℕ) → meant r numbers ≡ marked byte text (meant (Ok child) numbers))
      × ((end_of r ≤ length text) × (closed_of r ≤ child.closed))

  pub marked_missing : child.end ≤ length text → eqb (byte_at text child.end) byte ≡ false → Marked (Err (Stuck child.end))
  unfolding meant stopped marked follows expected end_of place_of closed_of
  marked_missing h f = (λ numbers. rw f, (h, omega arith))

  pub marked_there : eqb (byte_at text child.end) byte ≡ true → child.end < length text
      → Marked (Ok (record { name = child.name; end = child.end + 1; closed = child.closed }))
  unfolding meant marked follows expected end_of closed_of
  marked_there f k = (λ numbers. rw (f, add-one child.end), (omega arith, omega arith))

-- A number that must stand at a place: there is none, or it goes on behind it.
module _ (text : List ℕ) (at : ℕ) (next : ℕ → ℕ → Reading) (r : Number) (n : NumberRead text at r) where
  pub numbered_none : r.end ≡ at → numbered text at next ≡ stuck at
  unfolding numbered
  numbered_none e = rw (eq-eqb (length (number_digits text at)) 0 (omega (arith, n.behind)))

  pub numbered_some : (r.end ≡ at → ⊥) → numbered text at next ≡ next r.value r.end
  unfolding numbered
  numbered_some e =
      let some : length (number_digits text at) ≡ 0 → ⊥ = λ f. e (omega (arith, n.behind)) in
      rw (ne_eqb (length (number_digits text at)) 0 some, n.says, n.behind)

-- A node's name behind its children.
module _ (text rows : List ℕ) (at x y z : ℕ) where
  pub named_missing : eqb (byte_at text at) 110 ≡ false → named text rows at x y z ≡ stuck at
  unfolding named expected
  named_missing e = rw e

  module _ (e : eqb (byte_at text at) 110 ≡ true) (r : Number) (n : NumberRead text (at + 1) r) where
    abbrev close : ℕ → ℕ → Reading
    close label end = got label (rows ++ (label ∷ (x ∷ (y ∷ (z ∷ []))))) end

    named_on : named text rows at x y z ≡ numbered text (at + 1) close
    unfolding named expected
    named_on = rw (e, add-one at)

    pub named_none : r.end ≡ at + 1 → named text rows at x y z ≡ stuck (at + 1)
    named_none f = named_on ∙ numbered_none text (at + 1) close r n f

    pub named_some : (r.end ≡ at + 1 → ⊥) → named text rows at x y z ≡ got r.value (rows ++ (r.value ∷ (x ∷ (y ∷ (z ∷ []))))) r.end
    named_some f = named_on ∙ numbered_some text (at + 1) close r n f

-- A row of four written behind the closed nodes is one closed node more.
pub one_closed : (closed label x y z : ℕ) (numbers : List ℕ) → 4 * closed + 4 ≤ length numbers
    → take (4 * (closed + 1)) (written_at (4 * closed) (label ∷ (x ∷ (y ∷ (z ∷ [])))) numbers)
    ≡ take (4 * closed) numbers ++ (label ∷ (x ∷ (y ∷ (z ∷ []))))
one_closed closed label x y z numbers h =
    let e : 4 * (closed + 1) ≡ 4 * closed + 4 = omega arith in
    rw e (front_written (4 * closed) (label ∷ (x ∷ (y ∷ (z ∷ [])))) numbers h)

-- A child is absent, a leaf or a node.
module _ (height : ℕ) (text rows : List ℕ) (at : ℕ) where
  pub child_absent : eqb (byte_at text at) 101 ≡ true → child_within height text rows at ≡ got absent_name rows (at + 1)
  unfolding child_within child_by
  child_absent e = rw (e, add-one at)

  module _ (e : eqb (byte_at text at) 101 ≡ false) where
    pub child_leaf : eqb (byte_at text at) 109 ≡ true
        → child_within height text rows at ≡ numbered text (at + 1) (λ number end. got (leaf_name number) rows end)
    unfolding child_within child_by
    child_leaf f = rw (e, f, add-one at)

    pub child_node : eqb (byte_at text at) 109 ≡ false → child_within height text rows at ≡ node_within height text rows at
    unfolding child_within child_by
    child_node f = rw (e, f)

-- What comes behind a node's first child, and behind its second.
unfoldable pub after_second : ℕ → List ℕ → ℕ → ℕ → List ℕ → ℕ → Reading
after_second below text x y rows at = follows (marked 41 text (child_within below text rows at)) (λ z rows at. named text rows at x y z)

unfoldable pub after_first : ℕ → List ℕ → ℕ → List ℕ → ℕ → Reading
after_first below text x rows at = follows (marked 44 text (child_within below text rows at)) (λ y rows at. after_second below text x y rows at)

-- A node does not begin here, is one too many, or goes on to its first child.
module _ (text rows : List ℕ) (at : ℕ) where
  pub node_missing : (height : ℕ) → eqb (byte_at text at) 40 ≡ false → node_within height text rows at ≡ stuck at
  unfolding node_within expected
  node_missing zero e = rw e
  node_missing (suc height) e = rw e

  pub node_crowded : (height : ℕ) → eqb (byte_at text at) 40 ≡ true → length rows ≡ 4 * height → node_within height text rows at ≡ crowded at
  unfolding node_within expected
  node_crowded zero e f = rw e
  node_crowded (suc height) e f = rw (e, le-ltb (length rows) (4 * suc height) (omega arith))

  pub node_opens : (height : ℕ) → eqb (byte_at text at) 40 ≡ true → length rows < 4 * height
      → node_within height text rows at
      ≡ follows (marked 44 text (child_within (height - 1) text rows (at + 1))) (after_first (height - 1) text)
  unfolding node_within expected inside child_within after_first after_second
  node_opens zero e f = absurd (omega arith)
  node_opens (suc height) e f =
      let down : suc height - 1 ≡ height = omega arith in
      rw (e, lt-ltb (length rows) (4 * suc height) f, down, add-one at)

-- A part was read, and what is to follow it comes to the whole.
pub record Onward (whole : Reading) (text numbers : List ℕ) (below : ℕ) (r : Result Child Stop) (next : ℕ → List ℕ → ℕ → Reading) : Type 0 where
  pub comes : whole ≡ follows (meant r numbers) next
  pub within : end_of r ≤ length text
  pub few : closed_of r ≤ below

-- What stopped is the whole, whatever was to follow.
stays : (next : ℕ → List ℕ → ℕ → Reading) (stop : Stop) → follows (stopped stop) next ≡ stopped stop
unfolding stopped follows
stays next (Stuck place) = refl
stays next (Crowded place) = refl

-- Behind a part that was read a byte is to stand; where the part stopped, none is asked for.
module _ {whole reading : Reading} {text numbers : List ℕ} {below : ℕ} {part : Result Child Stop} (byte : ℕ) (next : ℕ → List ℕ → ℕ → Reading)
    (e : whole ≡ follows (marked byte text reading) next) (reads : Reads reading text numbers below part) where
  pub onward : {child : Child} {r : Result Child Stop} → part ≡ Ok child → Marked text byte child r → Onward whole text numbers below r next
  unfolding closed_of
  onward {child} {r} f m =
      let few : child.closed ≤ below = rw f at reads.few in
      let said : reading ≡ meant (Ok child) numbers = sym reads.says ∙ ap (λ w. meant w numbers) f in
      record {
        comes = e ∙ ap (λ w. follows (marked byte text w) next) said ∙ ap (λ w. follows w next) (sym (m.0 numbers));
        within = m.1.0;
        few = omega (arith, m.1.1);
      }

  pub stops_before : {height : ℕ} {stop : Stop} → part ≡ Err stop → Reads whole text numbers height (Err stop)
  unfolding meant marked closed_of
  stops_before {height} {stop} f =
      let read : reading ≡ stopped stop = sym reads.says ∙ ap (λ w. meant w numbers) f in
      record {
        says = sym (e ∙ ap (λ w. follows (marked byte text w) next) read ∙ ap (λ w. follows w next) (stays _ stop) ∙ stays next stop);
        within = rw f at reads.within;
        few = omega arith;
      }

module _ {whole : Reading} {text numbers : List ℕ} {below : ℕ} {r : Result Child Stop} {next : ℕ → List ℕ → ℕ → Reading}
    (o : Onward whole text numbers below r next) where
  -- What stopped ends the whole as it ended.
  pub stops_there : {height : ℕ} {stop : Stop} → r ≡ Err stop → Reads whole text numbers height (Err stop)
  unfolding meant closed_of
  stops_there {height} {stop} e =
      record { says = sym (o.comes ∙ ap (λ w. follows (meant w numbers) next) e ∙ stays next stop); within = rw e at o.within; few = omega arith }

  -- Behind a child it goes on.
  pub goes_behind : {child : Child} → r ≡ Ok child
      → (whole ≡ next child.name (take (4 * child.closed) numbers) child.end) × ((child.end ≤ length text) × (child.closed ≤ below))
  unfolding meant follows end_of closed_of
  goes_behind e = (o.comes ∙ rw e, (rw e at o.within, rw e at o.few))

-- What is no child is one of the other two.
pub no_child : (r : Result Child Stop) → ((child : Child) → r ≡ Ok child → ⊥)
    → ((place : ℕ) × (r ≡ Err (Stuck place))) ⊎ ((place : ℕ) × (r ≡ Err (Crowded place)))
no_child (Ok child) h = absurd (h child refl)
no_child (Err (Stuck place)) h = inl (place, refl)
no_child (Err (Crowded place)) h = inr (place, refl)

-- What a part that was read says of the reading.
module _ {reading : Reading} {text numbers : List ℕ} {height : ℕ} {r : Result Child Stop} (reads : Reads reading text numbers height r) where
  pub part_child : {child : Child} → r ≡ Ok child
      → (reading ≡ got child.name (take (4 * child.closed) numbers) child.end) × ((child.end ≤ length text) × (child.closed ≤ height))
  unfolding meant end_of closed_of
  part_child e = (sym reads.says ∙ rw e, (rw e at reads.within, rw e at reads.few))

  pub part_stopped : {stop : Stop} → r ≡ Err stop → reading ≡ stopped stop
  unfolding meant
  part_stopped e = sym reads.says ∙ rw e
