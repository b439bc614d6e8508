-- Nodes closed and nodes around, which the code counts, are together the `(` before a place: so the code reads a text as the definition
-- says, and where reading stops no more `(` stand before it than a text may have nodes.
use mathlib.Core.Path.{◌≡◌, refl}
use mathlib.Core.Bool.{Bool, true, false, cond}
use mathlib.Core.List.{List, [], ◌∷◌}
use Prim.Native.Nat.{ℕ, zero, suc, ◌+◌, ◌*◌, ◌<◌, ◌≤◌}
use native.Mathlib.Omega.{arith}
use borrow.Author.Tests.{eqb-true, lt-ltb, le-ltb, ltb-true, ltb-false}
use lib.Dec.{eqb, ltb}
use lib.ListN.{length, length-append}
use Rattle.lists.specs.Counting.{same, occurrences}
use Rattle.newick.specs.Reading.{Reading, got, stuck, crowded, absent_name, leaf_name, follows, byte_at, expected, marked, numbered, child_by, named, inside, opened, node_read}
use Rattle.newick.specs.code.Within.{node_within, root_within}
use Rattle.newick.proofs.DigitsStand.{byte_stands}
use Rattle.newick.proofs.ReadingParts.{NumberWay, number_read, number_lacks, number_way, NameWay, name_read, name_lacks, letter_lacks, name_way}
use Rattle.newick.proofs.Opened.{opened_byte, opened_number}

module _ (most : ℕ) (text : List ℕ) where
  -- A place around which stand as many nodes as a text may have, less `depth`: with those closed they are the `(` before it.
  pub record Tallied (depth : ℕ) (rows : List ℕ) (at : ℕ) : Type 0 where
    pub closed : ℕ
    pub size : length rows ≡ 4 * closed
    pub few : closed ≤ depth
    pub all : opened text at + depth ≡ most + closed
    pub within : at ≤ length text

  -- What reading came to, counted.
  unfoldable pub Counted : ℕ → Reading → Type 0
  Counted depth (got name rows at) = Tallied depth rows at
  Counted depth (stuck place) = opened text place ≤ most
  Counted depth (crowded place) = (byte_at text place ≡ 40) × (opened text place ≡ most)

  -- What the code reads is what the definition says, and is counted so.
  pub record Agrees (depth : ℕ) (reading again : Reading) : Type 0 where
    pub alike : again ≡ reading
    pub counted : Counted depth reading

  tallied_on : {depth at : ℕ} {rows : List ℕ} (end : ℕ) → Tallied depth rows at → opened text end ≡ opened text at → end ≤ length text
      → Tallied depth rows end
  tallied_on end t e h =
      record { closed = t.closed; size = t.size; few = t.few; all = omega (arith, t.all); within = h }

  tallied_byte : {depth at : ℕ} {rows : List ℕ} (byte : ℕ) → Tallied depth rows at → byte_at text at ≡ byte → 0 < byte → same byte 40 ≡ 0
      → Tallied depth rows (suc at)
  tallied_byte {at = at} byte t e some other =
      tallied_on (suc at) t (omega (arith, opened_byte text at byte e some)) (byte_stands text at byte e some).0

  tallied_few : {depth at : ℕ} {rows : List ℕ} → Tallied depth rows at → opened text at ≤ most
  tallied_few t = omega (arith, t.all, t.few)

  agrees_got : {depth at : ℕ} {rows : List ℕ} (name : ℕ) → Tallied depth rows at → Agrees depth (got name rows at) (got name rows at)
  unfolding Counted
  agrees_got name t = record { alike = refl; counted = t }

  agrees_stuck : {depth at : ℕ} {rows : List ℕ} (high : ℕ) → Tallied depth rows at → Agrees high (stuck at) (stuck at)
  unfolding Counted
  agrees_stuck high t = record { alike = refl; counted = tallied_few t }

  agrees_follows : (depth high : ℕ) (reading again : Reading) (next other : ℕ → List ℕ → ℕ → Reading) → Agrees depth reading again
      → ((name : ℕ) (rows : List ℕ) (at : ℕ) → Tallied depth rows at → Agrees high (next name rows at) (other name rows at))
      → Agrees high (follows reading next) (follows again other)
  unfolding follows Counted
  agrees_follows depth high (got name rows at) again next other a on =
      let b = on name rows at a.counted in
      record { alike = rw a.alike b.alike; counted = b.counted }
  agrees_follows depth high (stuck place) again next other a on = record { alike = rw a.alike; counted = a.counted }
  agrees_follows depth high (crowded place) again next other a on = record { alike = rw a.alike; counted = a.counted }

  -- One way where a byte other than `(` stands, else another.
  module _ {depth at : ℕ} {rows : List ℕ} (high : ℕ) (t : Tallied depth rows at) where
    agrees_choice : (byte : ℕ) (one one_Again other other_again : Reading) → 0 < byte → same byte 40 ≡ 0
        → (Tallied depth rows (suc at) → Agrees high one one_Again) → Agrees high other other_again
        → Agrees high (cond (eqb (byte_at text at) byte) one other) (cond (eqb (byte_at text at) byte) one_Again other_again)
    agrees_choice byte one one_Again other other_again some apart on off = go (eqb (byte_at text at) byte) refl
      where
        go : (b : Bool) → eqb (byte_at text at) byte ≡ b → Agrees high (cond b one other) (cond b one_Again other_again)
        go true q = on (tallied_byte byte t (eqb-true (byte_at text at) byte q) some apart)
        go false q = off

  agrees_marked : (depth byte : ℕ) (reading again : Reading) → 0 < byte → same byte 40 ≡ 0 → Agrees depth reading again
      → Agrees depth (marked byte text reading) (marked byte text again)
  unfolding marked expected
  agrees_marked depth byte reading again some other a =
      agrees_follows depth depth reading again _ _ a
      (λ name rows at t. agrees_choice depth t byte _ _ _ _ some other (agrees_got name) (agrees_stuck depth t))

  leaf_counted : (depth : ℕ) (rows : List ℕ) (at : ℕ) → Tallied depth rows at
      → Counted depth (numbered text at (λ number end. got (leaf_name number) rows end))
  unfolding Counted
  leaf_counted depth rows at t = go (number_way text at (λ number end. got (leaf_name number) rows end))
    where
      go : NumberWay text at (λ number end. got (leaf_name number) rows end)
          → Counted depth (numbered text at (λ number end. got (leaf_name number) rows end))
      go (number_read number end n e) = rw e (tallied_on end t (opened_number text at number end n t.within) (n.within t.within))
      go (number_lacks e) = rw e (tallied_few t)

  -- A node's name closes it: one node more is closed, and one less stands around.
  name_counted : (depth : ℕ) (rows : List ℕ) (at x y z : ℕ) → Tallied depth rows at → Counted (suc depth) (named text rows at x y z)
  unfolding Counted same
  name_counted depth rows at x y z t = go (name_way text rows at x y z)
    where
      go : NameWay text rows at x y z → Counted (suc depth) (named text rows at x y z)
      go (name_read label end letter n e) =
          let s = tallied_byte 110 t letter (omega arith) refl in
          rw e
          (record {
            closed = suc s.closed;
            size = omega (arith, s.size, length-append rows (label ∷ (x ∷ (y ∷ (z ∷ [])))));
            few = omega (arith, s.few);
            all = omega (arith, s.all, opened_number text (suc at) label end n s.within);
            within = n.within s.within;
          })
      go (name_lacks letter e) = rw e (tallied_few (tallied_byte 110 t letter (omega arith) refl))
      go (letter_lacks e) = rw e (tallied_few t)

  -- Readers of children agree.
  abbrev Children : ℕ → (List ℕ → ℕ → Reading) → (List ℕ → ℕ → Reading) → Type 0
  Children depth child again = (rows : List ℕ) (at : ℕ) → Tallied depth rows at → Agrees depth (child rows at) (again rows at)

  module _ (depth : ℕ) (child again : List ℕ → ℕ → Reading) (each : Children depth child again) where
    agrees_child : Children depth (child_by child text) (child_by again text)
    unfolding child_by same
    agrees_child rows at t =
        agrees_choice depth t 101 _ _ _ _ (omega arith) refl (agrees_got absent_name)
        (agrees_choice depth t 109 _ _ _ _ (omega arith) refl (λ s. record { alike = refl; counted = leaf_counted depth rows (suc at) s })
        (each rows at t))

    behind : (high byte : ℕ) (next other : ℕ → List ℕ → ℕ → Reading) → 0 < byte → same byte 40 ≡ 0
        → ((name : ℕ) (rows : List ℕ) (at : ℕ) → Tallied depth rows at → Agrees high (next name rows at) (other name rows at))
        → (rows : List ℕ) (at : ℕ) → Tallied depth rows at
        → Agrees high (follows (marked byte text (child rows at)) next) (follows (marked byte text (again rows at)) other)
    behind high byte next other some apart on rows at t =
        agrees_follows depth high _ _ _ _ (agrees_marked depth byte (child rows at) (again rows at) some apart (each rows at t)) on

    agrees_inside : (rows : List ℕ) (at : ℕ) → Tallied depth rows at → Agrees (suc depth) (inside child text rows at) (inside again text rows at)
    unfolding inside same
    agrees_inside =
        behind (suc depth) 44 _ _ (omega arith) refl
        (λ x. behind (suc depth) 44 _ _ (omega arith) refl
        (λ y. behind (suc depth) 41 _ _ (omega arith) refl
        (λ z rows at t. record { alike = refl; counted = name_counted depth rows at x y z t })))

  agrees_node : (depth : ℕ) → Children depth (node_within depth text) (node_read most depth text)
  unfolding node_within node_read expected Counted same
  agrees_node zero rows at t = go (eqb (byte_at text at) 40) refl
    where
      go : (b : Bool) → eqb (byte_at text at) 40 ≡ b → Agrees zero (cond b (crowded at) (stuck at)) (cond b (crowded at) (stuck at))
      go true q =
          record { alike = refl; counted = (eqb-true (byte_at text at) 40 q, omega (arith, t.all, t.few)) }
      go false q = agrees_stuck zero t
  agrees_node (suc depth) rows at t =
      go _ _ (eqb (byte_at text at) 40) refl (ltb (length rows) (4 * suc depth)) refl
      (agrees_inside depth (child_by (node_within depth text) text) (child_by (node_read most depth text) text)
      (agrees_child depth (node_within depth text) (node_read most depth text) (agrees_node depth)) rows (suc at))
    where
      go : (in_code as_defined : Reading) (b : Bool) → eqb (byte_at text at) 40 ≡ b → (c : Bool) → ltb (length rows) (4 * suc depth) ≡ c
          → (Tallied depth rows (suc at) → Agrees (suc depth) in_code as_defined)
          → Agrees (suc depth) (cond b (cond c in_code (crowded at)) (stuck at))
          (cond b (cond (ltb (opened text at) most) as_defined (crowded at)) (stuck at))
      go in_code as_defined true q true r on =
          let opens = eqb-true (byte_at text at) 40 q in
          let low = ltb-true (length rows) (4 * suc depth) r in
          rw (lt-ltb (opened text at) most (omega (arith, t.all, t.size)))
          (on
          (record {
            closed = t.closed;
            size = t.size;
            few = omega (arith, t.size);
            all = omega (arith, t.all, opened_byte text at 40 opens (omega arith));
            within = (byte_stands text at 40 opens (omega arith)).0;
          }))
      go in_code as_defined true q false r on =
          let high = ltb-false (length rows) (4 * suc depth) r in
          let full : opened text at ≡ most = omega (arith, t.all, t.size, t.few) in
          rw (le-ltb (opened text at) most (omega arith)) (record { alike = refl; counted = (eqb-true (byte_at text at) 40 q, full) })
      go in_code as_defined false q c r on = agrees_stuck (suc depth) t

  -- From the start of a text.
  pub root_agrees : Agrees most (root_within most text) (marked 59 text (node_read most most text [] 0))
  unfolding opened occurrences same
  root_agrees =
      agrees_marked most 59 (node_within most text [] 0) (node_read most most text [] 0) (omega arith) refl
      (agrees_node most [] 0 (record { closed = 0; size = refl; few = omega arith; all = omega arith; within = omega arith }))
