-- What reading came to rests on the bytes up to its place alone, and on how many nodes may stand only where one is too many.
use mathlib.Core.Path.{◌≡◌, refl, ◌∙◌}
use mathlib.Core.Bool.{Bool, true, false, cond}
use mathlib.Core.List.{List, [], ◌∷◌, ◌++◌}
use Prim.Native.Nat.{ℕ, zero, suc, ◌+◌, ◌*◌, ◌<◌, ◌≤◌}
use native.Mathlib.Omega.{arith}
use borrow.Author.Tests.{eqb-true, eqb-false, eq-eqb, ne_eqb, lt-ltb, ltb-true}
use lib.Dec.{eqb, ltb}
use lib.ListN.{length}
use Rattle.fields.specs.Decimal.{value}
use Rattle.newick.specs.Reading.{Reading, got, stuck, crowded, absent_name, leaf_name, follows, byte_at, expected, marked, number_digits, numbered, child_by, named, inside}
use Rattle.newick.specs.code.Within.{node_within, root_within}
use Rattle.newick.proofs.DigitsStand.{byte_stands, number_stands}
use Rattle.newick.proofs.DigitsTheSame.{Alike, alike_not, number_same}

-- How far reading looked for certain: a number that ends, and a byte that is not the expected one, say nothing of the byte there but that
-- it doesn't go on, which none does at the text's end; a `(` that is one too many was seen.
unfoldable pub reach : Reading → ℕ
reach (got name rows at) = at
reach (stuck place) = place
reach (crowded place) = suc place

-- Whether a node was one too many.
unfoldable pub crowds : Reading → Bool
crowds (got name rows at) = false
crowds (stuck place) = false
crowds (crowded place) = true

-- Reading a text from a place on goes onward and within it, and comes to the same again, where so many nodes more may stand, if it
-- reaches no further than this place and no node was one too many.
pub record Same (text : List ℕ) (place extra at : ℕ) (reading again : Reading) : Type 0 where
  pub onward : at ≤ reach reading
  pub within : at ≤ length text → reach reading ≤ length text
  pub same : reach reading ≤ place → (crowds reading ≡ true → extra ≡ 0) → again ≡ reading

module _ (text : List ℕ) (place extra : ℕ) where
  same_got : (name : ℕ) (rows : List ℕ) (end : ℕ) → Same text place extra end (got name rows end) (got name rows end)
  unfolding reach
  same_got name rows end = record { onward = omega arith; within = λ h. h; same = λ h few. refl }

  same_stuck : (at : ℕ) → Same text place extra at (stuck at) (stuck at)
  unfolding reach
  same_stuck at = record { onward = omega arith; within = λ h. h; same = λ h few. refl }

  same_crowded : (at : ℕ) (again : Reading) → (extra ≡ 0 → again ≡ crowded at) → Same text place extra (suc at) (crowded at) again
  unfolding reach crowds
  same_crowded at again e = record { onward = omega arith; within = λ h. h; same = λ h few. e (few refl) }

  same_follows : (at : ℕ) (reading again : Reading) (next other_next : ℕ → List ℕ → ℕ → Reading) → Same text place extra at reading again
      → ((name : ℕ) (rows : List ℕ) (end : ℕ) → Same text place extra end (next name rows end) (other_next name rows end))
      → Same text place extra at (follows reading next) (follows again other_next)
  unfolding follows reach crowds
  same_follows at (got name rows end) again next other_next s on =
      let t = on name rows end in
      record {
        onward = omega (arith, s.onward, t.onward);
        within = λ h. t.within (s.within h);
        same = λ h few. rw (s.same (omega (arith, t.onward)) (λ e. let z : ◌≡◌ {A = ℕ} 0 1 = cc in absurd (omega arith))) (t.same h few);
      }
  same_follows at (stuck p) again next other_next s on =
      record { onward = s.onward; within = s.within; same = λ h few. rw (s.same h few) }
  same_follows at (crowded p) again next other_next s on =
      record { onward = s.onward; within = s.within; same = λ h few. rw (s.same h few) }

module _ (text other : List ℕ) (place extra : ℕ) (alike : Alike text other place) where
  abbrev Again : ℕ → Reading → Reading → Type 0
  Again at reading again = Same text place extra at reading again

  -- One way where a byte stands, else another.
  same_choice : (byte at : ℕ) (one one_Again off off_again : Reading) → 0 < byte → Again (suc at) one one_Again → Again at off off_again
      → Again at (cond (eqb (byte_at text at) byte) one off) (cond (eqb (byte_at other at) byte) one_Again off_again)
  same_choice byte at one one_Again off off_again some s t = go (eqb (byte_at text at) byte) refl
    where
      go : (b : Bool) → eqb (byte_at text at) byte ≡ b
          → Again at (cond b one off) (cond (eqb (byte_at other at) byte) one_Again off_again)
      go true q =
          let e = eqb-true (byte_at text at) byte q in
          record {
            onward = omega (arith, s.onward);
            within = λ h. s.within (byte_stands text at byte e some).0;
            same = λ h few. rw (eq-eqb (byte_at other at) byte (alike.before at (omega (arith, s.onward)) ∙ e)) (s.same h few);
          }
      go false q =
          record {
            onward = t.onward;
            within = t.within;
            same =
                λ h few.
                rw (ne_eqb (byte_at other at) byte
                (alike_not text other place alike at byte (omega (arith, t.onward)) some (eqb-false (byte_at text at) byte q)))
                (t.same h few);
          }

  same_expected : (byte at : ℕ) (next again : Reading) → 0 < byte → Again (suc at) next again
      → Again at (expected byte text at next) (expected byte other at again)
  unfolding expected
  same_expected byte at next again some s = same_choice byte at next again _ _ some s (same_stuck text place extra at)

  same_marked : (byte at : ℕ) (child again : Reading) → 0 < byte → Again at child again → Again at (marked byte text child) (marked byte other again)
  unfolding marked
  same_marked byte at child again some s =
      same_follows text place extra at child again _ _ s
      (λ name rows end. same_expected byte end _ _ some (same_got text place extra name rows (suc end)))

  same_numbered : (at : ℕ) (next : ℕ → ℕ → Reading) → ((number end : ℕ) → Again end (next number end) (next number end))
      → Again at (numbered text at next) (numbered other at next)
  unfolding numbered reach
  same_numbered at next on = go (eqb (length (number_digits text at)) 0) refl
    where
      go : (b : Bool) → eqb (length (number_digits text at)) 0 ≡ b
          → Again at (cond b (stuck at) (next (value (number_digits text at)) (at + length (number_digits text at)))) (numbered other at next)
      go true q =
          record {
            onward = omega arith;
            within = λ h. h;
            same = λ h few. rw (number_same text other place alike at (omega (arith, eqb-true (length (number_digits text at)) 0 q))) (rw q refl);
          }
      go false q =
          let n = number_stands text at (eqb-false (length (number_digits text at)) 0 q) in
          let s = on (value (number_digits text at)) (at + length (number_digits text at)) in
          record {
            onward = omega (arith, s.onward);
            within = λ h. s.within (n.within h);
            same = λ h few. rw (number_same text other place alike at (omega (arith, s.onward))) (rw q (s.same h few));
          }

  same_named : (rows : List ℕ) (at x y z : ℕ) → Again at (named text rows at x y z) (named other rows at x y z)
  unfolding named
  same_named rows at x y z =
      same_expected 110 at _ _ (omega arith)
      (same_numbered (suc at) _ (λ label end. same_got text place extra label (rows ++ (label ∷ (x ∷ (y ∷ (z ∷ []))))) end))

  module _ (child again : List ℕ → ℕ → Reading) (each : (rows : List ℕ) (at : ℕ) → Again at (child rows at) (again rows at)) where
    same_child : (rows : List ℕ) (at : ℕ) → Again at (child_by child text rows at) (child_by again other rows at)
    unfolding child_by
    same_child rows at =
        same_choice 101 at _ _ _ _ (omega arith) (same_got text place extra absent_name rows (suc at))
        (same_choice 109 at _ _ _ _ (omega arith)
        (same_numbered (suc at) _ (λ number end. same_got text place extra (leaf_name number) rows end)) (each rows at))

    behind : (byte : ℕ) (next other_next : ℕ → List ℕ → ℕ → Reading) → 0 < byte
        → ((name : ℕ) (rows : List ℕ) (at : ℕ) → Again at (next name rows at) (other_next name rows at)) → (rows : List ℕ) (at : ℕ)
        → Again at (follows (marked byte text (child rows at)) next) (follows (marked byte other (again rows at)) other_next)
    behind byte next other_next some on rows at =
        same_follows text place extra at _ _ _ _ (same_marked byte at (child rows at) (again rows at) some (each rows at)) on

    same_inside : (rows : List ℕ) (at : ℕ) → Again at (inside child text rows at) (inside again other rows at)
    unfolding inside
    same_inside =
        behind 44 _ _ (omega arith)
        (λ x. behind 44 _ _ (omega arith) (λ y. behind 41 _ _ (omega arith) (λ z rows at. same_named rows at x y z)))

  same_node : (height higher : ℕ) → higher ≡ height + extra → (rows : List ℕ) (at : ℕ)
      → Again at (node_within height text rows at) (node_within higher other rows at)
  unfolding node_within
  same_node zero zero e rows at = same_expected 40 at _ _ (omega arith) (same_crowded text place extra at (crowded at) (λ none. refl))
  same_node zero (suc higher) e rows at = same_expected 40 at _ _ (omega arith) (same_crowded text place extra at _ (λ none. absurd (omega arith)))
  same_node (suc height) zero e rows at = absurd (omega arith)
  same_node (suc height) (suc higher) e rows at =
      same_expected 40 at _ _ (omega arith)
      (go _ _ (ltb (length rows) (4 * suc height)) refl
      (same_inside (child_by (node_within height text) text) (child_by (node_within higher other) other)
      (same_child (node_within height text) (node_within higher other) (same_node height higher (omega arith))) rows (suc at)))
    where
      go : (first second : Reading) (b : Bool) → ltb (length rows) (4 * suc height) ≡ b → Again (suc at) first second
          → Again (suc at) (cond b first (crowded at)) (cond (ltb (length rows) (4 * suc higher)) second (crowded at))
      go first second true q on = rw (lt-ltb (length rows) (4 * suc higher) (omega (arith, ltb-true (length rows) (4 * suc height) q))) on
      go first second false q on =
          same_crowded text place extra at _
          (λ none.
          let level : higher ≡ height = omega arith in
          rw (level, q))

  pub root_same : (most : ℕ) → Again 0 (root_within most text) (root_within (most + extra) other)
  root_same most = same_marked 59 0 _ _ (omega arith) (same_node most (most + extra) refl [] 0)
