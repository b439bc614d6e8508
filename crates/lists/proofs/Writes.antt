-- One write: of a loop that writes a list from its front, and as any place sees it.
use mathlib.Core.Path.{◌≡◌, ap, ◌∙◌, sym}
use mathlib.Core.Bool.{cond}
use mathlib.Core.List.{List, [], ◌∷◌, ◌++◌, map, map-append}
use mathlib.Core.Logic.{⊎_elim}
use Prim.Native.Nat.{ℕ, ◌+◌, ◌<◌, ◌≤◌}
use native.Mathlib.Numerals.{add-one}
use native.Mathlib.Omega.{arith}
use borrow.Author.Count.{below_more}
use borrow.Author.Tests.{eq-eqb, ne_eqb}
use lib.Dec.{eqb}
use lib.ListN.{length, get_or, take, set}
use lib.Seq.{take-suc, take-suc-set, take_all, get_or-set_same, get_or-set_other}
use Rattle.lists.proofs.Tests.{same_or_not}

module _ {A : Type 0} where
  pub written_next : (s : List A) (i : ℕ) (v : A) → i < length s → take (i + 1) (set s i v) ≡ take i s ++ (v ∷ [])
  written_next s i v h = rw add-one (take-suc-set s i v h)

  -- A write at one place, seen from any other.
  pub after_write : (s : List A) (i : ℕ) (v d : A) → i < length s → (k : ℕ) → get_or (set s i v) k d ≡ cond (eqb k i) v (get_or s k d)
  after_write s i v d h k =
      ⊎_elim
      (λ e. rw (eq-eqb k i e) (ap (λ n. get_or (set s i v) n d) e ∙ get_or-set_same s i v d h))
      (λ e. rw (ne_eqb k i e) (get_or-set_other s i k v d e)) (same_or_not k i)

  -- A list that agrees with a rule at the places before one agrees at that one too once it is written.
  pub agrees_next : (rule : ℕ → A) (s : List A) (i : ℕ) (v d : A) → i < length s → v ≡ rule i → ((k : ℕ) → k < i → get_or s k d ≡ rule k)
      → (k : ℕ) → k < i + 1 → get_or (set s i v) k d ≡ rule k
  agrees_next rule s i v d h e before =
      below_more (λ k. get_or (set s i v) k d ≡ rule k) i
      (λ k l. get_or-set_other s i k v d (omega arith) ∙ before k l) (get_or-set_same s i v d h ∙ e)

  -- What is known of as many as there are is known of all.
  pub all_of : (s t : List A) (i : ℕ) → length s ≤ i → take i s ≡ t → s ≡ t
  all_of s t i h e = sym (take_all i s h) ∙ e

-- One more of a rule's values behind those before it.
pub mapped_so_far : {A B : Type 0} (rule : A → B) (s : List A) (t : List B) (i : ℕ) (d : A) → i < length s → i < length t
    → take i t ≡ map rule (take i s) → take (i + 1) (set t i (rule (get_or s i d))) ≡ map rule (take (i + 1) s)
mapped_so_far rule s t i d h k e =
    rw (written_next t i (rule (get_or s i d)) k, e, add-one i, take-suc s i d h) (sym (map-append rule (take i s) (get_or s i d ∷ [])))
