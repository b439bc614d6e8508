-- The free modes are below the number of modes; and what is left of modes without one.
use Rattle.std.proofs.Common.{◌≡◌, refl, ap, sym, ◌∙◌, Bool, true, false, cond, not, ◌&&◌, List, [], ◌∷◌, ◌++◌, ℕ, ◌<◌, get_or, length, ltb, eqb, ltb-true, ne_eqb, arith}
use Rattle.std.specs.List.{list_all, list_any, range_with_len}
use Rattle.lists.specs.Members.{every, keep, some_of}
use Rattle.lists.specs.Ranges.{listed}
use Rattle.lists.proofs.Every.{every_kept, every_uncons, below_at}
use Rattle.lists.proofs.Standard.{every_is}
use Rattle.lists.proofs.Tests.{eqb_either}
use Rattle.tree.proofs.Chains.{counted_is}
use Rattle.slots.proofs.NodeBounds.{Below, listed_below}
use Rattle.choice.specs.Choices.{unassigned, without}

pub unassigned_below : (modes : ℕ) (assigned : List ℕ) → Below modes (unassigned modes assigned)
unfolding unassigned
unassigned_below modes assigned = every_kept (λ v. ltb v modes) _ (listed (λ v. v) 0 modes) (listed_below modes)

pub free_below : (modes : ℕ) (assigned free : List ℕ) (i : ℕ) → free ≡ unassigned modes assigned → i < length free → get_or free i 0 < modes
free_below modes assigned free i are h = below_at modes free i 0 h (rw are (unassigned_below modes assigned))

-- A mode that none of them is, left out.
without_high : (modes : ℕ) (free : List ℕ) → Below modes free → without modes free ≡ free
unfolding without keep
without_high modes [] e = refl
without_high modes (v ∷ free) e =
    let p = every_uncons (λ u. ltb u modes) v free e in
    let low = ltb-true v modes p.0 in
    rw (ne_eqb v modes (λ q. omega arith)) (ap (λ l. v ∷ l) (without_high modes free p.1))

pub without_none : (modes : ℕ) (assigned free : List ℕ) → free ≡ unassigned modes assigned → without modes free ≡ free
without_none modes assigned free are = without_high modes free (rw are (unassigned_below modes assigned))

-- Whether a mode is one of the pairs', as a slice's `contains` says it.
pub taken_is : (mode : ℕ) (assigned : List ℕ) → list_any (λ other. eqb other mode) assigned ≡ some_of (eqb mode) assigned
unfolding some_of
taken_is mode [] = refl
taken_is mode (other ∷ assigned) = rw (taken_is mode assigned, eqb_either other mode)

-- None of a list is kept where the opposite holds of all.
none_kept : (test : ℕ → Bool) (l : List ℕ) → eqb (length (keep (λ v. not (test v)) l)) 0 ≡ every test l
unfolding keep every
none_kept test [] = refl
none_kept test (v ∷ l) = go (test v) (none_kept test l)
  where
    go : (b : Bool) → eqb (length (keep (λ u. not (test u)) l)) 0 ≡ every test l
        → eqb (length (cond (not b) (v ∷ []) [] ++ keep (λ u. not (test u)) l)) 0 ≡ (b && every test l)
    go true rest = rest
    go false rest = ne_eqb _ 0 (λ e. omega arith)

pub all_taken : (modes : ℕ) (assigned : List ℕ)
    → list_all (λ mode. some_of (eqb mode) assigned) (range_with_len 0 modes) ≡ eqb (length (unassigned modes assigned)) 0
unfolding unassigned
all_taken modes assigned =
    let test : ℕ → Bool = λ mode. some_of (eqb mode) assigned in
    sym (none_kept test (listed (λ v. v) 0 modes) ∙ rw (every_is, counted_is))
