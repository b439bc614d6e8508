-- 19, and 1 with a place, are matters of form alone: what a call says by them it says of its text.
use Rattle.std.specs.Prelude.{Err, Ok, Result}
use mathlib.Core.Path.{◌≡◌, refl}
use mathlib.Core.Bool.{Bool, true, false, cond, not}
use mathlib.Core.List.{List}
use Prim.Native.Nat.{ℕ, ◌*◌}
use native.Mathlib.Omega.{arith}
use lib.Dec.{eqb, ltb, leb}
use lib.ListN.{length}
use Rattle.lists.specs.Members.{every}
use Rattle.refusal.specs.declared.Refusal.{Refusal}
use Rattle.refusal.specs.declared.Refusal.TheVariants.{Room, Modes, TreeLength, ChildCode, NotOneTree, WrongPair, NewickForm, TooManyNodes}
use Rattle.terms.specs.Good.{modes_good}
use Rattle.tree.specs.OneTree.{one_tree}
use Rattle.tree.specs.Pairs.{pairs_right}
use Rattle.tree.specs.Check.{codes_good, tree_checked}
use Rattle.tree.specs.Laying.{modes_in}
use Rattle.newick.specs.Reading.{Reading, got, stuck, crowded, text_read}
use Rattle.newick.specs.Names.{in_range}
use Rattle.newick.specs.Calls.{table_in, taken_as, read_as, newick_read}
use Rattle.newick.specs.Stops.{FormRefused, CrowdRefused}
use Rattle.newick.proofs.TextStops.{text_stops, text_crowded}

-- The refusals of a tree, and 5.
data OfTree : Refusal → Type 0 where
  modes : OfTree Modes
  size : OfTree TreeLength
  code : (index : ℕ) → OfTree (ChildCode index)
  one : OfTree NotOneTree
  pair : (k : ℕ) → OfTree (WrongPair k)
  room : OfTree Room

-- None of them is of form.
never_form : {refusal : Refusal} → OfTree refusal → (place : ℕ) → (refusal ≡ NewickForm place → ⊥) × (refusal ≡ TooManyNodes place → ⊥)
never_form modes place = (λ e. let z : ◌≡◌ {A = ℕ} 0 1 = cc in omega arith, λ e. let z : ◌≡◌ {A = ℕ} 0 1 = cc in omega arith)
never_form size place = (λ e. let z : ◌≡◌ {A = ℕ} 0 1 = cc in omega arith, λ e. let z : ◌≡◌ {A = ℕ} 0 1 = cc in omega arith)
never_form (code index) place = (λ e. let z : ◌≡◌ {A = ℕ} 0 1 = cc in omega arith, λ e. let z : ◌≡◌ {A = ℕ} 0 1 = cc in omega arith)
never_form one place = (λ e. let z : ◌≡◌ {A = ℕ} 0 1 = cc in omega arith, λ e. let z : ◌≡◌ {A = ℕ} 0 1 = cc in omega arith)
never_form (pair k) place = (λ e. let z : ◌≡◌ {A = ℕ} 0 1 = cc in omega arith, λ e. let z : ◌≡◌ {A = ℕ} 0 1 = cc in omega arith)
never_form room place = (λ e. let z : ◌≡◌ {A = ℕ} 0 1 = cc in omega arith, λ e. let z : ◌≡◌ {A = ℕ} 0 1 = cc in omega arith)

module _ (refusal : Refusal) where
  check_told : (most modes : ℕ) (table : List ℕ) → tree_checked most modes table ≡ Err refusal → OfTree refusal
  unfolding tree_checked
  check_told most n table =
      go (modes_good most n) (eqb (length table) (3 * n)) (ltb (codes_good n table) (length table)) (one_tree n table)
      (ltb (pairs_right n table) n)
    where
      go : (m w c o p : Bool)
          → cond {A = Result (Unit {0}) Refusal} (not m) (Err Modes)
          (cond (not w) (Err TreeLength)
          (cond c (Err (ChildCode (codes_good n table)))
          (cond (not o) (Err NotOneTree) (cond p (Err (WrongPair (pairs_right n table))) (Ok tt)))))
          ≡ Err refusal
          → OfTree refusal
      go false w c o p e = let f : Modes ≡ refusal = cc in rw (← f) modes
      go true false c o p e = let f : TreeLength ≡ refusal = cc in rw (← f) size
      go true true true o p e = let f : ChildCode (codes_good n table) ≡ refusal = cc in rw (← f) (code (codes_good n table))
      go true true false false p e = let f : NotOneTree ≡ refusal = cc in rw (← f) one
      go true true false true true e = let f : WrongPair (pairs_right n table) ≡ refusal = cc in rw (← f) (pair (pairs_right n table))
      go true true false true false e = let z : ◌≡◌ {A = ℕ} 0 1 = cc in absurd (omega arith)

  taken_told : (checked : Result (Unit {0}) Refusal) (n space : ℕ) → (checked ≡ Err refusal → OfTree refusal) → taken_as checked n space ≡ Err refusal
      → OfTree refusal
  unfolding taken_as
  taken_told (Ok tt) n space told = go (leb (3 * n) space)
    where
      go : (b : Bool) → cond b (Ok n) (Err Room) ≡ Err refusal → OfTree refusal
      go true e = let z : ◌≡◌ {A = ℕ} 0 1 = cc in absurd (omega arith)
      go false e = let f : Room ≡ refusal = cc in rw (← f) room
  taken_told (Err given) n space told = λ e. told cc

  -- What was read to its end is refused by one of them.
  read_told : (most space name : ℕ) (rows : List ℕ) (at : ℕ) → read_as most (got name rows at) space ≡ Err refusal → OfTree refusal
  unfolding read_as
  read_told most space name rows at = go (every (in_range (modes_in rows)) rows)
    where
      go : (b : Bool)
          → cond b (taken_as (tree_checked most (modes_in rows) (table_in rows)) (modes_in rows) space) (Err NotOneTree) ≡ Err refusal
          → OfTree refusal
      go true e =
          taken_told (tree_checked most (modes_in rows) (table_in rows)) (modes_in rows) space (check_told most (modes_in rows) (table_in rows)) e
      go false e = let f : NotOneTree ≡ refusal = cc in rw (← f) one

pub form_refused : FormRefused
unfolding newick_read read_as
form_refused most text space place e = text_stops most text place (go (text_read most text) e)
  where
    go : (r : Reading) → read_as most r space ≡ Err (NewickForm place) → r ≡ stuck place
    go (got name rows at) f = absurd ((never_form (read_told (NewickForm place) most space name rows at f) place).0 refl)
    go (stuck other) f = cc
    go (crowded other) f = let z : ◌≡◌ {A = ℕ} 0 1 = cc in absurd (omega arith)

pub crowd_refused : CrowdRefused
unfolding newick_read read_as
crowd_refused most text space place e = text_crowded most text place (go (text_read most text) e)
  where
    go : (r : Reading) → read_as most r space ≡ Err (TooManyNodes place) → r ≡ crowded place
    go (got name rows at) f = absurd ((never_form (read_told (TooManyNodes place) most space name rows at f) place).1 refl)
    go (stuck other) f = let z : ◌≡◌ {A = ℕ} 0 1 = cc in absurd (omega arith)
    go (crowded other) f = cc
