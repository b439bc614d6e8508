-- The entities' tables: at the start, and after a merge.
use mathlib.Core.Path.{◌≡◌, refl, ◌∙◌, sym}
use mathlib.Core.Bool.{Bool, true, false, cond, not, ◌&&◌, ◌||◌, and-true, and-false}
use mathlib.Core.List.{List, [], ◌∷◌}
use Prim.Native.Nat.{ℕ, ◌+◌, ◌*◌, ◌<◌, ◌≤◌}
use native.Mathlib.Nat.{zero-add}
use native.Mathlib.Omega.{arith}
use lib.Dec.{eqb}
use lib.ListN.{length, get_or, set, length-set}
use Rattle.lists.specs.Ranges.{listed}
use Rattle.lists.proofs.Listed.{listed_at}
use Rattle.lists.proofs.Tests.{eqb_either}
use Rattle.lists.proofs.Writes.{after_write}
use Rattle.entities.specs.declared.Triple.{Triple}
use Rattle.history.specs.History.{next_parent, among, is_open, z_end}
use Rattle.history.specs.computed.Pairs.{holder}
use Rattle.choosing.specs.declared.entity_tables.Tables.{Tables}
use Rattle.choosing.specs.code.Couples.{OpensAre, EndsAre, HoldersAre, Tied}

-- At the start the leaves are open, and everything is its own z-end and its own holder.
pub tied_start : (room modes : ℕ) → 2 * modes + 1 ≤ room
    → Tied room modes []
    (record {
      opens = listed (is_open modes []) 0 room;
      ends = listed (λ entity. entity) 0 room;
      holders = listed (λ entity. entity) 0 room;
    })
unfolding next_parent is_open z_end holder
tied_start room modes h =
    record {
      within = omega arith;
      opens_are = λ entity inside. rw (listed_at (is_open modes []) 0 room entity false inside, zero-add entity);
      ends_are = λ entity inside. rw (listed_at (λ e. e) 0 room entity 0 inside, zero-add entity);
      holders_are = λ leaf inside. rw (listed_at (λ e. e) 0 room leaf 0 inside, zero-add leaf);
    }

-- Closed by any of three writes is closed.
none_of : (x y z b : Bool) → cond z false (cond y false (cond x false b)) ≡ (b && not (x || (y || z)))
none_of true true true b = sym (and-false b)
none_of true true false b = sym (and-false b)
none_of true false true b = sym (and-false b)
none_of true false false b = sym (and-false b)
none_of false true true b = sym (and-false b)
none_of false true false b = sym (and-false b)
none_of false false true b = sym (and-false b)
none_of false false false b = sym (and-true b)

module _ (room modes : ℕ) (history : List Triple) (tables : Tables) (triple : Triple) (tied : Tied room modes history tables)
    (all_opens : length tables.opens ≡ room) (all_ends : length tables.ends ≡ room) (all_holders : length tables.holders ≡ room)
    (x_in : triple.x < room) (y_in : triple.y < room) (z_in : triple.z < room) (end_in : get_or tables.ends triple.z 0 < room)
    (parent_in_lem : next_parent modes history < room) where
  closed : List Bool
  closed = set (set (set tables.opens triple.x false) triple.y false) triple.z false

  length_closed : length closed ≡ room
  unfolding closed
  length_closed = simp length-set all_opens

  closed_at : (entity : ℕ) → get_or closed entity false ≡ (get_or tables.opens entity false && not (among triple entity))
  unfolding closed among
  closed_at entity =
      after_write (set (set tables.opens triple.x false) triple.y false) triple.z false false (simp length-set (omega arith)) entity
      ∙ rw (
        after_write (set tables.opens triple.x false) triple.y false false (simp length-set (omega arith)) entity,
        after_write tables.opens triple.x false false (omega arith) entity,
      )
      (none_of (eqb entity triple.x) (eqb entity triple.y) (eqb entity triple.z) (get_or tables.opens entity false))

  opens_merged : OpensAre room modes (triple ∷ history) (set closed (next_parent modes history) true)
  unfolding is_open
  opens_merged entity inside =
      after_write closed (next_parent modes history) true false (rw length_closed parent_in_lem) entity
      ∙ rw (closed_at entity, tied.opens_are entity inside) (go (eqb entity (next_parent modes history)) _)
    where
      go : (p b : Bool) → cond p true b ≡ (p || b)
      go true b = refl
      go false b = refl

  end_is : get_or tables.ends triple.z 0 ≡ z_end modes history triple.z
  end_is = tied.ends_are triple.z z_in

  ends_merged : EndsAre room modes (triple ∷ history) (set tables.ends (next_parent modes history) (get_or tables.ends triple.z 0))
  unfolding z_end
  ends_merged entity inside =
      after_write tables.ends (next_parent modes history) (get_or tables.ends triple.z 0) 0 (rw all_ends parent_in_lem) entity
      ∙ rw (end_is, tied.ends_are entity inside) (go (eqb entity (next_parent modes history)))
    where
      go : (p : Bool) → cond p (z_end modes history triple.z) (z_end modes history entity) ≡ z_end modes history (cond p triple.z entity)
      go true = refl
      go false = refl

  holders_merged : HoldersAre room modes (triple ∷ history) (set tables.holders (get_or tables.ends triple.z 0) (next_parent modes history))
  unfolding holder
  holders_merged leaf inside =
      after_write tables.holders (get_or tables.ends triple.z 0) (next_parent modes history) 0 (rw all_holders end_in) leaf
      ∙ rw (end_is, tied.holders_are leaf inside, eqb_either leaf (z_end modes history triple.z))

  pub tied_merged : next_parent modes history + 1 ≤ room
      → Tied room modes (triple ∷ history)
      (record {
        opens = set (set (set (set tables.opens triple.x false) triple.y false) triple.z false) (next_parent modes history) true;
        ends = set tables.ends (next_parent modes history) (get_or tables.ends triple.z 0);
        holders = set tables.holders (get_or tables.ends triple.z 0) (next_parent modes history);
      })
  unfolding closed next_parent
  tied_merged h =
      record {
        within = omega arith;
        opens_are = opens_merged;
        ends_are = ends_merged;
        holders_are = holders_merged;
      }
