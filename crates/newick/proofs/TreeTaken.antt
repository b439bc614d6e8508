-- What reading comes to once the nodes are read: their numbers are out of range, or the table that they make is checked.
use Rattle.std.specs.Prelude.{Err}
use mathlib.Core.Path.{◌≡◌}
use mathlib.Core.Bool.{true, false}
use mathlib.Core.List.{List, ◌++◌, map}
use Prim.Native.Nat.{ℕ, ◌*◌, ◌/◌, ◌≤◌}
use native.Mathlib.Omega.{arith}
use lib.ListN.{length, replicate, length-append}
use Rattle.lists.specs.Members.{every}
use Rattle.refusal.specs.declared.Refusal.TheVariants.{NotOneTree}
use Rattle.entities.specs.Codes.{absent}
use Rattle.tree.specs.Check.{tree_checked}
use Rattle.tree.specs.Laying.{laid_over, laid, modes_in}
use Rattle.newick.specs.declared.reading.Stop.{Stop}
use Rattle.newick.specs.declared.reading.Stop.TheVariants.{Stuck, Crowded}
use Rattle.newick.specs.Reading.{got, text_read}
use Rattle.newick.specs.code.Promises.{stopped, refused_at}
use Rattle.newick.specs.Names.{in_range, code_of}
use Rattle.newick.specs.Calls.{table_in, taken_as, read_as, table_read, newick_read, newick_table}

module _ (modes : ℕ) (rows : List ℕ) (size : length rows ≡ 4 * modes) where
  modes_are : modes_in rows ≡ modes
  unfolding modes_in
  modes_are = let e : length rows / 4 ≡ modes = omega arith in e

  -- Their codes laid out are the table.
  pub table_is : (codes : List ℕ) → codes ≡ map (code_of modes) rows → laid_over (replicate (3 * modes) absent) codes ≡ table_in rows
  unfolding table_in laid
  table_is codes e = rw (e, modes_are)

  module _ (most name at room : ℕ) where
    pub out_of_range : every (in_range modes) rows ≡ false → read_as most (got name rows at) room ≡ Err NotOneTree
    unfolding read_as
    out_of_range e = rw modes_are (rw e)

    pub all_in_range : every (in_range modes) rows ≡ true
        → read_as most (got name rows at) room ≡ taken_as (tree_checked most modes (table_in rows)) modes room
    unfolding read_as
    all_in_range e = rw modes_are (rw e)

pub laid_alike : {m n : ℕ} {s t : List ℕ} → m ≡ n → s ≡ t → laid_over (replicate m absent) s ≡ laid_over (replicate n absent) t
laid_alike e f = rw (e, f)

-- A front of so many numbers has them, whatever stands behind it.
module _ (front behind : List ℕ) (count : ℕ) (e : length front ≡ count) where
  pub front_fits : count ≤ length (front ++ behind)
  front_fits = omega (arith, length-append front behind)

-- What the call says of each answer of the text.
module _ (most : ℕ) (text : List ℕ) where
  pub says_stopped : (room : ℕ) (stop : Stop) → text_read most text ≡ stopped stop → Err (refused_at stop) ≡ newick_read most text room
  unfolding newick_read read_as stopped
  says_stopped room (Stuck place) e = rw e
  says_stopped room (Crowded place) e = rw e

  module _ (name : ℕ) (rows : List ℕ) (at : ℕ) (e : text_read most text ≡ got name rows at) where
    pub says_read : (room : ℕ) → read_as most (got name rows at) room ≡ newick_read most text room
    unfolding newick_read
    says_read room = rw e

    pub table_said : table_in rows ≡ newick_table most text
    unfolding newick_table table_read
    table_said = rw e
