-- The tree fits, or the table stays as it was.
use mathlib.Core.Path.{refl}
use Prim.Native.Nat.{◌*◌}
use native.Mathlib.Omega.{arith}
use borrow.Author.Tests.{le-leb, lt-leb}
use lib.ListN.{length}
use Rattle.newick.specs.Calls.{taken_as, table_after}
use Rattle.newick.proofs.reading.take_table.Goals as goal

pub returns-then-table-tree : goal.returns-then-table-tree
unfolding taken_as table_after
returns-then-table-tree c =
    record { value = rw (lt-leb (3 * c.args.modes) (length c.args.table.now) (omega (arith, c.requires))); table_after = refl }

pub returns : goal.returns
unfolding taken_as table_after
returns c =
    record {
      value = rw (le-leb (3 * c.args.modes) (length c.args.table.now) (omega (arith, c.requires)));
      table_after = c.put_front.ensures.to_after;
    }
