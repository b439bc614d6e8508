-- A text is accepted exactly where it is the writing of an accepted tree.
use mathlib.Core.Path.{◌∙◌}
use Prim.Native.Nat.{◌*◌}
use borrow.Author.Tests.{le-leb}
use Rattle.newick.specs.Calls.{taken_as, newick_table}
use Rattle.newick.specs.RoundTrip.{ReadsJustWritten}
use Rattle.newick.proofs.ReadWritten.{read_written}
use Rattle.newick.proofs.WrittenRead.{written_read}

pub reads_just_written : ReadsJustWritten
unfolding taken_as
reads_just_written most text room modes small roomy = (
  λ e.
      let read = written_read most text room modes small e in
      record { table = newick_table most text; accepted = read.accepted; text_is = read.text_is },
  λ writes.
      rw (← writes.text_is) ((read_written most modes writes.table small writes.accepted).answer room ∙ rw (le-leb (3 * modes) room roomy)),
)
