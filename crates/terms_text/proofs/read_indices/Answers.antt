-- The numbers read stand between their count and the zeros.
use Prim.Native.Nat.{◌+◌, ◌-◌}
use native.Mathlib.Omega.{arith}
use Rattle.terms_text.proofs.TermsAhead.{indices_read}
use Rattle.terms_text.proofs.read_indices.Goals as goal

pub returns : goal.returns
returns c =
    let count = c.args.count in
    indices_read _ count c.requires.0 _ _ (count + 1 - 1) _ c.begin_row.ensures (omega arith) c.read_line.ensures
