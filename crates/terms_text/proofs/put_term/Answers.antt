-- The row read is written over its place.
use Prim.Native.Nat.{◌+◌, ◌-◌, ◌*◌}
use native.Mathlib.Omega.{arith}
use Rattle.terms_text.proofs.TermsAhead.{term_put}
use Rattle.terms_text.proofs.put_term.Goals as goal

pub returns : goal.returns
returns c =
    let count = c.args.count in
    term_put c.args.line.now (8 * count) (8 * count + 8 - 8 * count) c.args.numbers.now _ _ (omega arith) c.read_term.ensures
