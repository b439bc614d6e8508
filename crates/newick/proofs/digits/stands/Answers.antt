-- Beyond its end a text has 0, which no byte asked for is.
use Rattle.std.proofs.Common.{◌≤◌, length, refl, sym, ne_eqb, le-ltb, arith}
use lib.ListN.{get_or-eq_default}
use Rattle.newick.specs.Reading.{byte_at}
use Rattle.newick.proofs.digits.stands.Goals as goal

pub returns-then-at-text-clause-value : goal.returns-then-at-text-clause-value
unfolding byte_at
returns-then-at-text-clause-value c = refl

pub returns-else-at-text-clause-value : goal.returns-else-at-text-clause-value
unfolding byte_at
returns-else-at-text-clause-value c =
    let beyond : length c.args.text.now ≤ c.args.at = omega arith in
    rw (le-ltb _ _ beyond, get_or-eq_default c.args.text.now 0 beyond) (sym (ne_eqb 0 c.args.byte (λ e. omega (arith, c.requires))))
