-- The lower of the two is the one that came before.
use Rattle.std.proofs.Common.{◌∙◌, sym}
use borrow.Author.Tests.{eqb-true}
use mathlib.Core.Logic.{⊎_elim}
use Rattle.choosing.proofs.CoupleAgain.{couple_again}
use Rattle.choosing.proofs.entity_tables.Tables.named_before.Goals as goal

pub returns-then-named-a-2 : goal.returns-then-named-a-2
returns-then-named-a-2 c modes history ends holders named so =
    let args = c.args in
    let holds = eqb-true _ _ (sym (c.holds_end.ensures modes history ends holders) ∙ so) in
    let again = couple_again modes history args.a args.named.x args.named.y named holds in
    ⊎_elim (λ low. (args.named.x, (low, again.0))) (λ low. (args.named.y, (low.1, again.1))) c.if-named-a-2.either
