-- The table that was counted is the one that the search asks for.
use mathlib.Core.Path.{◌≡◌}
use native.Mathlib.Omega.{arith}
use lib.ListN.{length}
use Rattle.choosing.proofs.choice.choose.Goals as goal

pub invariant_of-seeking : goal.invariant_of-seeking
invariant_of-seeking c =
    let counted = c.count_odds in
    let whole : length counted.new.table ≡ 769 = counted.auto.table in
    record { limits = c.requires.limits; ends = c.requires.by_index; odds_are = λ n h. counted.ensures n (omega arith) }
