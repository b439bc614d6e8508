-- The lawful triples of a step, by the number of the triple.
use Rattle.std.proofs.Common.{◌≡◌, ◌∙◌, sym, List, map, ℕ, ◌+◌, ◌*◌, reverse, length}
use Rattle.std.specs.List.{filter, range_with_len}
use Rattle.lists.proofs.Standard.{keep_is}
use Rattle.entities.specs.declared.Triple.{Triple}
use Rattle.history.specs.computed.Pairs.{is_lawful}
use Rattle.tree.proofs.Chains.{listed_is}
use Rattle.best.specs.Sequences.{lawful_triples}
use Rattle.best.specs.code.Numbered.{triple_at}
use Rattle.best.proofs.MergesKept.{parent_after}
use Rattle.best.proofs.TriplesNumbered.{triples_numbered}

pub lawful_numbered : (modes count : ℕ) (merges : List Triple) → count ≡ 2 * modes + 1 + length merges
    → filter (is_lawful modes (reverse merges)) (map (triple_at count) (range_with_len 0 (count * (count * count)))) ≡ lawful_triples modes (reverse merges)
unfolding lawful_triples
lawful_numbered modes count merges e =
    rw (triples_numbered modes (reverse merges) count (parent_after modes merges ∙ sym e), keep_is, listed_is)
