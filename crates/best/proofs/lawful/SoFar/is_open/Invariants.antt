-- The merges from the newest back: the first that has the entity, as its parent or as one of its three, decides; a leaf that none has is open.
use Rattle.std.proofs.Common.{◌≡◌, reverse}
use Rattle.std.specs.Iterator.Adapters.{rev_source, enumerate_source, enumerate_count}
use Rattle.std.specs.Slice.Iter.{iter_rest}
use Rattle.history.specs.History.{is_open}
use Rattle.best.proofs.lawful.SoFar.is_open.Given as goal

abbrev pub invariant-loop-step : goal.invariant-loop-step
invariant-loop-step l =
    let older = rev_source l.step-iterator in
    (enumerate_count older ≡ 0)
    × (is_open l.self.modes (reverse (iter_rest (enumerate_source older))) l.entity ≡ is_open l.self.modes (reverse l.self.merges.now) l.entity)
