-- The merges from the newest back: where the entity is a merge's parent its z takes over.
use Rattle.std.proofs.Common.{◌≡◌, reverse}
use Rattle.std.specs.Iterator.Adapters.{rev_source, enumerate_source, enumerate_count}
use Rattle.std.specs.Slice.Iter.{iter_rest}
use Rattle.history.specs.History.{z_end}
use Rattle.best.proofs.lawful.SoFar.z_end.Given as goal

abbrev pub invariant-loop-step : goal.invariant-loop-step
invariant-loop-step l =
    let older = rev_source l.step-iterator in
    (enumerate_count older ≡ 0)
    × (z_end l.self.modes (reverse (iter_rest (enumerate_source older))) l.at ≡ z_end l.self.modes (reverse l.self.merges.now) l.entity)
