-- The choices of the modes still to come give the answer.
use Rattle.std.proofs.Common.{◌≡◌, [], ◌∷◌, drop}
use mathlib.Core.List.{flat_map}
use Rattle.choice.specs.code.Seeking.{sought_at, leaves_of}
use Rattle.choice.proofs.seeking.Pair.best_of_couples.Given as goal

abbrev pub invariant-loop-mode : goal.invariant-loop-mode
invariant-loop-mode l =
    sought_at l.self.node l.initial.best (flat_map (λ mode. leaves_of l.self.node mode ∷ []) l.self.node.among.now.free.now)
    ≡ sought_at l.self.node l.best (flat_map (λ mode. leaves_of l.self.node mode ∷ []) (drop l.mode-index l.self.node.among.now.free.now))
