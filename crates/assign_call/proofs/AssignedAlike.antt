-- Numbers that stand for terms make assignments alike.
use Rattle.std.specs.Prelude.{Err, Ok, Result}
use mathlib.Core.Path.{◌≡◌, refl, ap}
use mathlib.Core.Bool.{Bool, true, false, cond, not}
use mathlib.Core.List.{List}
use Prim.Native.Nat.{ℕ}
use Rattle.refusal.specs.declared.Refusal.{Refusal}
use Rattle.refusal.specs.declared.Refusal.TheVariants.{Modes, Rule as NoRule}
use Rattle.terms.specs.Rules.{rule_good}
use Rattle.terms.specs.Good.{modes_good, checked}
use Rattle.tree.specs.Check.{tree_checked}
use Rattle.topphatt.specs.Answer.{refused, asked, Rooms, with_tree, with_terms, outcome}
use Rattle.call_bytes.specs.code.Reading.{StandFor, same, both_refused}

-- Terms that are refused alike make assignments alike.
assigned_alike : (refusal : Refusal) (a b : List ℕ) → ((modes : ℕ) → checked modes a ≡ Err refusal) → ((modes : ℕ) → checked modes b ≡ Err refusal)
    → (rooms : Rooms) (modes : ℕ) (tree : List ℕ) (heuristic : ℕ) → outcome rooms (asked modes 0 tree heuristic a) ≡ outcome rooms (asked modes 0 tree heuristic b)
unfolding outcome with_tree with_terms
assigned_alike refusal a b e f rooms modes tree heuristic = tests (modes_good rooms.modes modes) (rule_good 0)
  where
    go : (t : Result (Unit {0}) Refusal) → with_tree rooms (asked modes 0 tree heuristic a) t ≡ with_tree rooms (asked modes 0 tree heuristic b) t
    go (Ok tt) = rw (e modes, f modes)
    go (Err other) = refl

    tests : (m r : Bool)
        → cond (not m) (refused Modes) (cond (not r) (refused NoRule) (with_tree rooms (asked modes 0 tree heuristic a) (tree_checked rooms.modes modes tree)))
        ≡ cond (not m) (refused Modes) (cond (not r) (refused NoRule) (with_tree rooms (asked modes 0 tree heuristic b) (tree_checked rooms.modes modes tree)))
    tests false r = refl
    tests true false = refl
    tests true true = go (tree_checked rooms.modes modes tree)

pub assigned_same : (a b : List ℕ) → StandFor a b → (rooms : Rooms) (modes : ℕ) (tree : List ℕ) (heuristic : ℕ)
    → outcome rooms (asked modes 0 tree heuristic a) ≡ outcome rooms (asked modes 0 tree heuristic b)
assigned_same a b (same e) rooms modes tree heuristic = ap (λ n. outcome rooms (asked modes 0 tree heuristic n)) e
assigned_same a b (both_refused refusal e f) rooms modes tree heuristic = assigned_alike refusal a b e f rooms modes tree heuristic
