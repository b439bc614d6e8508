-- Numbers that stand for terms make runs alike.
use Rattle.std.specs.Prelude.{Err}
use mathlib.Core.Path.{◌≡◌, ap}
use mathlib.Core.List.{List}
use Prim.Native.Nat.{ℕ}
use Rattle.refusal.specs.declared.Refusal.{Refusal}
use Rattle.terms.specs.Good.{checked}
use Rattle.journal.specs.Resuming.{Rooms, with_terms, resumed}
use Rattle.call_bytes.specs.code.Reading.{StandFor, same, both_refused}

-- Terms that are refused alike make runs alike.
refused_alike : (refusal : Refusal) (a b : List ℕ) → ((modes : ℕ) → checked modes a ≡ Err refusal) → ((modes : ℕ) → checked modes b ≡ Err refusal)
    → (rooms : Rooms) (modes : ℕ) (read : List ℕ) → resumed rooms modes 0 a read ≡ resumed rooms modes 0 b read
unfolding resumed with_terms
refused_alike refusal a b e f rooms modes read = rw (e modes, f modes)

pub resumed_same : (a b : List ℕ) → StandFor a b → (rooms : Rooms) (modes : ℕ) (read : List ℕ) → resumed rooms modes 0 a read ≡ resumed rooms modes 0 b read
resumed_same a b (same e) rooms modes read = ap (λ n. resumed rooms modes 0 n read) e
resumed_same a b (both_refused refusal e f) rooms modes read = refused_alike refusal a b e f rooms modes read
