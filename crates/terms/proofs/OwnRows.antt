-- Numbers that begin alike hold the same rows.
use mathlib.Core.Path.{◌≡◌, ap, ◌∙◌, sym}
use mathlib.Core.List.{List}
use Prim.Native.Nat.{ℕ, ◌+◌, ◌*◌, ◌<◌, ◌≤◌}
use native.Mathlib.Nat.{mul-suc, mul-le-mul_left}
use native.Mathlib.Omega.{arith}
use lib.ListN.{length, get_or, take}
use lib.Seq.{get_or-take}
use Rattle.terms.specs.code.Held.{Held}
use Rattle.terms.proofs.RowSteps.{row_front}

-- Numbers that begin alike hold the same rows.
pub front_held : (w count : ℕ) (numbers own : List ℕ) → take (w * count) own ≡ take (w * count) numbers → w * count ≤ length own
    → Held w count numbers → Held w count own
front_held w count numbers own front room held =
    let same : (place : ℕ) → place < count → get_or own (w * place) 0 ≡ get_or numbers (w * place) 0 =
    λ place h.
    let some = held.wide in
    let ahead : w * place + w ≤ w * count = rw (sym (mul-suc w place)) (mul-le-mul_left w h) in
    sym (get_or-take (w * count) own (w * place) 0 (omega arith))
    ∙ ap (λ l. get_or l (w * place) 0) front
    ∙ get_or-take (w * count) numbers (w * place) 0 (omega arith) in
    record {
      wide = held.wide;
      room = room;
      within = λ place h. rw (same place h) (held.within place h);
      zeros = λ place h none. row_front w count own numbers front place h ∙ held.zeros place h (sym (same place h) ∙ none);
    }
