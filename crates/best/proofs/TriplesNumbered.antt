-- The triples of the first `count` entities by number: the k-th in ascending order has its x, y and z as the digits of k.
use mathlib.Core.Path.{◌≡◌, refl, ap, ◌∙◌, sym, fun_ext}
use mathlib.Core.List.{List, ◌∷◌, map, flat_map}
use Prim.Native.Nat.{ℕ, zero, suc, ◌+◌, ◌*◌, ◌/◌, ◌%◌, ◌<◌, ◌≤◌}
use native.Mathlib.Nat.{suc-mul, zero-mul, mul_assoc, mul-add-div_right, mul-add-mod_self_right, div-eq_of_lt, mod-eq_of_lt, div-lt_iff_lt-mul}
use native.Mathlib.Omega.{arith}
use Rattle.lists.specs.Ranges.{listed}
use Rattle.lists.proofs.Listed.{listed_joined, map_listed}
use Rattle.entities.specs.declared.Triple.{Triple}
use Rattle.history.specs.History.{next_parent}
use Rattle.history.specs.computed.Pairs.{entities}
use Rattle.best.specs.Sequences.{triples}
use Rattle.best.specs.code.Numbered.{triple_at}

-- Two rules that agree on a range list the same.
listed_agree : {A : Type 0} (f g : ℕ → A) (from count : ℕ) → ((i : ℕ) → from ≤ i → i < from + count → f i ≡ g i) → listed f from count ≡ listed g from count
unfolding listed
listed_agree f g from zero same = refl
listed_agree f g from (suc count) same =
    rw (same from (omega arith) (omega arith), listed_agree f g (suc from) count (λ i low high. same i (omega arith) (omega arith)))

listed_shift : {A : Type 0} (f : ℕ → A) (place from count : ℕ) → listed (λ i. f (place + i)) from count ≡ listed f (place + from) count
unfolding listed
listed_shift f place from zero = refl
listed_shift f place from (suc count) =
    let e : place + suc from ≡ suc (place + from) = omega arith in
    ap (λ l. f (place + from) ∷ l) (listed_shift f place (suc from) count ∙ ap (λ n. listed f n count) e)

-- Parts of one size that follow one another.
listed_parts : {A : Type 0} (f : ℕ → A) (size from count : ℕ)
    → flat_map (λ a. listed (λ b. f (a * size + b)) 0 size) (listed (λ a. a) from count) ≡ listed f (from * size) (count * size)
unfolding listed flat_map
listed_parts f size from zero = rw (zero-mul size)
listed_parts f size from (suc count) =
    let first : listed (λ b. f (from * size + b)) 0 size ≡ listed f (from * size) size =
    listed_shift f (from * size) 0 size ∙ ap (λ n. listed f n size) (omega arith) in
    let next : suc from * size ≡ from * size + size = suc-mul from size in
    let all : suc count * size ≡ size + count * size = omega (arith, suc-mul count size) in
    rw (first, listed_parts f size (suc from) count, next, all) (sym (listed_joined f (from * size) size (count * size)))

module _ (count : ℕ) where
  abbrev numbers : List ℕ
  numbers = listed (λ entity. entity) 0 count

  abbrev pair_at : ℕ → ℕ → Triple
  pair_at x k = record { x = x; y = k / count; z = k % count }

  -- A number below a size is its own rest, and has nothing in front.
  same_digits : (x y z : ℕ) → z < count → ◌≡◌ {A = Triple} (record { x = x; y = y; z = z }) (pair_at x (y * count + z))
  same_digits x y z h =
      let front : (y * count + z) / count ≡ y = mul-add-div_right {m = count} (omega arith) y z ∙ omega (arith, div-eq_of_lt h) in
      let rest : (y * count + z) % count ≡ z = mul-add-mod_self_right y count z ∙ mod-eq_of_lt h in
      rw (front, rest)

  with_x : (x : ℕ) → flat_map (λ y. map (λ z. record { x = x; y = y; z = z }) numbers) numbers ≡ listed (pair_at x) 0 (count * count)
  with_x x =
      let inner : (y : ℕ) → map (λ z. record { x = x; y = y; z = z }) numbers ≡ listed (λ z. pair_at x (y * count + z)) 0 count =
      λ y.
      map_listed (λ z. record { x = x; y = y; z = z }) (λ z. z) 0 count
      ∙ listed_agree (λ z. record { x = x; y = y; z = z }) (λ z. pair_at x (y * count + z)) 0 count (λ z low high. same_digits x y z (omega arith)) in
      ap (λ part. flat_map part numbers) (fun_ext inner) ∙ listed_parts (pair_at x) count 0 count ∙ ap (λ n. listed (pair_at x) n (count * count)) (zero-mul count)

  three_digits : (x k : ℕ) → k < count * count → pair_at x k ≡ triple_at count (x * (count * count) + k)
  unfolding triple_at
  three_digits x k h =
      let some : 0 < count = positive count k h in
      let apart : x * (count * count) ≡ x * count * count = sym (mul_assoc x count count) in
      let below : k / count < count = (div-lt_iff_lt-mul {k = count} {x = k} {y = count} some).1 h in
      let front : (x * count * count + k) / count ≡ x * count + k / count = mul-add-div_right {m = count} some (x * count) k in
      let rest : (x * count * count + k) % count ≡ k % count = mul-add-mod_self_right (x * count) count k in
      let high : (x * count + k / count) / count ≡ x = mul-add-div_right {m = count} some x (k / count) ∙ omega (arith, div-eq_of_lt below) in
      let low : (x * count + k / count) % count ≡ k / count = mul-add-mod_self_right x count (k / count) ∙ mod-eq_of_lt below in
      rw (apart, front, rest, high, low)
    where
      positive : (n k : ℕ) → k < n * n → 0 < n
      positive zero k h = absurd (omega arith)
      positive (suc n) k h = omega arith

  all_triples : flat_map (λ x. flat_map (λ y. map (λ z. record { x = x; y = y; z = z }) numbers) numbers) numbers
      ≡ listed (triple_at count) 0 (count * (count * count))
  all_triples =
      let inner : (x : ℕ) → flat_map (λ y. map (λ z. record { x = x; y = y; z = z }) numbers) numbers
      ≡ listed (λ k. triple_at count (x * (count * count) + k)) 0 (count * count) =
      λ x.
      with_x x
      ∙ listed_agree (pair_at x) (λ k. triple_at count (x * (count * count) + k)) 0 (count * count) (λ k low high. three_digits x k (omega arith)) in
      ap (λ part. flat_map part numbers) (fun_ext inner)
      ∙ listed_parts (triple_at count) (count * count) 0 count
      ∙ ap (λ n. listed (triple_at count) n (count * (count * count))) (zero-mul (count * count))

pub triples_numbered : (modes : ℕ) (history : List Triple) (count : ℕ) → next_parent modes history ≡ count
    → triples modes history ≡ listed (triple_at count) 0 (count * (count * count))
unfolding triples entities
triples_numbered modes history count e = rw e (all_triples count)
