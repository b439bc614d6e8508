-- What makes bytes a number, part by part, and what their value becomes as digits are added behind them.
use mathlib.Core.Path.{◌≡◌, refl}
use mathlib.Core.Bool.{true, false, and-false}
use mathlib.Core.List.{List, [], ◌∷◌, ◌++◌}
use Prim.Native.Nat.{ℕ, ◌+◌, ◌-◌, ◌*◌, ◌<◌, ◌≤◌}
use native.Mathlib.Omega.{arith}
use borrow.Author.Tests.{le-leb, lt-leb, leb-true}
use lib.Dec.{leb}
use lib.ListN.{length}
use Rattle.lists.specs.Members.{every}
use Rattle.lists.proofs.Tests.{both}
use Rattle.fields.specs.Decimal.{is_digit, value_after, value, leads_well, is_number}

-- The sentence of 01 on numbers, its parts named.
pub record Numeral (bytes : List ℕ) : Type 0 where
  pub digits : every is_digit bytes ≡ true
  pub some : 1 ≤ length bytes
  pub short : length bytes ≤ 5
  pub leads : leads_well bytes ≡ true
  pub fits : value bytes ≤ 65535

pub numeral : (bytes : List ℕ) → is_number bytes ≡ true → Numeral bytes
unfolding is_number
numeral bytes e =
    let p = both _ _ e in
    let q = both (leb 1 (length bytes)) _ p.1 in
    let r = both (leb (length bytes) 5) _ q.1 in
    let s = both (leads_well bytes) _ r.1 in
    record {
      digits = p.0;
      some = leb-true 1 (length bytes) q.0;
      short = leb-true (length bytes) 5 r.0;
      leads = s.0;
      fits = leb-true (value bytes) 65535 s.1;
    }

pub is_numeral : (bytes : List ℕ) → Numeral bytes → is_number bytes ≡ true
unfolding is_number
is_numeral bytes n =
    rw (n.digits, le-leb 1 (length bytes) n.some, le-leb (length bytes) 5 n.short, n.leads, le-leb (value bytes) 65535 n.fits)

pub digit_bounds : (byte : ℕ) → is_digit byte ≡ true → (48 ≤ byte) × (byte ≤ 57)
unfolding is_digit
digit_bounds byte e =
    let p = both (leb 48 byte) (leb byte 57) e in
    (leb-true 48 byte p.0, leb-true byte 57 p.1)

pub digit_within : (byte : ℕ) → 48 ≤ byte → byte ≤ 57 → is_digit byte ≡ true
unfolding is_digit
digit_within byte h k = rw (le-leb 48 byte h, le-leb byte 57 k)

pub digit_below : (byte : ℕ) → byte < 48 → is_digit byte ≡ false
unfolding is_digit
digit_below byte h = rw (lt-leb 48 byte h)

pub digit_above : (byte : ℕ) → 57 < byte → is_digit byte ≡ false
unfolding is_digit
digit_above byte h = rw (lt-leb byte 57 h) (and-false (leb 48 byte))

pub value_joined : (so_far : ℕ) (l m : List ℕ) → value_after so_far (l ++ m) ≡ value_after (value_after so_far l) m
unfolding value_after
value_joined so_far [] m = refl
value_joined so_far (byte ∷ l) m = value_joined (10 * so_far + (byte - 48)) l m

pub value_least : (so_far : ℕ) (l : List ℕ) → so_far ≤ value_after so_far l
unfolding value_after
value_least so_far [] = omega arith
value_least so_far (byte ∷ l) = omega (arith, value_least (10 * so_far + (byte - 48)) l)

-- One digit more.
pub value_more : (l : List ℕ) (byte : ℕ) → value (l ++ (byte ∷ [])) ≡ 10 * value l + (byte - 48)
unfolding value value_after
value_more l byte = value_joined 0 l (byte ∷ [])

-- However many digits follow.
pub value_beyond : (l : List ℕ) (byte : ℕ) (m : List ℕ) → 10 * value l ≤ value (l ++ (byte ∷ m))
unfolding value value_after
value_beyond l byte m =
    rw (value_joined 0 l (byte ∷ m)) (omega (arith, value_least (10 * value_after 0 l + (byte - 48)) m))

-- More than one digit: the first is not 0.
pub leads_first : (a b : ℕ) (l : List ℕ) → leads_well (a ∷ (b ∷ l)) ≡ true → a ≡ 48 → ⊥
unfolding leads_well
leads_first a b l e f = let z : ◌≡◌ {A = ℕ} 0 1 = cc in omega arith
