-- One step of reading numbers from bytes, and of writing them as bytes.
use mathlib.Core.Path.{◌≡◌, refl, ap, ◌∙◌, sym}
use mathlib.Core.List.{List, [], ◌∷◌, ◌++◌, flat_map, append_assoc}
use Prim.Native.Nat.{ℕ, zero, suc, ◌+◌, ◌*◌, ◌/◌, ◌%◌, ◌^◌, ◌<◌}
use native.Mathlib.Nat.{zero-add}
use native.Mathlib.Numerals.{add-one}
use native.Mathlib.Omega.{arith}
use lib.ListN.{length, get_or, take, set, length-append}
use lib.Seq.{take-suc, length-take-le}
use Rattle.std.specs.Int.{w64, to_le_bytes, bytes_low_first, byte_at}
use Rattle.lists.specs.Ranges.{listed}
use Rattle.lists.specs.Written.{written_at}
use Rattle.lists.proofs.Listed.{length_listed, listed_more}
use Rattle.lists.proofs.Writes.{written_next}
use Rattle.lists.proofs.Joined.{flatMap_joined}
use Rattle.lists.proofs.Behind.{front_behind}
use Rattle.call_bytes.specs.Bytes.{word_at, two_bytes, eight_bytes}

pub word_next : (bytes s : List ℕ) (i : ℕ) → i < length s → take i s ≡ listed (word_at bytes) 0 i
    → take (i + 1) (set s i (get_or bytes (2 * i) 0 + 256 * get_or bytes (2 * i + 1) 0)) ≡ listed (word_at bytes) 0 (i + 1)
unfolding word_at
word_next bytes s i h e = rw (written_next s i (get_or bytes (2 * i) 0 + 256 * get_or bytes (2 * i + 1) 0) h, e, listed_more (word_at bytes) 0 i, zero-add i)

pub length_two_bytes : (numbers : List ℕ) → length (two_bytes numbers) ≡ 2 * length numbers
unfolding two_bytes flat_map
length_two_bytes [] = refl
length_two_bytes (v ∷ l) = let e = length_two_bytes l in omega arith

pub two_next : (numbers s out : List ℕ) (i : ℕ) → i < length numbers → out ≡ written_at 0 (two_bytes (take i numbers)) s
    → written_at (2 * i) (get_or numbers i 0 % 256 ∷ (get_or numbers i 0 / 256 ∷ [])) out
    ≡ written_at 0 (two_bytes (take (i + 1) numbers)) s
unfolding two_bytes flat_map
two_next numbers s out i h e =
    let v = get_or numbers i 0 in
    let part = v % 256 ∷ (v / 256 ∷ []) in
    let before = two_bytes (take i numbers) in
    let l : length before ≡ 2 * i = length_two_bytes (take i numbers) ∙ ap (λ n. 2 * n) (length-take-le i numbers (omega arith)) in
    let grown : two_bytes (take (i + 1) numbers) ≡ before ++ part =
    ap two_bytes (ap (λ n. take n numbers) (add-one i) ∙ take-suc numbers i 0 h) ∙ flatMap_joined (λ number. number % 256 ∷ (number / 256 ∷ [])) (take i numbers) (v ∷ []) in
    front_behind before part s out (2 * i) l e ∙ ap (λ p. written_at 0 p s) (sym grown)

-- A number's bytes as std gives them.
bytes_are : (from count number : ℕ) → bytes_low_first from count number ≡ listed (λ place. number / 256 ^ place % 256) from count
unfolding listed
bytes_are from zero number = refl
bytes_are from (suc count) number = rw (bytes_are (suc from) count number) (ap (λ byte. byte ∷ listed (λ place. number / 256 ^ place % 256) (suc from) count) (byte_is from))
  where
    byte_is : (place : ℕ) → byte_at place number ≡ number / 256 ^ place % 256
    byte_is zero = omega arith
    byte_is (suc place) = refl

pub eight_is : (number : ℕ) → to_le_bytes w64 number ≡ eight_bytes number
unfolding eight_bytes
eight_is number = bytes_are 0 8 number

pub length_eight : (number : ℕ) → length (eight_bytes number) ≡ 8
unfolding eight_bytes
length_eight number = length_listed (λ place. number / 256 ^ place % 256) 0 8

-- Four numbers of eight bytes, one behind the other.
pub four_written : (a b c d : ℕ) (s one two three : List ℕ) → one ≡ written_at 0 (eight_bytes a) s → two ≡ written_at 8 (eight_bytes b) one
    → three ≡ written_at 16 (eight_bytes c) two
    → written_at 24 (eight_bytes d) three ≡ written_at 0 (eight_bytes a ++ (eight_bytes b ++ (eight_bytes c ++ eight_bytes d))) s
four_written a b c d s one two three e f g =
    let p = eight_bytes a in
    let q = eight_bytes b in
    let r = eight_bytes c in
    let t = eight_bytes d in
    let pq : length (p ++ q) ≡ 16 = omega (arith, length-append p q, length_eight a, length_eight b) in
    let pqr : length ((p ++ q) ++ r) ≡ 24 = omega (arith, length-append (p ++ q) r, pq, length_eight c) in
    let second = f ∙ front_behind p q s one 8 (length_eight a) e in
    let third = g ∙ front_behind (p ++ q) r s two 16 pq second in
    front_behind ((p ++ q) ++ r) t s three 24 pqr third
    ∙ ap (λ l. written_at 0 l s) (append_assoc (p ++ q) r t ∙ append_assoc p q (r ++ t))
