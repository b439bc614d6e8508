-- The numbers read from the bytes of terms stand for them: they are all of the terms', or as many rows as are refused alike.
use Rattle.std.specs.Prelude.{Err}
use mathlib.Core.Path.{◌≡◌, ap, ◌∙◌, sym}
use mathlib.Core.List.{List, [], ◌∷◌, ◌++◌}
use Prim.Native.Nat.{ℕ, ◌/◌, ◌%◌, ◌<◌, ◌≤◌}
use native.Mathlib.Omega.{arith}
use borrow.Author.Tests.{eq-eqb, ne_eqb, lt-leb}
use lib.ListN.{length, take, length-append}
use lib.Seq.{length-take-le, take_at}
use Rattle.lists.specs.Ranges.{listed}
use Rattle.lists.proofs.Listed.{length_listed}
use Rattle.refusal.specs.declared.Refusal.TheVariants.{TermNumbers, TooManyTerms}
use Rattle.terms.specs.Good.{checked}
use Rattle.call_bytes.specs.Bytes.{word_at, words}
use Rattle.call_bytes.specs.code.Handing.{term_numbers}
use Rattle.call_bytes.specs.code.Reading.{same, both_refused, TermsRead}

pub not_eights : (modes : ℕ) (l : List ℕ) → length l ≡ 1 → checked modes l ≡ Err TermNumbers
unfolding checked
not_eights modes l e = rw e

too_many : (modes : ℕ) (l : List ℕ) → length l % 8 ≡ 0 → 2048 < length l / 8 → checked modes l ≡ Err TooManyTerms
unfolding checked
too_many modes l e h = rw (eq-eqb (length l % 8) 0 e, lt-leb (length l / 8) 2048 h)

module _ (bytes numbers : List ℕ) where
  pub read_odd : (length bytes % 16 ≡ 0 → ⊥) → 1 ≤ length numbers → TermsRead bytes numbers 1
  unfolding term_numbers
  read_odd h room =
      let one : term_numbers bytes ≡ 0 ∷ [] = rw (ne_eqb (length bytes % 16) 0 h) in
      record {
        fits = room;
        stands = both_refused TermNumbers (λ modes. not_eights modes (take 1 numbers) (length-take-le 1 numbers room))
            (λ modes. not_eights modes (term_numbers bytes) (ap length one));
      }

  module _ (sixteens : length bytes % 16 ≡ 0) where
    all_words : term_numbers bytes ≡ words bytes
    unfolding term_numbers
    all_words = rw (eq-eqb (length bytes % 16) 0 sixteens)

    length_words : length (words bytes) ≡ length bytes / 2
    unfolding words
    length_words = length_listed (word_at bytes) 0 (length bytes / 2)

    pub read_few : length numbers ≡ 16392 → length numbers < length bytes / 2 → TermsRead bytes numbers (length numbers)
    read_few many more =
        let l : length (take (length numbers) numbers) ≡ 16392 = length-take-le (length numbers) numbers (omega arith) ∙ many in
        let k : length (term_numbers bytes) ≡ length bytes / 2 = ap length all_words ∙ length_words in
        record {
          fits = omega arith;
          stands = both_refused TooManyTerms (λ modes. too_many modes (take (length numbers) numbers) (omega (arith, l)) (omega (arith, l)))
              (λ modes. too_many modes (term_numbers bytes) (omega (arith, k)) (omega (arith, k)));
        }

    pub read_all : (part rest : List ℕ) → part ≡ listed (word_at bytes) 0 (length (take (length bytes / 2) numbers)) → length bytes / 2 ≤ length numbers
        → TermsRead bytes (part ++ rest) (length bytes / 2)
    unfolding words
    read_all part rest e fits =
        let count = length bytes / 2 in
        let k : length (take count numbers) ≡ count = length-take-le count numbers fits in
        let whole : part ≡ words bytes = e ∙ ap (λ n. listed (word_at bytes) 0 n) k in
        let l : length part ≡ count = ap length whole ∙ length_words in
        record { fits = omega (arith, l, length-append part rest); stands = same (take_at part rest count l ∙ whole ∙ sym all_words) }
