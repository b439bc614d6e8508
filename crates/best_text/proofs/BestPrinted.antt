-- What is printed, told by what the text was read to say and by what was found; 5 is not among it, and its merges are read by hand.
use Rattle.best.specs.declared.Least.{Least}
use Rattle.std.specs.Prelude.{Err, Ok, Result}
use mathlib.Core.Path.{◌≡◌, refl, ap, ◌∙◌, sym}
use mathlib.Core.Bool.{Bool, true, false, cond}
use mathlib.Core.List.{List, [], ◌∷◌, ◌++◌, map, append-nil}
use Prim.Native.Nat.{ℕ, ◌+◌, ◌*◌, ◌≤◌}
use native.Mathlib.Omega.{arith}
use borrow.Author.Tests.{ltb-true, ltb-false, le-leb}
use lib.Dec.{eqb, ltb}
use lib.ListN.{length, get_or, take, drop}
use lib.Seq.{take_at}
use Rattle.lists.specs.Members.{every}
use Rattle.lists.specs.Written.{written_at}
use Rattle.refusal.specs.declared.Refusal.{Refusal}
use Rattle.refusal.specs.declared.Refusal.TheVariants.{Modes, Room, TooManyToTry, Malformed}
use Rattle.refusal.specs.Numbers.{number_of, place_of}
use Rattle.entities.specs.declared.Triple.{Triple}
use Rattle.fields.specs.Decimal.{decimal}
use Rattle.fields.specs.Fields.{fields, tabbed}
use Rattle.fields.specs.code.Reading.{fields_good}
use Rattle.fields.proofs.NumbersTabbed.{fits, decimals_no_tab, decimals_are_numbers, values_of_decimals, fields_line}
use Rattle.terms.specs.Good.{checked}
use Rattle.terms_text.specs.Input.{Said, given, malformed, said}
use Rattle.terms_text.proofs.TermsRefused.{terms_refusal}
use Rattle.obeying.proofs.LineSaid.{hand_said}
use Rattle.text.specs.Output.{line_of, refusal_text}
use Rattle.text.proofs.RoomSuffices.{refusal_five}
use Rattle.best.specs.computed.Lightest.{lightest}
use Rattle.best.specs.Call.{terms_given, found_among, best_found, sequence_numbers, sequence_after, Sought}
use Rattle.best.proofs.LightestBest.{lightest_best, found_few}
use Rattle.best.proofs.MergesKept.{length_numbers}
use Rattle.best_text.specs.code.MergesRead.{merges_in}
use Rattle.best_text.proofs.MergesPrinted.{sequence_read}
use Rattle.best_text.specs.Printing.{merge_line, found_text, found_printed, best_as, best_text, BestSuffices, MergesSteer}

-- Where the sequence fits, 5 is not among the refusals.
never_five : (most modes : ℕ) (numbers : List ℕ) (room : ℕ) (refusal : Refusal) → 3 * most ≤ room
    → best_found most modes numbers room ≡ Err refusal → number_of refusal ≡ 5 → ⊥
unfolding best_found found_among
never_five most modes numbers room refusal fits e five =
    go (eqb modes 0) (ltb most modes) refl (checked modes numbers) refl (ltb room (3 * modes)) refl e
  where
    apart : {other : Refusal} → ◌≡◌ {A = Result Least Refusal} (Err other) (Err refusal) → (number_of other ≡ 5 → ⊥) → ⊥
    apart {other} f not_five = let same : other ≡ refusal = cc in not_five (ap number_of same ∙ five)

    go : (a b : Bool) → ltb most modes ≡ b → (check : Result ℕ Refusal) → checked modes numbers ≡ check → (d : Bool) → ltb room (3 * modes) ≡ d
        → cond a (Err Modes) (cond b (Err TooManyToTry) (found_among modes numbers room check)) ≡ Err refusal → ⊥
    go true b q check r d t f = apart f (λ n. omega arith)
    go false true q check r d t f = apart f (λ n. omega arith)
    go false false q (Err why) r d t f = apart f (λ n. omega (arith, terms_refusal modes numbers why r, n))
    go false false q (Ok count) r true t f = omega (arith, ltb-false most modes q, ltb-true room (3 * modes) t)
    go false false q (Ok count) r false t f =
        let z : ◌≡◌ {A = ℕ} 0 1 = cc (rw t at f) in omega arith

-- The text of what is found begins otherwise than a refusal does.
found_never : (found : Result Least Refusal) (first : List Triple) → ((refusal : Refusal) → found ≡ Err refusal → number_of refusal ≡ 5 → ⊥)
    → found_printed found first ≡ refusal_text Room → ⊥
unfolding found_printed found_text refusal_text line_of tabbed
found_never (Ok least) first never e = omega (arith, ap (λ text. get_or text 0 0) e)
found_never (Err refusal) first never e = never refusal refl (refusal_five refusal e)

pub best_suffices : BestSuffices
unfolding best_text best_as
best_suffices most terms bytes = go (said terms bytes)
  where
    go : (says : Said) → best_as most (3 * most) says ≡ refusal_text Room → ⊥
    go (given modes numbers) e =
        found_never (best_found most modes numbers (3 * most)) (lightest modes (terms_given numbers))
        (λ refusal f. never_five most modes numbers (3 * most) refusal (omega arith) f) e
    go (malformed line) e = omega (arith, refusal_five _ e)

pub merges_steer : MergesSteer
unfolding merge_line line_of fields_good fits every
merges_steer job history merge x y z =
    let numbers : List ℕ = merge.x ∷ (merge.y ∷ (merge.z ∷ [])) in
    let small : every fits numbers ≡ true = rw (le-leb _ 65535 x, le-leb _ 65535 y, le-leb _ 65535 z) in
    let parts : fields (merge_line merge) ≡ map decimal numbers =
    fields_line (decimal merge.x) (map decimal (drop 1 numbers)) (decimals_no_tab numbers small) in
    hand_said job history (merge_line merge) numbers (rw (parts, decimals_are_numbers numbers small)) (rw (parts, values_of_decimals numbers small))

-- What the call answered, as it is printed.
module _ (most modes : ℕ) (numbers before : List ℕ) (r : Result Least Refusal) (after : List ℕ) (sought : Sought most modes numbers before r after) where
  pub refused_printed : (refusal : Refusal) → r ≡ Err refusal → best_as most (length before) (given modes numbers) ≡ refusal_text refusal
  unfolding best_as found_printed
  refused_printed refusal e = rw (sym sought.told.answer ∙ e)

  module _ (least : Least) (e : r ≡ Ok least) where
    found_is : best_found most modes numbers (length before) ≡ Ok least
    found_is = sym sought.told.answer ∙ e

    pub modes_few : modes ≤ most
    modes_few = found_few most modes numbers (length before) least found_is

    sequence_held : merges_in (take (3 * modes) after) ≡ lightest modes (terms_given numbers)
    unfolding sequence_after written_at merges_in
    sequence_held =
        let first = lightest modes (terms_given numbers) in
        let part = sequence_numbers first in
        let written : after ≡ part ++ drop (0 + length part) before = sought.sequence_is ∙ ap (λ found. sequence_after found modes numbers before) e in
        let long : length part ≡ 3 * modes = length_numbers first ∙ ap (λ n. 3 * n) (lightest_best modes (terms_given numbers)).all in
        let front : take (3 * modes) after ≡ part ++ [] = rw (written, append-nil part) (take_at part _ (3 * modes) long) in
        ap merges_in front ∙ sequence_read first []

    pub found_told : best_as most (length before) (given modes numbers) ≡ found_text least.weight least.reached (merges_in (take (3 * modes) after))
    unfolding best_as found_printed
    found_told = rw (found_is, sequence_held)

-- What the text says is answered.
pub best_malformed : (most room : ℕ) (meant : Said) (why : Refusal) → (why ≡ Malformed (place_of why)) × (meant ≡ malformed (place_of why))
    → refusal_text why ≡ best_as most room meant
unfolding best_as
best_malformed most room meant why bad = rw (bad.1, ← bad.0)
