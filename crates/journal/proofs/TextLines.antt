-- The header and a merge line, as they are written, are one line each: no digit, tab or letter is an LF.
use mathlib.Core.Path.{◌≡◌, refl}
use mathlib.Core.Bool.{true}
use mathlib.Core.List.{[], ◌∷◌, map}
use Prim.Native.Nat.{ℕ}
use Rattle.lists.specs.Members.{every}
use Rattle.entities.specs.declared.Triple.{Triple}
use Rattle.fields.specs.Texts.{spelt}
use Rattle.fields.specs.Decimal.{decimal}
use Rattle.fields.specs.Lines.{is_line}
use Rattle.fields.specs.Fields.{tabbed}
use Rattle.fields.proofs.LinesJoined.{no_feed, line_ended}
use Rattle.fields.proofs.NumbersTabbed.{tabbed_free, decimals_free}
use Rattle.terms.specs.declared.rules.Rule.{Rule}
use Rattle.terms.specs.declared.rules.Rule.TheVariants.{Published, Keep}
use Rattle.obeying.specs.LineForms.{rule_word, header_text, merge_text}

word_no_feed : (rule : Rule) → no_feed (rule_word rule) ≡ true
unfolding rule_word every no_feed
word_no_feed Published = refl
word_no_feed Keep = refl

pub header_is_line : (rule : Rule) (modes terms : ℕ) → is_line (header_text rule modes terms) ≡ true
unfolding header_text no_feed every
header_is_line rule modes terms =
    let parts = rule_word rule ∷ (spelt "1" ∷ map decimal (modes ∷ (terms ∷ []))) in
    line_ended (tabbed parts) (tabbed_free parts (rw (word_no_feed rule) (decimals_free (modes ∷ (terms ∷ [])))))

pub merge_is_line : (step : ℕ) (triple : Triple) (weight : ℕ) → is_line (merge_text step triple weight) ≡ true
unfolding merge_text
merge_is_line step triple weight =
    let numbers = step ∷ (triple.x ∷ (triple.y ∷ (triple.z ∷ (weight ∷ [])))) in
    line_ended (tabbed (map decimal numbers)) (tabbed_free (map decimal numbers) (decimals_free numbers))
