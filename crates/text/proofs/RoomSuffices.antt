-- The programs' own rooms suffice for whatever a text and a journal say, so 5 is never printed of a run.
use Rattle.std.specs.Prelude.{Err, Ok, Result}
use mathlib.Core.Path.{◌≡◌, refl, ap, ◌∙◌, sym}
use mathlib.Core.Bool.{Bool, true, false, cond, not}
use mathlib.Core.List.{List, [], ◌∷◌}
use Prim.Native.Nat.{ℕ, ◌+◌, ◌/◌, ◌%◌, ◌≤◌}
use native.Mathlib.Omega.{arith}
use borrow.Author.Tests.{leb-true}
use lib.Dec.{leb}
use lib.ListN.{length, get_or, length-append}
use Rattle.lists.specs.Members.{every}
use Rattle.lists.proofs.Tests.{both}
use Rattle.refusal.specs.declared.Refusal.{Refusal}
use Rattle.refusal.specs.declared.Refusal.TheVariants.{Modes, Room, Rule as NoRule}
use Rattle.refusal.specs.Numbers.{number_of, place_of}
use Rattle.entities.specs.Limits.{most_modes, most_terms}
use Rattle.fields.specs.Texts.{spelt}
use Rattle.fields.specs.Decimal.{digits, decimal}
use Rattle.fields.specs.Fields.{fields, tabbed}
use Rattle.fields.proofs.Digits.{by_size, digits_one, digits_more, some_digits}
use Rattle.fields.proofs.Tabbed.{no_tab}
use Rattle.fields.proofs.NumbersTabbed.{decimal_no_tab, fields_line}
use Rattle.terms.specs.Good.{modes_good, checked}
use Rattle.terms.specs.Rules.{rule_number, rule_good, rule_of}
use Rattle.terms.specs.Job.{Job, job_of}
use Rattle.terms.proofs.GoodTerms.{accepted}
use Rattle.obeying.specs.Obeying.{Obeyed, went, refused, obeyed}
use Rattle.journal.specs.Resuming.{Outcome, done, refuses, with_journal, with_terms, resumed}
use Rattle.journal.proofs.CallDone.{rooms_fit, with_room}
use Rattle.terms_text.specs.Input.{Said, given, malformed, said}
use Rattle.terms_text.specs.Jobs.{Request}
use Rattle.text.specs.Running.{program_rooms, ran_by, ran}
use Rattle.text.specs.Output.{line_of, refusal_text, done_text, printed, resume_text, RoomSuffices}
use Rattle.obeying.proofs.LineRefused.{journal_refusal}
use Rattle.terms_text.proofs.TermsRefused.{terms_refusal}

-- The text of a refusal tells its number.
second_field : (refusal : Refusal) → get_or (fields (refusal_text refusal)) 1 [] ≡ decimal (number_of refusal)
unfolding refusal_text line_of every no_tab
second_field refusal =
    let number = decimal (number_of refusal) in
    let place = decimal (place_of refusal) in
    ap (λ parts. get_or parts 1 [])
    (fields_line (spelt "refused") (number ∷ (place ∷ [])) (rw (decimal_no_tab (number_of refusal), decimal_no_tab (place_of refusal))))

decimal_five : (number : ℕ) → decimal number ≡ decimal 5 → number ≡ 5
unfolding decimal digits
decimal_five number e =
    by_size number
    (λ h. omega (arith, ap (λ l. get_or l 0 0) (sym (digits_one 19 number h) ∙ e)))
    (λ h.
    let tenth = digits 19 (number / 10) in
    let last = (48 + number % 10) ∷ [] in
    absurd (omega (arith, ap length (sym (digits_more 19 number h) ∙ e), length-append tenth last, some_digits 18 (number / 10))))

pub refusal_five : (refusal : Refusal) → refusal_text refusal ≡ refusal_text Room → number_of refusal ≡ 5
refusal_five refusal e =
    decimal_five (number_of refusal) (sym (second_field refusal) ∙ ap (λ text. get_or (fields text) 1 []) e ∙ second_field Room)

-- The number with which a run ends, none where it isn't refused.
unfoldable pub number_in : Outcome → ℕ
number_in (done ending) = 0
number_in (refuses refusal) = number_of refusal

-- Where the text of 5 is printed, the run ended with it: a finished run's text begins otherwise.
five_ended : (end : Outcome) → printed end ≡ refusal_text Room → number_in end ≡ 5
unfolding number_in printed done_text refusal_text line_of tabbed
five_ended (done ending) e = absurd (omega (arith, ap (λ text. get_or text 0 0) e))
five_ended (refuses refusal) e = refusal_five refusal e

module _ (modes rule : ℕ) (numbers read : List ℕ) where
  abbrev number_with : Result ℕ Refusal → ℕ
  number_with found = number_in (with_terms program_rooms.run modes (rule_of rule) numbers read found)

  -- The journal's lines have numbers of their own, 6 to 12.
  journal_never : (job : Job) (found : Obeyed) → obeyed job read ≡ found → number_in (with_journal job read found) ≡ 5 → ⊥
  unfolding number_in with_journal
  journal_never job (went history) e h = omega arith
  journal_never job (refused made why) e h = omega (arith, h, (journal_refusal job read made why e).1.from)

  -- Terms that are refused have other numbers, and with room for all the journal decides.
  terms_never : modes ≤ most_modes → (found : Result ℕ Refusal) → checked modes numbers ≡ found → number_with found ≡ 5 → ⊥
  unfolding number_in with_terms
  terms_never few (Ok count) e h =
      let job = job_of modes (rule_of rule) count numbers in
      let short = (accepted modes numbers count e).at_most in
      let fits = rooms_fit program_rooms.run modes count (omega (arith, short)) (omega arith) (omega arith) (omega arith) in
      let decides = ap number_in (with_room program_rooms.run modes (rule_of rule) numbers read count fits) in
      journal_never job (obeyed job read) refl (sym decides ∙ h)
  terms_never few (Err why) e h = omega (arith, h, terms_refusal modes numbers why e)

  run_never : number_in (resumed program_rooms.run modes rule numbers read) ≡ 5 → ⊥
  unfolding number_in resumed modes_good
  run_never h = go (modes_good most_modes modes) refl (rule_good rule) h
    where
      go : (b : Bool) → modes_good most_modes modes ≡ b → (c : Bool)
          → number_in
          (cond (not b) (refuses Modes)
          (cond (not c) (refuses NoRule) (with_terms program_rooms.run modes (rule_of rule) numbers read (checked modes numbers))))
          ≡ 5
          → ⊥
      go false e c h = omega arith
      go true e false h = omega arith
      go true e true h = terms_never (leb-true modes most_modes (both (leb 1 modes) (leb modes most_modes) e).1) (checked modes numbers) refl h

-- No text's run ends with 5, whatever journal is read.
pub ran_never : (asks : Request) (read : List ℕ) → number_in (ran program_rooms asks read) ≡ 5 → ⊥
unfolding number_in ran_by ran
ran_never asks read = go (said most_terms asks.text)
  where
    go : (says : Said) → number_in (ran_by program_rooms asks.rule says read) ≡ 5 → ⊥
    go (given modes numbers) h = run_never modes (rule_number asks.rule) numbers read h
    go (malformed line) h = omega arith

-- The theorem: 5 is never printed.
pub room_suffices : RoomSuffices
unfolding resume_text
room_suffices asks read e = ran_never asks read (five_ended (ran program_rooms asks read) e)
