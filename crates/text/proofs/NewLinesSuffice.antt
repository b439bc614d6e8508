-- New lines never begin as a refusal does, so 5 is never printed where a journal is continued.
use mathlib.Core.Path.{◌≡◌, refl, ap, ◌∙◌, sym}
use mathlib.Core.Bool.{Bool, true, false, cond, not, true≢false}
use mathlib.Core.List.{List, [], ◌++◌, flat_map, append_assoc}
use Prim.Native.Nat.{ℕ, zero, suc, ◌-◌, ◌<◌}
use native.Mathlib.Omega.{arith}
use borrow.Author.Tests.{eq-eqb}
use lib.Dec.{eqb}
use lib.ListN.{length, get_or, get_or-append}
use Rattle.lists.proofs.Every.{every_at}
use Rattle.refusal.specs.declared.Refusal.TheVariants.{Room}
use Rattle.entities.specs.declared.Triple.{Triple}
use Rattle.entities.specs.Limits.{most_terms}
use Rattle.fields.specs.Decimal.{decimal}
use Rattle.fields.specs.Fields.{tabbed}
use Rattle.fields.specs.Lines.{kept_of}
use Rattle.fields.proofs.Numerals.{digit_above}
use Rattle.fields.proofs.Digits.{some_digits}
use Rattle.fields.proofs.DecimalRead.{decimal_without}
use Rattle.terms.specs.declared.rules.Rule.{Rule}
use Rattle.terms.specs.declared.rules.Rule.TheVariants.{Published, Keep}
use Rattle.terms.specs.Rules.{rule_number, rule_of}
use Rattle.terms.specs.Job.{Job, job_of}
use Rattle.obeying.specs.LineForms.{rule_word, header_text, merge_text}
use Rattle.journal.specs.Writing.{line_of, header_behind}
use Rattle.journal.specs.computed.NewText.{greedy_lines, new_text}
use Rattle.journal.specs.Resuming.{Ending, Outcome, done, refuses, ending, resumed}
use Rattle.journal.proofs.CallDone.{call_done}
use Rattle.terms_text.specs.Input.{Said, given, malformed, said}
use Rattle.text.specs.Running.{program_rooms, ran_by, ran}
use Rattle.text.specs.Output.{refusal_text, new_printed, continue_text, NewLinesSuffice, line_of as text_line}
use Rattle.text.proofs.RoomSuffices.{refusal_five, number_in, ran_never}

some_decimal : (number : ℕ) → 0 < length (decimal number)
unfolding decimal
some_decimal number = omega (arith, some_digits 19 number)

-- A number's text doesn't begin with `r`.
decimal_first : (number : ℕ) (rest : List ℕ) → get_or (decimal number ++ rest) 0 0 ≡ 114 → ⊥
decimal_first number rest e =
    let without = decimal_without 114 number (digit_above 114 (omega arith)) in
    let other = every_at (λ byte. not (eqb byte 114)) (decimal number) 0 0 (some_decimal number) without in
    let same = get_or-append (decimal number) rest 0 0 (some_decimal number) in
    true≢false (sym (rw (eq-eqb (get_or (decimal number) 0 0) 114 (sym same ∙ e)) at other))

-- New lines begin with a step's number, or with the header's word.
lines_first : (job : Job) (steps : ℕ) (history : List Triple) → get_or (flat_map (λ line. line) (greedy_lines job steps history)) 0 0 ≡ 114 → ⊥
unfolding greedy_lines flat_map line_of merge_text tabbed
lines_first job zero history e = omega arith
lines_first job (suc steps) history e = decimal_first (length history) _ (simp append_assoc at e)

-- Neither rule's word begins with `r`.
pub header_first : (rule : Rule) (modes terms : ℕ) (rest : List ℕ) → get_or (header_text rule modes terms ++ rest) 0 0 ≡ 114 → ⊥
unfolding header_text rule_word tabbed
header_first Published modes terms rest e = omega arith
header_first Keep modes terms rest e = omega arith

new_first : (job : Job) (kept : ℕ) (history : List Triple) → get_or (new_text job kept history) 0 0 ≡ 114 → ⊥
unfolding new_text header_behind
new_first job kept history = go (eqb kept 0)
  where
    go : (b : Bool)
        → get_or (cond b (header_text job.rule job.modes (length job.terms)) [] ++ flat_map (λ line. line) (greedy_lines job (job.modes - length history) history)) 0 0 ≡ 114
        → ⊥
    go true e = header_first job.rule job.modes (length job.terms) _ e
    go false e = lines_first job (job.modes - length history) history e

module _ (modes rule : ℕ) (numbers read : List ℕ) (part : Ending) (says : resumed program_rooms.run modes rule numbers read ≡ done part) where
  new_never : part.new ≡ refusal_text Room → ⊥
  unfolding ending refusal_text text_line tabbed
  new_never e =
      let known = call_done program_rooms.run modes rule numbers read part says in
      let job = job_of modes (rule_of rule) known.count numbers in
      new_first job (length (kept_of read)) known.history
      (ap (λ text. get_or text 0 0) (sym (ap (λ p. p.new) known.ends) ∙ e))

-- The theorem: 5 is never printed.
pub new_lines_suffice : NewLinesSuffice
unfolding continue_text new_printed number_in ran ran_by
new_lines_suffice asks read e = go (said most_terms asks.text) refl e
  where
    by_end : (modes : ℕ) (numbers : List ℕ) (end : Outcome) → resumed program_rooms.run modes (rule_number asks.rule) numbers read ≡ end
        → new_printed end ≡ refusal_text Room → number_in end ≡ 5
    by_end modes numbers (done part) f e = absurd (new_never modes (rule_number asks.rule) numbers read part f e)
    by_end modes numbers (refuses refusal) f e = refusal_five refusal e

    go : (says : Said) → said most_terms asks.text ≡ says → new_printed (ran_by program_rooms asks.rule says read) ≡ refusal_text Room → ⊥
    go (given modes numbers) f e =
        ran_never asks read (rw f (by_end modes numbers (resumed program_rooms.run modes (rule_number asks.rule) numbers read) refl e))
    go (malformed line) f e = ran_never asks read (rw f (refusal_five _ e))
