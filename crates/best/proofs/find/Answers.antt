-- The operators weigh in any tree what the terms do, so the best of theirs is the best of the terms'.
use Rattle.best.specs.declared.Least.{Least}
use mathlib.Core.Path.{◌≡◌, ap, ◌∙◌}
use Rattle.entities.specs.Limits.{row_width}
use Rattle.lists.specs.Written.{written_at}
use Rattle.terms.specs.Rows.{terms_of}
use Rattle.terms.proofs.GoodTerms.{accepted}
use Rattle.best.specs.computed.Lightest.{lightest, least_weight, how_many}
use Rattle.best.specs.Call.{terms_given, sequence_numbers, sequence_after}
use Rattle.best.proofs.LeadOn.{weight_found, reached_found, sequence_found}
use Rattle.best.proofs.find.Goals as goal
use Rattle.best.proofs.find.Goals.{Start}

both : {found least : Least} → found.weight ≡ least.weight → found.reached ≡ least.reached → found ≡ least
both {found} {least} e f = rw (e, f)

same_terms : (c : Start) → terms_of row_width c.args.count c.args.terms.now ≡ terms_given c.args.terms.now
same_terms c = ap (λ count. terms_of row_width count c.args.terms.now) (accepted c.args.modes c.args.terms.now c.args.count c.requires.terms_value).rows

pub own_operators-own-requires-clause-good_rows : goal.own_operators-own-requires-clause-good_rows
own_operators-own-requires-clause-good_rows c =
    let rows = accepted c.args.modes c.args.terms.now c.args.count c.requires.terms_value in
    record { few = rows.at_most; held = rows.given.held; good = rows.good }

pub returns-clause-value : goal.returns-clause-value
returns-clause-value c =
    let args = c.args in
    let lead = c.lightest-lead in
    let made = c.own_operators-own.ensures in
    let same = same_terms (goal.at.returns-clause-value c).Start in
    both
    (weight_found args.modes args.count args.terms.now _ made lead.result lead.ensures ∙ ap (least_weight args.modes) same)
    (reached_found args.modes args.count args.terms.now _ made lead.result lead.ensures ∙ ap (how_many args.modes) same)

pub returns-clause-sequence_after : goal.returns-clause-sequence_after
unfolding sequence_after
returns-clause-sequence_after c =
    let args = c.args in
    let lead = c.lightest-lead in
    let found = sequence_found args.modes args.count args.terms.now _ c.own_operators-own.ensures lead.result lead.ensures in
    c.put_numbers.ensures
    ∙ ap (λ history. written_at 0 (sequence_numbers history) args.sequence.now)
    (c.nth_sequence-first.ensures ∙ found ∙ ap (lightest args.modes) (same_terms (goal.at.returns-clause-sequence_after c).Start))
