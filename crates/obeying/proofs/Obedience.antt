-- Whatever bytes are obeyed to a history: the history is lawful and no longer than the modes, and its merges are what the lines say, in their order.
use Rattle.obeying.specs.declared.header.HeaderLine.{HeaderLine}
use Rattle.std.specs.Prelude.{Err, None, Ok, Option, Result, Some}
use Rattle.obeying.specs.declared.merge_line.MergeLine.{MergeLine}
use mathlib.Core.Path.{◌≡◌, refl, ap, ◌∙◌, sym}
use mathlib.Core.Bool.{Bool, true, false, cond, ◌&&◌, not}
use mathlib.Core.List.{List, [], ◌∷◌}
use Prim.Native.Nat.{ℕ, zero, suc, ◌+◌, ◌-◌, ◌<◌, ◌≤◌}
use native.Mathlib.Nat.{add-zero, zero-add, sub-zero}
use native.Mathlib.Omega.{arith}
use borrow.Author.Tests.{eqb-true}
use lib.Dec.{eqb}
use lib.ListN.{length, get_or, drop}
use lib.Seq.{get_or-drop, drop-drop}
use Rattle.lists.proofs.Tests.{both}
use Rattle.refusal.specs.declared.Refusal.{Refusal}
use Rattle.refusal.specs.declared.Refusal.TheVariants.{LineForm, Header as OtherHeader}
use Rattle.entities.specs.declared.Triple.{Triple}
use Rattle.fields.specs.Lines.{lines}
use Rattle.terms.specs.Rules.{rule_number}
use Rattle.terms.specs.Job.{Job}
use Rattle.terms.proofs.RuleNumbers.{same_rule}
use Rattle.history.specs.History.{merge_of, history_before}
use Rattle.history.specs.Lawful.{Lawful, LawfulHistory}
use Rattle.history.specs.Choice.{weight_in}
use Rattle.history.proofs.Amounts.{merge_getD}
use Rattle.obeying.specs.LineForms.{header_of}
use Rattle.obeying.specs.Obeying.{Obeyed, went, refused, merge_by_hand, line_said, judged_line, obeyed_as, obeyed_next, obeyed_lines, obeyed_header, obeyed_texts, obeyed, obeyed_by_hand}
use Rattle.obeying.specs.Obedience.{Obedient}
use Rattle.obeying.proofs.LineJudged.{says_next}
use Rattle.obeying.proofs.LinesObeyed.{refused_stays}

-- What refuses does not go on.
not_went : (made : List Triple) (refusal : Refusal) (history : List Triple) → refused made refusal ≡ went history → ⊥
not_went made refusal history e = let z : ◌≡◌ {A = ℕ} 0 1 = cc in absurd (omega arith)

-- What one line that was obeyed has said and done.
record Added (job : Job) (history : List Triple) (said : Option MergeLine) (after : List Triple) : Type 0 where
  merge : Triple
  left : length history < job.modes
  lawful : Lawful job.modes history merge
  says : said ≡ Some (record { step = length history; triple = merge; weight = weight_in job history merge })
  adds : after ≡ merge ∷ history

line_added : (by_hand : Bool) (job : Job) (history : List Triple) (bytes : List ℕ) (after : List Triple)
    → obeyed_next by_hand job bytes (went history) ≡ went after → Added job history (line_said by_hand job history bytes) after
unfolding obeyed_next obeyed_as
line_added by_hand job history bytes after e = go (judged_line by_hand job history bytes) refl e
  where
    go : (judged : Result MergeLine Refusal) → judged_line by_hand job history bytes ≡ judged → obeyed_as history judged ≡ went after
        → Added job history (line_said by_hand job history bytes) after
    go (Ok said) f g =
        let next = says_next by_hand job history said bytes f in
        record {
          merge = said.triple;
          left = next.left;
          lawful = next.lawful;
          says =
              next.reads
              ∙ ap (λ n. Some (record { step = n; triple = said.triple; weight = said.weight })) next.step_is
              ∙ ap (λ n. Some (record { step = length history; triple = said.triple; weight = n })) next.weight_is;
          adds = cc;
        }
    go (Err refusal) f g = absurd (not_went history refusal after g)

-- Three zeros, where there is no such merge.
abbrev no_merge : Triple
no_merge = record { x = 0; y = 0; z = 0 }

-- The i-th of so many newest merges, the oldest of them first, and the merges before it.
abbrev merge_at : List Triple → ℕ → ℕ → Triple
merge_at history many i = get_or history (many - suc i) no_merge

abbrev before_at : List Triple → ℕ → ℕ → List Triple
before_at history many i = drop (many - i) history

-- The lines say the newest merges of a history, in order.
abbrev Says : Bool → Job → ℕ → List (List ℕ) → List Triple → Type 0
Says by_hand job begun texts history =
    (i : ℕ) → i < length texts
    → line_said by_hand job (before_at history (length texts) i) (get_or texts i [])
    ≡ Some
    (record {
      step = begun + i;
      triple = merge_at history (length texts) i;
      weight = weight_in job (before_at history (length texts) i) (merge_at history (length texts) i);
    })

-- What lines that were all obeyed have said and done.
record AddedAll (by_hand : Bool) (job : Job) (history : List Triple) (texts : List (List ℕ)) (after : List Triple) : Type 0 where
  lawful : LawfulHistory job.modes after
  within : length after ≤ job.modes
  longer : length after ≡ length history + length texts
  behind : drop (length texts) after ≡ history
  says : Says by_hand job (length history) texts after

module _ (by_hand : Bool) (job : Job) where
  none_added : (history : List Triple) → LawfulHistory job.modes history → length history ≤ job.modes → AddedAll by_hand job history [] history
  none_added history lawful h =
      record { lawful = lawful; within = h; longer = sym (add-zero (length history)); behind = refl; says = λ i l. absurd (omega arith) }

  module _ (history : List Triple) (text : List ℕ) (rest : List (List ℕ)) (next after : List Triple)
      (one : Added job history (line_said by_hand job history text) next) (all : AddedAll by_hand job next rest after) where
    next_behind : drop (length rest) after ≡ one.merge ∷ history
    next_behind = all.behind ∙ one.adds

    first_merge : get_or after (length rest) no_merge ≡ one.merge
    first_merge =
        ap (λ n. get_or after n no_merge) (sym (add-zero (length rest)))
        ∙ sym (get_or-drop (length rest) after 0 no_merge) ∙ ap (λ l. get_or l 0 no_merge) next_behind

    first_before : drop (suc (length rest)) after ≡ history
    first_before =
        let e : suc (length rest) ≡ length rest + 1 = omega arith in
        ap (λ n. drop n after) e ∙ sym (drop-drop 1 (length rest) after) ∙ ap (drop 1) next_behind

    both_say : Says by_hand job (length history) (text ∷ rest) after
    both_say zero h =
        let e : suc (length rest) - 1 ≡ length rest = omega arith in
        rw (add-zero (length history), sub-zero (suc (length rest)), e) (rw (first_merge, first_before) one.says)
    both_say (suc i) h =
        let step : length history + suc i ≡ length next + i = omega (arith, ap length one.adds) in
        let here : suc (length rest) - suc (suc i) ≡ length rest - suc i = omega arith in
        let before : suc (length rest) - suc i ≡ length rest - i = omega arith in
        rw (step, here, before) (all.says i (omega arith))

    one_and_all : AddedAll by_hand job history (text ∷ rest) after
    one_and_all =
        record {
          lawful = all.lawful;
          within = all.within;
          longer = omega (arith, all.longer, ap length one.adds);
          behind = first_before;
          says = both_say;
        }

  all_added : (texts : List (List ℕ)) (history after : List Triple) → LawfulHistory job.modes history → length history ≤ job.modes
      → obeyed_lines by_hand job (went history) texts ≡ went after → AddedAll by_hand job history texts after
  unfolding obeyed_lines
  all_added [] history after lawful h e = let same : history ≡ after = cc in rw (← same) (none_added history lawful h)
  all_added (text ∷ rest) history after lawful h e =
      go (obeyed_next by_hand job text (went history)) refl e (λ next. all_added rest next after)
    where
      go : (result : Obeyed) → obeyed_next by_hand job text (went history) ≡ result
          → obeyed_lines by_hand job result rest ≡ went after
          → ((next : List Triple) → LawfulHistory job.modes next → length next ≤ job.modes
          → obeyed_lines by_hand job (went next) rest ≡ went after → AddedAll by_hand job next rest after)
          → AddedAll by_hand job history (text ∷ rest) after
      go (went next) f g ahead =
          let one = line_added by_hand job history text next f in
          let longer = ap length one.adds in
          let good : LawfulHistory job.modes next = rw one.adds (one.lawful, lawful) in
          one_and_all history text rest next after one (ahead next good (omega (arith, longer, one.left)) g)
      go (refused made refusal) f g ahead = absurd (not_went made refusal after (sym (refused_stays by_hand job made refusal rest) ∙ g))

module _ (job : Job) where
  -- A header that was obeyed says the rule, the modes and the count of the terms, and no merge.
  header_obeyed : (said : Option HeaderLine) (history : List Triple) → obeyed_header job said ≡ went history
      → (said ≡ Some (record { rule = job.rule; modes = job.modes; terms = length job.terms })) × (history ≡ [])
  unfolding obeyed_header
  header_obeyed (Some said) history e =
      go (eqb (rule_number said.rule) (rule_number job.rule) && (eqb said.modes job.modes && eqb said.terms (length job.terms))) refl e
    where
      go : (test : Bool) → (eqb (rule_number said.rule) (rule_number job.rule) && (eqb said.modes job.modes && eqb said.terms (length job.terms))) ≡ test
          → cond (not test) (refused [] OtherHeader) (went []) ≡ went history
          → (Some said ≡ Some (record { rule = job.rule; modes = job.modes; terms = length job.terms })) × (history ≡ [])
      go true f g =
          let ruled = both (eqb (rule_number said.rule) (rule_number job.rule)) (eqb said.modes job.modes && eqb said.terms (length job.terms)) f in
          let parts = both (eqb said.modes job.modes) (eqb said.terms (length job.terms)) ruled.1 in
          let r = same_rule said.rule job.rule (eqb-true (rule_number said.rule) (rule_number job.rule) ruled.0) in
          let m = eqb-true said.modes job.modes parts.0 in
          let c = eqb-true said.terms (length job.terms) parts.1 in
          (rw (← r, ← m, ← c), cc)
      go false f g = absurd (not_went [] OtherHeader history g)
  header_obeyed None history e = absurd (not_went [] (LineForm 0) history e)

  rest_obedient : (first : List ℕ) (rest : List (List ℕ)) (history : List Triple)
      → header_of first ≡ Some (record { rule = job.rule; modes = job.modes; terms = length job.terms }) → AddedAll false job [] rest history → Obedient job (first ∷ rest) history
  rest_obedient first rest history h all =
      let size : length rest ≡ length history = omega (arith, all.longer) in
      record {
        lawful = all.lawful;
        within = all.within;
        a_line_each = omega arith;
        header = λ some. h;
        says = λ i l. (let said = all.says i (omega arith) in rw (merge_getD history i l) (rw (zero-add i, size) at said));
      }

  texts_obedient : (texts : List (List ℕ)) (history : List Triple) → obeyed_texts job texts ≡ went history → Obedient job texts history
  unfolding obeyed_texts
  texts_obedient [] history e =
      let same : [] ≡ history = cc in
      rw (← same)
      (record { lawful = tt; within = omega arith; a_line_each = refl; header = λ some. absurd (omega arith); says = λ i l. absurd (omega arith) })
  texts_obedient (first ∷ rest) history e = go (obeyed_header job (header_of first)) refl e
    where
      go : (result : Obeyed) → obeyed_header job (header_of first) ≡ result → obeyed_lines false job result rest ≡ went history
          → Obedient job (first ∷ rest) history
      go (went start) f g =
          let head = header_obeyed (header_of first) start f in
          let fresh : obeyed_lines false job (went []) rest ≡ went history = rw head.1 at g in
          rest_obedient first rest history head.0 (all_added false job rest [] history tt (omega arith) fresh)
      go (refused made refusal) f g = absurd (not_went made refusal history (sym (refused_stays false job made refusal rest) ∙ g))

  pub obedient : (bytes : List ℕ) (history : List Triple) → obeyed job bytes ≡ went history → Obedient job (lines bytes) history
  unfolding obeyed
  obedient bytes history e = texts_obedient (lines bytes) history e

  -- Lines by hand: each says a merge, its step and weight filled in.
  pub record HandObedient (texts : List (List ℕ)) (history : List Triple) : Type 0 where
    pub lawful : LawfulHistory job.modes history
    pub within : length history ≤ job.modes
    pub a_line_each : length history ≡ length texts
    pub says : (i : ℕ) → i < length history
        → merge_by_hand job (history_before history i) (get_or texts i []) ≡ Some (record {
          step = i;
          triple = merge_of history i;
          weight = weight_in job (history_before history i) (merge_of history i);
        })

  pub hand_obedient : (bytes : List ℕ) (history : List Triple) → obeyed_by_hand job bytes ≡ went history → HandObedient (lines bytes) history
  unfolding obeyed_by_hand
  hand_obedient bytes history e =
      let all = all_added true job (lines bytes) [] history tt (omega arith) e in
      let size : length (lines bytes) ≡ length history = omega (arith, all.longer) in
      record {
        lawful = all.lawful;
        within = all.within;
        a_line_each = omega arith;
        says = λ i l. (let said = all.says i (omega arith) in rw (merge_getD history i l) (rw (zero-add i, size) at said));
      }
