-- One line obeyed as it was judged, and the header.
use Rattle.obeying.specs.declared.header.HeaderLine.{HeaderLine}
use Rattle.std.specs.Prelude.{Err, None, Ok, Option, Some}
use mathlib.Core.Path.{◌≡◌, ap, sym}
use mathlib.Core.Bool.{Bool}
use mathlib.Core.List.{List, [], ◌∷◌}
use Prim.Native.Nat.{ℕ}
use borrow.Author.Tests.{eq-eqb, ne_eqb}
use Rattle.refusal.specs.declared.Refusal.{Refusal}
use Rattle.refusal.specs.declared.Refusal.TheVariants.{LineForm, Header as OtherHeader}
use Rattle.terms.specs.declared.job.JobSize.{JobSize}
use Rattle.terms.specs.Rules.{rule_number}
use Rattle.terms.specs.Job.{Job}
use Rattle.merging.specs.declared.run.Run.{Run}
use Rattle.merging.specs.code.State.{history_of}
use Rattle.merging.specs.code.Runs.{Holds, Ready, Went}
use Rattle.merging.proofs.Runs.{went_nowhere, went_here, ready}
use Rattle.obeying.specs.declared.merge_line.MergeLine.{MergeLine}
use Rattle.obeying.specs.Obeying.{Obeyed, went, refused, judged_line, obeyed_as, obeyed_next, obeyed_header}
use Rattle.terms.specs.code.Sized.{Sized}
use Rattle.obeying.specs.code.Obeys.{obeying, came_to, Obeys}
use Rattle.obeying.proofs.LineJudged.{says_next}

module _ (job : Job) (rows : List ℕ) (run : Run) (holds : Holds job rows run) where
  -- A refusal leaves the run as it is.
  pub refuses : (why : Refusal) (answer : Obeyed) → refused (history_of run) why ≡ answer → Obeys job answer rows rows (obeying (Err why) run)
  unfolding came_to
  refuses why answer e = record { comes_to = e; went = went_nowhere job rows run holds }

  -- So does nothing to obey.
  pub stays : (answer : Obeyed) → went (history_of run) ≡ answer → Obeys job answer rows rows (obeying (Ok tt) run)
  unfolding came_to
  stays answer e = record { comes_to = e; went = went_nowhere job rows run holds }

  module _ (by_hand : Bool) (bytes : List ℕ) where
    pub line_refused : (why : Refusal) → Err why ≡ judged_line by_hand job (history_of run) bytes
        → Obeys job (obeyed_next by_hand job bytes (went (history_of run))) rows rows (obeying (Err why) run)
    unfolding obeyed_next obeyed_as
    line_refused why e = refuses why (obeyed_next by_hand job bytes (went (history_of run))) (rw (← e))

    module _ (said : MergeLine) (judged : Ok said ≡ judged_line by_hand job (history_of run) bytes) where
      pub line_ready : Ready job rows run said.triple said.weight
      line_ready =
          let next = says_next by_hand job (history_of run) said bytes (sym judged) in
          ready job rows run holds said.triple said.weight next.left next.lawful next.weight_is

      pub line_made : (after : Run) (now_rows : List ℕ) → Went job (said.triple ∷ history_of run) rows after now_rows
          → Obeys job (obeyed_next by_hand job bytes (went (history_of run))) rows now_rows (obeying (Ok tt) after)
      unfolding came_to obeyed_next obeyed_as
      line_made after now_rows gone =
          record { comes_to = rw (← judged) (ap went gone.merges); went = went_here job _ after rows now_rows gone }

module _ (job : Job) (size : JobSize) (sized : Sized job size) where
  pub header_broken : (found : Option HeaderLine) → found ≡ None → came_to (Err (LineForm 0)) [] ≡ obeyed_header job found
  unfolding came_to obeyed_header
  header_broken found e = rw e

  module _ (said : HeaderLine) (found : Option HeaderLine) (says : found ≡ Some said) where
    pub other_rule : (rule_number said.rule ≡ rule_number size.rule → ⊥) → came_to (Err OtherHeader) [] ≡ obeyed_header job found
    unfolding came_to obeyed_header
    other_rule other = rw (says, sized.rule_is, ne_eqb _ _ other)

    module _ (same_rule : rule_number said.rule ≡ rule_number size.rule) where
      pub other_modes : (said.modes ≡ size.modes → ⊥) → came_to (Err OtherHeader) [] ≡ obeyed_header job found
      unfolding came_to obeyed_header
      other_modes other = rw (says, sized.rule_is, eq-eqb _ _ same_rule, sized.modes_are, ne_eqb _ _ other)

      module _ (same : said.modes ≡ size.modes) where
        pub other_terms : (said.terms ≡ size.count → ⊥) → came_to (Err OtherHeader) [] ≡ obeyed_header job found
        unfolding came_to obeyed_header
        other_terms other =
            rw (says, sized.rule_is, eq-eqb _ _ same_rule, sized.modes_are, eq-eqb _ _ same, sized.count_is, ne_eqb _ _ other)

        pub same_header : said.terms ≡ size.count → came_to (Ok tt) [] ≡ obeyed_header job found
        unfolding came_to obeyed_header
        same_header counted =
            rw (says, sized.rule_is, eq-eqb _ _ same_rule, sized.modes_are, eq-eqb _ _ same, sized.count_is, eq-eqb _ _ counted)
