-- A journal from the first state on: nothing to obey, a header that is refused, or the lines behind it.
use Rattle.std.specs.Prelude.{Err, Ok, Result}
use mathlib.Core.Path.{◌≡◌, ◌∙◌, sym}
use mathlib.Core.Bool.{false}
use mathlib.Core.List.{List, [], ◌∷◌}
use Prim.Native.Nat.{ℕ, ◌+◌, ◌-◌}
use native.Mathlib.Omega.{arith}
use lib.ListN.{length, take, drop}
use Rattle.refusal.specs.declared.Refusal.{Refusal}
use Rattle.fields.specs.Lines.{lines, first_line}
use Rattle.fields.proofs.LineSteps.{lines_next}
use Rattle.terms.specs.Job.{Job}
use Rattle.merging.specs.declared.run.Run.{Run}
use Rattle.merging.specs.code.State.{history_of}
use Rattle.merging.specs.code.Runs.{Holds}
use Rattle.obeying.specs.declared.Obeying.{Obeying}
use Rattle.obeying.specs.LineForms.{header_of}
use Rattle.obeying.specs.Obeying.{went, obeyed_header, obeyed_lines, obeyed_texts, obeyed}
use Rattle.obeying.specs.code.Obeys.{obeying, came_to, Obeys}
use Rattle.obeying.proofs.LineObeyed.{refuses, stays}
use Rattle.obeying.proofs.LinesObeyed.{refused_stays}

-- The first line of a text, and the others.
pub text_begins : (bytes : List ℕ) (end : ℕ) → end ≡ 0 + length (first_line (drop 0 bytes)) → (end ≡ 0 → ⊥)
    → lines bytes ≡ take end bytes ∷ lines (drop end bytes)
text_begins bytes end is_end more =
    let e : end - 0 ≡ end = omega arith in
    rw e at (lines_next bytes 0 end is_end more)

module _ (job : Job) (rows read : List ℕ) (run : Run) (holds : Holds job rows run) (none_yet : history_of run ≡ []) where
  pub nothing_to_obey : lines read ≡ [] → Obeys job (obeyed job read) rows rows (obeying (Ok tt) run)
  unfolding obeyed obeyed_texts
  nothing_to_obey e = stays job rows run holds (obeyed job read) (rw (e, none_yet))

  module _ (first : List ℕ) (rest : List (List ℕ)) (texts : lines read ≡ first ∷ rest) (verdict : Result (Unit {0}) Refusal)
      (says : came_to verdict [] ≡ obeyed_header job (header_of first)) where
    all_is : obeyed job read ≡ obeyed_lines false job (came_to verdict []) rest
    unfolding obeyed obeyed_texts
    all_is = rw (texts, says)

    pub header_refused : (why : Refusal) → verdict ≡ Err why → Obeys job (obeyed job read) rows rows (obeying (Err why) run)
    unfolding came_to
    header_refused why e =
        refuses job rows run holds why (obeyed job read) (rw none_yet (sym ((rw e at all_is) ∙ refused_stays false job [] why rest)))

    pub lines_behind : verdict ≡ Ok tt → (now_rows : List ℕ) (found : Obeying)
        → Obeys job (obeyed_lines false job (went (history_of run)) rest) rows now_rows found → Obeys job (obeyed job read) rows now_rows found
    unfolding came_to
    lines_behind e now_rows found obeys = let all = rw e at all_is in rw all (rw none_yet at obeys)
