-- The lines of a run: some steps and then the rest are all of them, and the journal of an unbroken run is its header and the lines of all steps.
use mathlib.Core.Path.{◌≡◌, refl, ap, ◌∙◌, sym}
use mathlib.Core.Bool.{true}
use mathlib.Core.List.{List, [], ◌∷◌, ◌++◌, flat_map, append_assoc}
use Prim.Native.Nat.{ℕ, zero, suc, ◌-◌, ◌<◌, ◌≤◌}
use native.Mathlib.Nat.{sub-zero}
use native.Mathlib.Omega.{arith}
use borrow.Author.Tests.{ne_eqb}
use lib.ListN.{length, take, length-append}
use Rattle.lists.specs.Members.{every}
use Rattle.lists.proofs.Every.{every_cons}
use Rattle.lists.proofs.Joined.{flatMap_joined}
use Rattle.entities.specs.declared.Triple.{Triple}
use Rattle.terms.specs.Job.{Job}
use Rattle.fields.specs.Lines.{is_line}
use Rattle.history.specs.Choice.{weight_in}
use Rattle.history.specs.computed.Choosing.{chosen}
use Rattle.history.specs.computed.Greedy.{greedy}
use Rattle.history.proofs.RunLawful.{greedy_length}
use Rattle.obeying.specs.LineForms.{header_text}
use Rattle.journal.specs.Writing.{line_of, header_behind}
use Rattle.journal.specs.computed.NewText.{greedy_lines, new_text, unbroken}
use Rattle.journal.proofs.Texts.{length_header}
use Rattle.journal.proofs.TextLines.{header_is_line, merge_is_line}

module _ (job : Job) where
  pub greedy_lines_more : (j : ℕ) (history : List Triple)
      → greedy_lines job (suc j) history
      ≡ greedy_lines job j history
      ++ (line_of job (greedy job j history) (chosen job (greedy job j history)) ∷ [])
  unfolding greedy greedy_lines
  greedy_lines_more zero history = refl
  greedy_lines_more (suc j) history =
      ap (λ l. line_of job history (chosen job history) ∷ l) (greedy_lines_more j (chosen job history ∷ history))

  pub lines_on : (j steps : ℕ) (history : List Triple) → j ≤ steps
      → take j (greedy_lines job steps history) ++ greedy_lines job (steps - j) (greedy job j history)
      ≡ greedy_lines job steps history
  unfolding greedy greedy_lines
  lines_on zero steps history h = rw (sub-zero steps)
  lines_on (suc j) zero history h = absurd (omega arith)
  lines_on (suc j) (suc steps) history h =
      let e : suc steps - suc j ≡ steps - j = omega arith in
      rw e
      (ap (λ l. line_of job history (chosen job history) ∷ l)
      (lines_on j steps (chosen job history ∷ history) (omega arith)))

  pub length_greedy_lines : (steps : ℕ) (history : List Triple) → length (greedy_lines job steps history) ≡ steps
  unfolding greedy_lines
  length_greedy_lines zero history = refl
  length_greedy_lines (suc steps) history = ap suc (length_greedy_lines steps (chosen job history ∷ history))

  pub greedy_are_lines : (steps : ℕ) (history : List Triple) → every is_line (greedy_lines job steps history) ≡ true
  unfolding greedy_lines line_of every
  greedy_are_lines zero history = refl
  greedy_are_lines (suc steps) history =
      let merge = chosen job history in
      every_cons is_line (line_of job history merge) (greedy_lines job steps (merge ∷ history))
      (merge_is_line (length history) merge (weight_in job history merge)) (greedy_are_lines steps (merge ∷ history))

module _ (job : Job) where
  -- The lines of an unbroken run.
  unfoldable pub unbroken_lines : List (List ℕ)
  unbroken_lines = header_text job.rule job.modes (length job.terms) ∷ greedy_lines job job.modes []

  pub unbroken_joined : unbroken job ≡ flat_map (λ line. line) unbroken_lines
  unfolding unbroken new_text header_behind unbroken_lines flat_map
  unbroken_joined = rw (sub-zero job.modes)

  pub unbroken_are_lines : every is_line unbroken_lines ≡ true
  unfolding unbroken_lines
  unbroken_are_lines =
      every_cons is_line (header_text job.rule job.modes (length job.terms)) (greedy_lines job job.modes []) (header_is_line job.rule job.modes (length job.terms)) (greedy_are_lines job job.modes [])

  pub length_unbroken_lines : length unbroken_lines ≡ suc job.modes
  unfolding unbroken_lines
  length_unbroken_lines = ap suc (length_greedy_lines job job.modes [])

  -- Behind kept bytes no header is written.
  pub no_header : (kept : ℕ) (history : List Triple) → 0 < kept
      → new_text job kept history ≡ flat_map (λ line. line) (greedy_lines job (job.modes - length history) history)
  unfolding new_text header_behind
  no_header kept history some = rw (ne_eqb kept 0 (λ e. omega arith))

  -- The header and some merge lines, and what a run writes that goes on behind them.
  goes_on : (j : ℕ) → j ≤ job.modes
      → (header_text job.rule job.modes (length job.terms) ++ flat_map (λ line. line) (take j (greedy_lines job job.modes [])))
      ++ new_text job
      (length (header_text job.rule job.modes (length job.terms) ++ flat_map (λ line. line) (take j (greedy_lines job job.modes [])))) (greedy job j [])
      ≡ unbroken job
  unfolding unbroken_lines flat_map
  goes_on j h =
      let header = header_text job.rule job.modes (length job.terms) in
      let all = greedy_lines job job.modes [] in
      let first = flat_map (λ line. line) (take j all) in
      let reached = greedy job j [] in
      let rest = greedy_lines job (job.modes - j) reached in
      let some : 0 < length (header ++ first) = omega (arith, length-append header first, length_header job.rule job.modes (length job.terms)) in
      let left : job.modes - length reached ≡ job.modes - j = omega (arith, greedy_length job j []) in
      ap (λ l. (header ++ first) ++ l)
      (no_header (length (header ++ first)) reached some ∙ ap (λ n. flat_map (λ line. line) (greedy_lines job n reached)) left)
      ∙ append_assoc header first (flat_map (λ line. line) rest)
      ∙ ap (λ l. header ++ l) (sym (flatMap_joined (λ line. line) (take j all) rest) ∙ ap (flat_map (λ line. line)) (lines_on job j job.modes [] h))
      ∙ sym unbroken_joined

  -- So many lines kept, the header among them if there are any.
  pub kept_and_new : (whole : ℕ) → whole - 1 ≤ job.modes
      → flat_map (λ line. line) (take whole unbroken_lines)
      ++ new_text job (length (flat_map (λ line. line) (take whole unbroken_lines))) (greedy job (whole - 1) [])
      ≡ unbroken job
  unfolding unbroken_lines unbroken flat_map greedy
  kept_and_new zero h = refl
  kept_and_new (suc j) h = let e : suc j - 1 ≡ j = omega arith in rw e (goes_on j (omega arith))
