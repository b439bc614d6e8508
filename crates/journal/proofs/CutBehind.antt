-- A journal that was obeyed, with the lines that the run writes behind it: cut in those, it is obeyed to a history of the same run.
use mathlib.Core.Path.{◌≡◌, refl, ap, ◌∙◌, sym}
use mathlib.Core.Bool.{false}
use mathlib.Core.List.{List, [], ◌∷◌, ◌++◌, flat_map, append_assoc}
use Prim.Native.Nat.{ℕ, ◌+◌, ◌-◌, ◌*◌, ◌<◌, ◌≤◌}
use native.Mathlib.Omega.{arith}
use lib.ListN.{length, take, length-append}
use lib.Seq.{take-append-add}
use Rattle.lists.proofs.Joined.{flatMap_joined}
use Rattle.entities.specs.declared.Triple.{Triple}
use Rattle.terms.specs.Job.{Job}
use Rattle.fields.specs.Lines.{lines, kept_of}
use Rattle.fields.proofs.LinesJoined.{lines_joined, lines_kept, kept_again, kept_some, whole_in, lines_cut, whole_within}
use Rattle.history.specs.Lawful.{LawfulHistory}
use Rattle.history.specs.computed.Greedy.{greedy, finished}
use Rattle.history.proofs.RunLawful.{greedy_length}
use Rattle.history.proofs.GreedySteps.{greedy_on}
use Rattle.obeying.specs.LineForms.{header_of}
use Rattle.obeying.specs.Obeying.{went, obeyed_lines, obeyed_header, obeyed_texts, obeyed}
use Rattle.journal.specs.computed.NewText.{greedy_lines, new_text}
use Rattle.journal.proofs.GreedyLines.{lines_on, length_greedy_lines, greedy_are_lines, no_header}
use Rattle.journal.proofs.ObeyGreedy.{greedy_obeyed}
use Rattle.obeying.proofs.LinesObeyed.{lines_on_lines}
use Rattle.obeying.proofs.Obedience.{obedient}
use Rattle.journal.proofs.CutObeyed.{CutObeyed}

module _ (job : Job) where
  texts_behind : (texts more : List (List ℕ)) (history : List Triple) → 0 < length texts → obeyed_texts job texts ≡ went history
      → obeyed_texts job (texts ++ more) ≡ obeyed_lines false job (went history) more
  unfolding obeyed_texts
  texts_behind [] more history some e = absurd (omega arith)
  texts_behind (first ∷ rest) more history some e = lines_on_lines false job (obeyed_header job (header_of first)) rest more ∙ rw e

  -- A journal with a line at least, and a cut so many bytes behind it.
  module _ (few : 3 * job.modes ≤ 65535) (light : length job.terms ≤ 65535) (bytes : List ℕ) (history : List Triple)
      (obeys : obeyed job bytes ≡ went history) (some : 0 < length (lines bytes)) (k : ℕ) where
    abbrev kept : List ℕ
    kept = kept_of bytes

    abbrev steps : ℕ
    steps = job.modes - length history

    abbrev ahead : List (List ℕ)
    ahead = greedy_lines job steps history

    -- How many of the lines ahead stand before the cut.
    abbrev j : ℕ
    j = whole_in k ahead

    j_within : j ≤ steps
    j_within = omega (arith, whole_within ahead k, length_greedy_lines job steps history)

    lawful : LawfulHistory job.modes history
    lawful = (obedient job bytes history obeys).lawful

    within : length history ≤ job.modes
    within = (obedient job bytes history obeys).within

    new_is : new_text job (length kept) history ≡ flat_map (λ line. line) ahead
    new_is = no_header job (length kept) history (kept_some bytes some)

    cut_is : take (length kept + k) (kept ++ new_text job (length kept) history) ≡ kept ++ take k (flat_map (λ line. line) ahead)
    cut_is = rw new_is (take-append-add kept (flat_map (λ line. line) ahead) k)

    cut_lines : lines (take (length kept + k) (kept ++ new_text job (length kept) history)) ≡ lines bytes ++ take j ahead
    cut_lines =
        ap lines cut_is
        ∙ lines_joined kept (take k (flat_map (λ line. line) ahead)) (kept_again bytes)
        ∙ rw (lines_kept bytes, lines_cut ahead k (greedy_are_lines job steps history)) refl

    cut_kept : kept_of (take (length kept + k) (kept ++ new_text job (length kept) history)) ≡ kept ++ flat_map (λ line. line) (take j ahead)
    unfolding kept_of
    cut_kept = ap (flat_map (λ line. line)) cut_lines ∙ flatMap_joined (λ line. line) (lines bytes) (take j ahead)

    reached_length : length (greedy job j history) ≡ length history + j
    reached_length = greedy_length job j history

    goes_on : (kept ++ flat_map (λ line. line) (take j ahead))
        ++ new_text job (length (kept ++ flat_map (λ line. line) (take j ahead))) (greedy job j history)
        ≡ kept ++ new_text job (length kept) history
    goes_on =
        let front = flat_map (λ line. line) (take j ahead) in
        let more : 0 < length (kept ++ front) = omega (arith, length-append kept front, kept_some bytes some) in
        let left : job.modes - length (greedy job j history) ≡ steps - j = omega (arith, reached_length) in
        let rest = greedy_lines job (steps - j) (greedy job j history) in
        ap (λ l. (kept ++ front) ++ l)
        (no_header job (length (kept ++ front)) (greedy job j history) more ∙ ap (λ n. flat_map (λ line. line) (greedy_lines job n (greedy job j history))) left)
        ∙ append_assoc kept front (flat_map (λ line. line) rest)
        ∙ ap (λ l. kept ++ l)
        (sym (flatMap_joined (λ line. line) (take j ahead) rest)
        ∙ ap (flat_map (λ line. line)) (lines_on job j steps history j_within)
        ∙ sym new_is)

    same_end : finished job (greedy job j history) ≡ finished job history
    unfolding finished
    same_end =
        let e : j + (job.modes - length (greedy job j history)) ≡ steps = omega (arith, reached_length, j_within) in
        greedy_on job j (job.modes - length (greedy job j history)) history ∙ ap (λ n. greedy job n history) e

    pub cut_behind : CutObeyed job history (kept ++ new_text job (length kept) history)
        (take (length kept + k) (kept ++ new_text job (length kept) history))
    unfolding obeyed
    cut_behind =
        record {
          history = greedy job j history;
          obeys =
              ap (obeyed_texts job) cut_lines
              ∙ texts_behind (lines bytes) (take j ahead) history some obeys
              ∙ greedy_obeyed job few light j steps history lawful (omega (arith, within)) j_within;
          same_end = same_end;
          same_bytes = ap (λ l. l ++ new_text job (length l) (greedy job j history)) cut_kept ∙ goes_on;
        }
