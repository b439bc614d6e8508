-- The lines of merges: put one behind the other, and read by hand.
use mathlib.Core.Path.{◌≡◌, refl, ◌∙◌, sym}
use mathlib.Core.List.{List, [], ◌∷◌, ◌++◌, append_assoc, append-nil}
use Prim.Native.Nat.{ℕ, ◌+◌, ◌*◌, ◌<◌, ◌≤◌}
use native.Mathlib.Omega.{arith}
use lib.ListN.{length, get_or, length-append}
use Rattle.lists.proofs.Behind.{Wrote, wrote_none, then_wrote}
use Rattle.entities.specs.declared.Triple.{Triple}
use Rattle.fields.specs.Texts.{spelt}
use Rattle.fields.specs.Decimal.{decimal}
use Rattle.fields.specs.Fields.{tabbed}
use Rattle.text.specs.Output.{line_of}
use Rattle.text.proofs.PrintedLines.{values_joined}
use Rattle.best.specs.Call.{sequence_numbers}
use Rattle.best_text.specs.Printing.{merge_line, merge_lines, found_text}
use Rattle.best_text.specs.code.MergesRead.{merges_in}

merge_parts : (merge : Triple)
    → ((decimal merge.x ++ (9 ∷ [])) ++ (decimal merge.y ++ (9 ∷ []))) ++ (decimal merge.z ++ (10 ∷ [])) ≡ merge_line merge
unfolding merge_line line_of tabbed
merge_parts merge = simp append_assoc

pub merge_wrote : (merge : Triple) (before : List ℕ) (at : ℕ) → at + 63 ≤ length before → {s1 s2 s3 : List ℕ} {e1 e2 e3 : ℕ}
    → Wrote at (decimal merge.x ++ (9 ∷ [])) before s1 e1 → Wrote e1 (decimal merge.y ++ (9 ∷ [])) s1 s2 e2
    → Wrote e2 (decimal merge.z ++ (10 ∷ [])) s2 s3 e3 → e3 ≤ at + 63 → Wrote at (merge_line merge) before s3 e3
merge_wrote merge before at room a b c near =
    rw (← merge_parts merge) (then_wrote (then_wrote a b (omega (arith, b.behind, c.behind))) c (omega (arith, c.behind)))

merge_lines_joined : (newer older : List Triple) → merge_lines (newer ++ older) ≡ merge_lines older ++ merge_lines newer
unfolding merge_lines
merge_lines_joined [] older = sym (append-nil (merge_lines older))
merge_lines_joined (merge ∷ newer) older =
    rw (merge_lines_joined newer older) (append_assoc (merge_lines older) (merge_lines newer) (merge_line merge))

-- A sequence's numbers say its merges.
pub sequence_read : (history : List Triple) (rest : List ℕ) → merges_in (sequence_numbers history ++ rest) ≡ merges_in rest ++ history
unfolding sequence_numbers merges_in
sequence_read [] rest = sym (append-nil (merges_in rest))
sequence_read (merge ∷ history) rest =
    let three : List ℕ = merge.x ∷ (merge.y ∷ (merge.z ∷ [])) in
    rw (append_assoc (sequence_numbers history) three rest, sequence_read history (three ++ rest))
    (append_assoc (merges_in rest) (merge ∷ []) history)

-- The merge that three numbers say.
abbrev pub merge_read : List ℕ → Triple
merge_read three = record { x = get_or three 0 0; y = get_or three 1 0; z = get_or three 2 0 }

merges_more : (three rest : List ℕ) → length three ≡ 3
    → merge_lines (merges_in (three ++ rest)) ≡ merge_line (merge_read three) ++ merge_lines (merges_in rest)
unfolding merges_in merge_lines
merges_more [] rest size = absurd (omega arith)
merges_more (x ∷ []) rest size = absurd (omega arith)
merges_more (x ∷ (y ∷ [])) rest size = absurd (omega arith)
merges_more (x ∷ (y ∷ (z ∷ []))) rest size = merge_lines_joined (merges_in rest) (record { x = x; y = y; z = z } ∷ [])
merges_more (x ∷ (y ∷ (z ∷ (more ∷ three)))) rest size = absurd (omega arith)

none_read : (ahead : List ℕ) → length ahead < 3 → merges_in ahead ≡ []
unfolding merges_in
none_read [] h = refl
none_read (x ∷ []) h = refl
none_read (x ∷ (y ∷ [])) h = refl
none_read (x ∷ (y ∷ (z ∷ ahead))) h = absurd (omega arith)

-- The lines of the merges passed are written, and those of the numbers ahead are the others.
pub record PuttingMerges (start : ℕ) (numbers before after : List ℕ) (at : ℕ) (ahead : List ℕ) : Type 0 where
  pub done : List ℕ
  pub wrote : Wrote start done before after at
  pub all : done ++ merge_lines (merges_in ahead) ≡ merge_lines (merges_in numbers)
  pub near : at + 21 * length ahead ≤ start + 21 * length numbers
  pub size : length after ≡ length before

module _ (start : ℕ) (numbers before : List ℕ) where
  pub merges_start : PuttingMerges start numbers before before start numbers
  merges_start = record { done = []; wrote = wrote_none start before; all = refl; near = omega arith; size = refl }

  module _ (after : List ℕ) (at : ℕ) where
    pub merges_go : (three rest : List ℕ) → PuttingMerges start numbers before after at (three ++ rest) → length three ≡ 3
        → start + 21 * length numbers ≤ length before → (next : List ℕ) (end : ℕ)
        → Wrote at (merge_line (merge_read three)) after next end → end ≤ at + 63 → length next ≡ length after
        → PuttingMerges start numbers before next end rest
    merges_go three rest p size room next end w near same =
        let line = merge_line (merge_read three) in
        let fewer : at + 21 * (3 + length rest) ≤ start + 21 * length numbers = omega (arith, p.near, length-append three rest) in
        let lines : p.done ++ (line ++ merge_lines (merges_in rest)) ≡ merge_lines (merges_in numbers) = rw (← merges_more three rest size) p.all in
        record {
          done = p.done ++ line;
          wrote = then_wrote p.wrote w (omega arith);
          all = append_assoc p.done line (merge_lines (merges_in rest)) ∙ lines;
          near = omega arith;
          size = same ∙ p.size;
        }

    pub merges_end : (ahead : List ℕ) → PuttingMerges start numbers before after at ahead → length ahead < 3
        → Wrote start (merge_lines (merges_in numbers)) before after at
    unfolding merge_lines
    merges_end ahead p h =
        let all : merge_lines (merges_in numbers) ≡ p.done = sym p.all ∙ rw (none_read ahead h) (append-nil p.done) in
        rw all p.wrote

-- What is found, part by part.
pub found_wrote : (weight reached : ℕ) (first : List Triple) (before : List ℕ) → {s1 s2 s3 : List ℕ} {e1 e2 e3 : ℕ}
    → Wrote 0 (spelt "least\t" ++ (decimal weight ++ (10 ∷ []))) before s1 e1
    → Wrote e1 (spelt "reached\t" ++ (decimal reached ++ (10 ∷ []))) s1 s2 e2
    → Wrote e2 (merge_lines first) s2 s3 e3 → e2 ≤ length before → Wrote 0 (found_text weight reached first) before s3 e3
unfolding found_text
found_wrote weight reached first before a b c h =
    rw (← values_joined (spelt "least") (decimal weight) (spelt "reached") (decimal reached) (merge_lines first))
    (then_wrote (then_wrote a b (omega (arith, b.behind))) c h)
