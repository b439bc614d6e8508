-- The lines of steps: each of them, and all written one behind the other.
use mathlib.Core.Path.{◌≡◌, refl, ap, ◌∙◌, sym}
use mathlib.Core.List.{List, [], ◌∷◌, ◌++◌, append_assoc, append-nil}
use Prim.Native.Nat.{ℕ, suc, ◌+◌, ◌*◌, ◌<◌, ◌≤◌}
use native.Mathlib.Nat.{zero-add, add-zero}
use native.Mathlib.Numerals.{add-one}
use native.Mathlib.Omega.{arith}
use lib.ListN.{length, get_or, take, length-append}
use lib.Seq.{take-suc, length-take-le, take_all}
use Rattle.lists.proofs.Behind.{Wrote, then_wrote}
use Rattle.lists.proofs.PieceByPiece.{Pieces, pieces_start, pieces_go, pieces_end}
use Rattle.fields.specs.Decimal.{decimal}
use Rattle.fields.specs.Fields.{tabbed}
use Rattle.fields.proofs.Digits.{decimal_short}
use Rattle.text.specs.Output.{line_of}
use Rattle.drops_text.specs.Dropping.{drop_line, drop_lines}

module _ (step count : ℕ) where
  -- The step with its tab, then the drops and LF.
  pub line_parts : (decimal step ++ (9 ∷ [])) ++ (decimal count ++ (10 ∷ [])) ≡ drop_line step count
  unfolding drop_line line_of tabbed
  line_parts = simp append_assoc

  pub line_wrote : {at middle end : ℕ} {before between after : List ℕ} → Wrote at (decimal step ++ (9 ∷ [])) before between middle
      → Wrote middle (decimal count ++ (10 ∷ [])) between after end → middle ≤ length before → Wrote at (drop_line step count) before after end
  line_wrote first second room = rw (← line_parts) (then_wrote first second room)

  pub line_short : step ≤ 65535 → count ≤ 65535 → length (drop_line step count) ≤ 12
  line_short h k =
      omega (
        arith,
        ap length line_parts,
        length-append (decimal step ++ (9 ∷ [])) (decimal count ++ (10 ∷ [])),
        length-append (decimal step) (9 ∷ []),
        length-append (decimal count) (10 ∷ []),
        decimal_short step h,
        decimal_short count k,
      )

-- One step more at the end.
lines_more : (step : ℕ) (front : List ℕ) (count : ℕ) → drop_lines step (front ++ (count ∷ [])) ≡ drop_lines step front ++ drop_line (step + length front) count
unfolding drop_lines
lines_more step [] count = rw (add-zero step) (append-nil (drop_line step count))
lines_more step (first ∷ front) count =
    let e : suc step + length front ≡ step + suc (length front) = omega arith in
    rw (lines_more (suc step) front count, e)
    (sym (append_assoc (drop_line step first) (drop_lines (suc step) front) (drop_line (step + suc (length front)) count)))

-- The lines of the first steps are written.
abbrev pub PuttingDrops : List ℕ → List ℕ → List ℕ → ℕ → ℕ → Type 0
PuttingDrops drops before after at step = Pieces (λ n. drop_lines 0 (take n drops)) 12 0 (length drops) before after at step

module _ (drops before : List ℕ) (room : 0 + 12 * length drops ≤ length before) where
  pub drops_start : PuttingDrops drops before before 0 0
  unfolding drop_lines
  drops_start = pieces_start (λ n. drop_lines 0 (take n drops)) 12 0 (length drops) before room refl

  module _ (after : List ℕ) (at step : ℕ) (p : PuttingDrops drops before after at step) where
    pub drops_go : (next : List ℕ) (end : ℕ) → step < length drops → Wrote at (drop_line step (get_or drops step 0)) after next end
        → end ≤ at + 12 → length next ≡ length after → PuttingDrops drops before next end (step + 1)
    drops_go next end h w near same =
        let more : drop_lines 0 (take (step + 1) drops) ≡ drop_lines 0 (take step drops) ++ drop_line step (get_or drops step 0) =
        ap (λ n. drop_lines 0 (take n drops)) (add-one step)
        ∙ ap (drop_lines 0) (take-suc drops step 0 h)
        ∙ lines_more 0 (take step drops) (get_or drops step 0)
        ∙ ap (λ n. drop_lines 0 (take step drops) ++ drop_line n (get_or drops step 0))
        (zero-add (length (take step drops)) ∙ length-take-le step drops (omega arith)) in
        pieces_go (λ n. drop_lines 0 (take n drops)) 12 0 (length drops) before room after at step p next (drop_line step (get_or drops step 0)) end h more w near same

    pub drops_end : length drops ≤ step → Wrote 0 (drop_lines 0 drops) before after at
    drops_end h =
        rw (take_all (length drops) drops (omega arith)) at
        (pieces_end (λ n. drop_lines 0 (take n drops)) 12 0 (length drops) before room after at step p h)
