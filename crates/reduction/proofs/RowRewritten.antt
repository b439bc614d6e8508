-- A row whose term was rewritten where it stands.
use mathlib.Core.Path.{◌≡◌, ap, ◌∙◌, sym}
use mathlib.Core.List.{List, ◌++◌}
use Prim.Native.Nat.{ℕ, ◌<◌}
use native.Mathlib.Omega.{arith}
use borrow.Rule.Slice.PartMut.{put_mid, post_of}
use lib.ListN.{length, get_or, take, get_or-append}
use lib.Seq.{drop_at, take_at, get_or-take, get_or-drop, length-take-le}
use Rattle.lists.specs.Written.{written_at}
use Rattle.lists.proofs.Written.{put_written, drop_written}
use Rattle.entities.specs.declared.Triple.{Triple}
use Rattle.terms.specs.Rows.{term}
use Rattle.terms.proofs.RowSteps.{length_term}
use Rattle.reduction.specs.Reduction.{rewriting}
use Rattle.reduction.specs.code.Promises.{Rewritten}
use Rattle.reduction.proofs.SortedRight.{length_rewriting}

module _ (row : List ℕ) (short : get_or row 0 0 < 8) (room : 8 < length row) where
  within : get_or row 0 0 < length row
  within = omega arith

  module _ (triple : Triple) (parent : ℕ) (part : List ℕ) (e : part ≡ rewriting triple parent (term row)) where
    first_kept : get_or (put_mid 1 (get_or row 0 0) row part) 0 0 ≡ get_or row 0 0
    first_kept =
        let one : length (take 1 row) ≡ 1 = length-take-le 1 row (omega arith) in
        get_or-append (take 1 row) (part ++ post_of 1 (get_or row 0 0) row) 0 0 (omega arith) ∙ get_or-take 1 row 0 0 (omega arith)

    length_part : length part ≡ get_or row 0 0
    length_part = ap length e ∙ length_rewriting triple parent (term row) ∙ length_term row within

    -- The count stands behind the term.
    count_kept : get_or (put_mid 1 (get_or row 0 0) row part) 8 0 ≡ get_or row 8 0
    count_kept =
        let put = put_written 1 part row (get_or row 0 0) length_part in
        let behind = drop_written 1 part row (omega (arith, length_part)) 8 (omega (arith, length_part)) in
        rw put (sym (get_or-drop 8 (written_at 1 part row) 0 0) ∙ ap (λ l. get_or l 0 0) behind ∙ get_or-drop 8 row 0 0)

    pub row_rewritten : Rewritten triple parent row (put_mid 1 (get_or row 0 0) row part)
    unfolding term
    row_rewritten =
        record {
          same_length = first_kept;
          new_term =
              rw (first_kept, drop_at (take 1 row) (part ++ post_of 1 (get_or row 0 0) row) 1 (length-take-le 1 row (omega arith)))
              (take_at part (post_of 1 (get_or row 0 0) row) (get_or row 0 0) length_part ∙ e);
          same_count = count_kept;
        }
