-- What callers take from a reduction of work rows: the terms are reduced, and the rows stand for no more than before.
use mathlib.Core.Path.{◌≡◌, ap, ◌∙◌, sym}
use mathlib.Core.List.{List}
use Prim.Native.Nat.{ℕ}
use native.Mathlib.Omega.{arith}
use Rattle.entities.specs.declared.Triple.{Triple}
use Rattle.terms.specs.declared.rules.Rule.{Rule}
use Rattle.terms.specs.Rows.{terms_of}
use Rattle.terms.specs.Counted.{counted_of, terms_in}
use Rattle.terms.specs.code.Held.{Worked}
use Rattle.terms.proofs.CountedRows.{terms_counted}
use Rattle.reduction.specs.Reduction.{reduction}
use Rattle.reduction.specs.code.Promises.{Reduced}
use Rattle.reduction.proofs.CountedReduction.{counts_change_no_row, reduction_adds_up}

module _ (rule : Rule) (triple : Triple) (parent count : ℕ) (before after : List ℕ) (drops : ℕ)
    (reduced : Reduced rule triple parent count before after drops) where
  pub reduced_terms : terms_of 9 count after ≡ reduction rule triple parent (terms_of 9 count before)
  reduced_terms =
      sym (terms_counted count after)
      ∙ ap terms_in reduced.rows
      ∙ counts_change_no_row rule triple parent (counted_of count before)
      ∙ ap (reduction rule triple parent) (terms_counted count before)

  pub reduced_worked : Worked count before → Worked count after
  reduced_worked worked =
      record {
        held = reduced.held;
        few =
            rw reduced.rows
            (omega (arith, reduction_adds_up rule triple parent (counted_of count before), worked.few));
      }
