-- Rows laid over a table one at a time.
use Rattle.std.proofs.Common.{◌≡◌, List, [], ◌∷◌, ◌++◌, ℕ, ◌<◌, length, get_or, refl, arith}
use Rattle.tree.specs.Laying.{row_over, laid_over}

-- One row of those ahead.
pub laid_next : (table row rows : List ℕ) → length row ≡ 4
    → laid_over (row_over table (get_or row 0 0) (get_or row 1 0 ∷ (get_or row 2 0 ∷ (get_or row 3 0 ∷ [])))) rows ≡ laid_over table (row ++ rows)
unfolding laid_over
laid_next table [] rows h = absurd (omega arith)
laid_next table (a ∷ []) rows h = absurd (omega arith)
laid_next table (a ∷ (b ∷ [])) rows h = absurd (omega arith)
laid_next table (a ∷ (b ∷ (c ∷ []))) rows h = absurd (omega arith)
laid_next table (a ∷ (b ∷ (c ∷ (d ∷ [])))) rows h = refl
laid_next table (a ∷ (b ∷ (c ∷ (d ∷ (e ∷ row))))) rows h = absurd (omega arith)

-- Fewer than four numbers are no row.
pub laid_ends : (table rows : List ℕ) → length rows < 4 → laid_over table rows ≡ table
unfolding laid_over
laid_ends table [] h = refl
laid_ends table (a ∷ []) h = refl
laid_ends table (a ∷ (b ∷ [])) h = refl
laid_ends table (a ∷ (b ∷ (c ∷ []))) h = refl
laid_ends table (a ∷ (b ∷ (c ∷ (d ∷ rows)))) h = absurd (omega arith)
