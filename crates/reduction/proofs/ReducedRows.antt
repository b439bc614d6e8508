-- All rows reduced: what the rows ahead become behind those passed, and what stands at the end.
use mathlib.Core.Path.{◌≡◌, refl, ap, ◌∙◌, sym}
use mathlib.Core.List.{List, [], ◌∷◌, ◌++◌}
use Prim.Native.Nat.{ℕ, ◌+◌, ◌-◌, ◌*◌, ◌<◌, ◌≤◌}
use native.Mathlib.Nat.{add-zero, zero-add, sub-zero}
use native.Mathlib.Omega.{arith}
use borrow.Author.Count.{below_more}
use lib.ListN.{length, get_or, take, drop, replicate}
use lib.Seq.{get_or-drop}
use Rattle.entities.specs.declared.Triple.{Triple}
use Rattle.terms.specs.declared.rules.Rule.{Rule}
use Rattle.terms.specs.Counted.{Row, row_of, counted_of, counted}
use Rattle.terms.specs.code.Held.{Held, Worked}
use Rattle.terms.proofs.RowSteps.{rest_on}
use Rattle.terms.proofs.RowPut.{held_none}
use Rattle.terms.proofs.CountedRows.{counted_none, counted_step, counted_end, counted_more}
use Rattle.reduction.specs.Counts.{put_behind, rewritten, reduced_behind, counted_reduction, dropped_count}
use Rattle.reduction.specs.code.Promises.{drop_of, RowReduced, Reduced}
use Rattle.reduction.proofs.CountedReduction.{counted_joined, counted_first, counted_one, counted_empty, dropped_first, dropped_none, counted_behind}

-- While the rows are passed: those passed are reduced, those ahead are as they were, and together they give the reduction and its drops.
pub record Passing (rule : Rule) (triple : Triple) (parent count : ℕ) (before rows : List ℕ) (place drops : ℕ) : Type 0 where
  pub inside : place ≤ count
  pub held : Held 9 place rows
  pub same_length : length rows ≡ length before
  pub rest : drop (9 * place) rows ≡ drop (9 * place) before
  pub gives : counted_reduction rule triple parent (counted_of count before)
      ≡ reduced_behind rule triple parent (counted_of place rows) (counted_of (count - place) (drop (9 * place) before))
  pub adds : dropped_count rule triple parent (counted_of count before)
      ≡ drops + dropped_count rule triple parent (counted_of (count - place) (drop (9 * place) before))
  pub all : counted (counted_of count before) ≡ drops + (counted (counted_of place rows) + counted (counted_of (count - place) (drop (9 * place) before)))

module _ (rule : Rule) (triple : Triple) (parent count : ℕ) (before : List ℕ) where
  pub passing_starts : Passing rule triple parent count before before 0 0
  unfolding counted_reduction
  passing_starts =
      let ahead : counted_of (count - 0) (drop (9 * 0) before) ≡ counted_of count before = rw (sub-zero count) refl in
      record {
        inside = omega arith;
        held = held_none 9 before (omega arith);
        same_length = refl;
        rest = refl;
        gives = rw (ahead, counted_none before);
        adds = rw ahead (sym (zero-add _));
        all = rw (ahead, counted_none before) (omega (arith, counted_empty));
      }

  module _ (worked : Worked count before) (rows : List ℕ) (place drops : ℕ) (p : Passing rule triple parent count before rows place drops) where
    module _ (h : place < count) where
      abbrev here : List ℕ
      here = take 9 (drop (9 * place) before)

      same_row : take 9 (drop (9 * place) rows) ≡ here
      same_row = rw p.rest refl

      -- The next row is as it was, so the rows to it are held.
      next_held : Held 9 (place + 1) rows
      next_held =
          let first : (s : List ℕ) → get_or s (9 * place) 0 ≡ get_or (drop (9 * place) s) 0 0 =
          λ s. ap (λ n. get_or s n 0) (sym (add-zero (9 * place))) ∙ sym (get_or-drop (9 * place) s 0 0) in
          let same : get_or rows (9 * place) 0 ≡ get_or before (9 * place) 0 = rw (first rows, p.rest, ← first before) refl in
          record {
            wide = omega arith;
            room = rw p.same_length (omega (arith, worked.held.room));
            within = below_more (λ q. get_or rows (9 * q) 0 < 8) place p.held.within (rw same (worked.held.within place h));
            zeros =
                below_more (λ q. get_or rows (9 * q) 0 ≡ 0 → take 9 (drop (9 * q) rows) ≡ replicate 9 0) place p.held.zeros
                (λ none. rw p.rest (worked.held.zeros place h (sym same ∙ none)));
          }

      abbrev ahead : List Row
      ahead = counted_of (count - (place + 1)) (drop (9 * (place + 1)) before)

      step : counted_of (count - place) (drop (9 * place) before) ≡ row_of here ∷ ahead
      step = counted_step count place before h

      all_here : counted (counted_of count before) ≡ drops + (counted (counted_of place rows) + ((row_of here).count + counted ahead))
      all_here = p.all ∙ rw step (ap (λ n. drops + (counted (counted_of place rows) + n)) (counted_first (row_of here) ahead))

      -- The rows to the next one stand for no more than all of them.
      pub next_worked : Worked (place + 1) rows
      next_worked =
          let to_here = ap counted (counted_more place rows ∙ ap (λ row. counted_of place rows ++ (row_of row ∷ [])) same_row)
          ∙ counted_joined (counted_of place rows) (row_of here ∷ []) in
          record { held = next_held; few = omega (arith, to_here, counted_one (row_of here), all_here, worked.few) }

      module _ (after : List ℕ) (more : ℕ) (r : RowReduced rule triple parent place rows after more) where
        abbrev new : Row
        new = rewritten triple parent (row_of here)

        now_passed : counted_of (place + 1) after ≡ put_behind rule parent (counted_of place rows) new
        now_passed = rw same_row at r.rows

        drops_now : more ≡ drop_of rule parent new
        drops_now = rw same_row at r.drops_are

        pub passing_on : Passing rule triple parent count before after (place + 1) (drops + more)
        unfolding reduced_behind rewritten
        passing_on =
            let behind = counted_behind rule parent (counted_of place rows) new in
            record {
              inside = omega arith;
              held = r.held;
              same_length = r.same_length ∙ p.same_length;
              rest = r.rest ∙ rest_on 9 place rows before p.rest;
              gives = p.gives ∙ rw (step, now_passed);
              adds = p.adds ∙ rw step (omega (arith, dropped_first rule triple parent (row_of here) ahead, drops_now));
              all = all_here ∙ rw now_passed (omega (arith, behind, drops_now));
            }

        -- What is dropped so far is no more than all rows stand for.
        pub drops_fit : drops + more ≤ 2048
        drops_fit = omega (arith, passing_on.all, worked.few)

    pub passing_ends : place ≡ count → Reduced rule triple parent count before rows drops
    unfolding reduced_behind
    passing_ends end =
        let none = counted_end count place before (omega arith) in
        let gives : counted_reduction rule triple parent (counted_of count before) ≡ counted_of place rows = p.gives ∙ rw none in
        let adds : dropped_count rule triple parent (counted_of count before) ≡ drops = p.adds ∙ rw (none, dropped_none rule triple parent) (add-zero drops) in
        record {
          rows = rw end at (sym gives);
          held = rw end at p.held;
          rest = rw end at p.rest;
          drops_are = sym adds;
        }
