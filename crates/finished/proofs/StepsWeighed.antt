-- What a step of a run weighs is at most what its node weighs in the tree: each row there is the image of an input row, or gone.
use mathlib.Core.Path.{◌≡◌, refl, ap, ◌∙◌, sym}
use mathlib.Core.Bool.{Bool, true, false}
use mathlib.Core.List.{List, [], ◌∷◌}
use mathlib.Core.Logic.{⊎_elim}
use Prim.Native.Nat.{ℕ, zero, suc, ◌+◌, ◌*◌, ◌<◌, ◌≤◌}
use native.Mathlib.Omega.{arith}
use borrow.Author.Tests.{eqb-true, ltb-true}
use lib.Dec.{eqb, ltb}
use lib.ListN.{length}
use Rattle.lists.specs.Counting.{same, occurrences}
use Rattle.lists.specs.Members.{every}
use Rattle.lists.proofs.Totals.{total}
use Rattle.lists.proofs.Sums.{sum_of, sum_map, sum_occurrences}
use Rattle.entities.specs.declared.Triple.{Triple}
use Rattle.terms.specs.Job.{Job}
use Rattle.terms.specs.Letters.{letter_of, counted_letter}
use Rattle.terms.specs.Weight.{term_letter, term_weight, weight_of}
use Rattle.history.specs.History.{rows_after}
use Rattle.history.specs.Images.{image}
use Rattle.history.specs.Choice.{weight_in}
use Rattle.history.specs.Run.{run_weight}
use Rattle.history.specs.Lawful.{Lawful, LawfulHistory}
use Rattle.history.proofs.RowsAfter.{length_rows_after}
use Rattle.history.proofs.Images.{image_or_gone}
use Rattle.tree_weight.specs.Weight.{edge_under, edges, node_letter, node_weight}
use Rattle.lists.proofs.SumsCompared.{sum_same, sum_by_place}
use Rattle.finished.proofs.Merged.{by_edge}
use Rattle.history.proofs.OpenOver.{open_over, sum_image}
use Rattle.finished.proofs.EdgesMerged.{edge_in, edge_at, newest_edge, older_edge}

-- The three are different, so an entity is at an edge of theirs just where it is that edge's.
module _ (modes : ℕ) (history : List Triple) (triple : Triple) (lawful : Lawful modes history triple) (entity : ℕ) where
  abbrev At : ℕ → Type 0
  At edge = same (edge_in triple entity) edge ≡ same entity (by_edge triple edge)

  at_each : At 0 × At 1 × At 2
  unfolding edge_in by_edge same
  at_each = go (eqb entity triple.x) refl (eqb entity triple.y) refl (eqb entity triple.z) refl
    where
      go : (x : Bool) → eqb entity triple.x ≡ x → (y : Bool) → eqb entity triple.y ≡ y → (z : Bool) → eqb entity triple.z ≡ z
          → At 0 × At 1 × At 2
      go true p true q z r = absurd (lawful.x_not_y (sym (eqb-true entity triple.x p) ∙ eqb-true entity triple.y q))
      go true p false q true r = absurd (lawful.x_not_z (sym (eqb-true entity triple.x p) ∙ eqb-true entity triple.z r))
      go true p false q false r = (rw p, rw (p, q), rw (p, r))
      go false p true q true r = absurd (lawful.y_not_z (sym (eqb-true entity triple.y q) ∙ eqb-true entity triple.z r))
      go false p true q false r = (rw (p, q), rw (p, q), rw (p, q, r))
      go false p false q true r = (rw (p, q, r), rw (p, q, r), rw (p, q, r))
      go false p false q false r = (rw (p, q, r), rw (p, q, r), rw (p, q, r))

  pub at_edge : (edge : ℕ) → edge < 3 → At edge
  at_edge zero h = at_each.0
  at_edge (suc zero) h = at_each.1
  at_edge (suc (suc zero)) h = at_each.2
  at_edge (suc (suc (suc edge))) h = absurd (omega arith)

-- Each node's edge over each leaf is that of the merges.
abbrev pub EdgesKnown : ℕ → List ℕ → List Triple → Type 0
EdgesKnown modes table history =
    (node leaf : ℕ) → node < length history → leaf < 2 * modes → edge_under table (suc modes) node (modes + leaf) ≡ edge_at modes history node leaf

-- The row's indices are below 2n.
abbrev below : ℕ → List ℕ → Bool
below modes term = every (λ index. ltb index (2 * modes)) term

module _ (modes : ℕ) (table : List ℕ) (merge : Triple) (history : List Triple) (lawful : Lawful modes history merge)
    (known : EdgesKnown modes table (merge ∷ history)) where
  counted : (term : List ℕ) → below modes term ≡ true → (edge : ℕ) → edge < 3
      → occurrences edge (edges modes table (length history) term) ≡ occurrences (by_edge merge edge) (image modes history term)
  unfolding edges
  counted term low edge h =
      let climbed : ℕ → ℕ = λ index. edge_under table (suc modes) (length history) (modes + index) in
      sym (sum_occurrences edge (edges modes table (length history) term))
      ∙ sum_map (λ a. same a edge) climbed term
      ∙ sum_same (λ index. ltb index (2 * modes)) (λ index. same (climbed index) edge) (λ index. same (open_over modes history index) (by_edge merge edge))
      (λ index l.
      ap (λ a. same a edge) (known (length history) index (omega arith) (ltb-true index (2 * modes) l) ∙ newest_edge modes merge history index)
      ∙ at_edge modes history merge lawful (open_over modes history index) edge h)
      term low
      ∙ sym (sum_image modes history (λ entity. same entity (by_edge merge edge)) term)
      ∙ sum_occurrences (by_edge merge edge) (image modes history term)

  node_weighs : (term : List ℕ) → below modes term ≡ true → term_weight merge (image modes history term) ≡ node_weight modes table term (length history)
  unfolding node_weight node_letter term_weight term_letter by_edge
  node_weighs term low = rw (counted term low 0 (omega arith), counted term low 1 (omega arith), counted term low 2 (omega arith))

weightless : (triple : Triple) → term_weight triple [] ≡ 0
unfolding term_weight term_letter counted_letter occurrences letter_of
weightless triple = refl

-- What all terms weigh at a node.
abbrev pub all_at : List ℕ → Job → ℕ → ℕ
all_at table job node = sum_of (λ term. node_weight job.modes table term node) job.terms

module _ (job : Job) (table : List ℕ) (low : every (below job.modes) job.terms ≡ true) where
  step_at_most : (merge : Triple) (history : List Triple) → Lawful job.modes history merge → EdgesKnown job.modes table (merge ∷ history)
      → weight_in job history merge ≤ all_at table job (length history)
  unfolding weight_in weight_of
  step_at_most merge history lawful known =
      let images : List ℕ → ℕ = λ term. term_weight merge (image job.modes history term) in
      let at_most : sum_of (term_weight merge) (rows_after job history) ≤ sum_of images job.terms =
      sum_by_place (term_weight merge) images [] [] (rows_after job history) job.terms (length_rows_after job history)
      (λ place h.
      ⊎_elim
      (λ gone. rw gone (rw (weightless merge) (omega arith)))
      (λ there. rw there (omega arith))
      (image_or_gone job history place h)) in
      let as_nodes : sum_of images job.terms ≡ all_at table job (length history) =
      sum_same (below job.modes) images (λ term. node_weight job.modes table term (length history))
      (λ term l. node_weighs job.modes table merge history lawful known term l) job.terms low in
      omega arith

  pub run_at_most : (history : List Triple) → LawfulHistory job.modes history → EdgesKnown job.modes table history
      → run_weight job history ≤ total (all_at table job) (length history)
  unfolding run_weight total
  run_at_most [] lawful known = omega arith
  run_at_most (merge ∷ history) lawful known =
      let before = run_at_most history lawful.1
      (λ node leaf h l. known node leaf (omega arith) l ∙ older_edge job.modes merge history node leaf (λ e. omega arith)) in
      omega (arith, step_at_most merge history lawful.0 known)
