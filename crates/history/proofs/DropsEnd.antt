-- How a whole run ends: every number left in a row is the root, and by the published rule the last merge drops all that is left.
use mathlib.Core.Path.{◌≡◌, refl, ap, ◌∙◌}
use mathlib.Core.Bool.{Bool, true, false, cond}
use mathlib.Core.List.{List, [], ◌∷◌, map}
use mathlib.Core.Logic.{⊎_elim}
use Prim.Native.Nat.{ℕ, ◌*◌}
use native.Mathlib.Omega.{arith}
use borrow.Author.Tests.{eqb-false, eq-eqb, ltb-true, le-leb}
use lib.Dec.{eqb, ltb}
use lib.ListN.{get_or}
use Rattle.lists.specs.Counting.{sum}
use Rattle.lists.specs.Members.{every}
use Rattle.lists.proofs.Every.{every_at, every_by_place, every_also, every_mapped, every_uncons}
use Rattle.entities.specs.declared.Triple.{Triple}
use Rattle.terms.specs.declared.rules.Rule.{Rule}
use Rattle.terms.specs.declared.rules.Rule.TheVariants.{Published}
use Rattle.terms.specs.Counted.{Row, terms_in, counted}
use Rattle.terms.specs.Job.{Job}
use Rattle.reduction.specs.Reduction.{replacement, rewriting, dropped, reduction}
use Rattle.reduction.specs.Counts.{rewritten, dropped_count}
use Rattle.reduction.specs.code.Promises.{drop_of}
use Rattle.reduction.proofs.ByPlace.{length_reduction, reduced_at}
use Rattle.reduction.proofs.CountedReduction.{reduction_adds_up, dropped_first, dropped_none}
use Rattle.reduction.proofs.SortedRight.{every_sorted}
use Rattle.history.specs.History.{next_parent, is_open, rows_after}
use Rattle.history.specs.Drops.{counted_after, AllSteps, OnlyTheRoot, NoneIsLeft}
use Rattle.history.proofs.Holders.{parent_open, stays_open}
use Rattle.history.proofs.OpenSums.{one_root}
use Rattle.history.proofs.DropsAddUp.{same_rows, add_up}

-- What a merge makes of open entities is open after it.
module _ (modes : ℕ) (merge : Triple) (history : List Triple) where
  abbrev parent : ℕ
  parent = next_parent modes history

  replaced_open : (number : ℕ) → is_open modes history number ≡ true → is_open modes (merge ∷ history) (replacement merge parent number) ≡ true
  unfolding replacement
  replaced_open number o = go (eqb number merge.x) refl (eqb number merge.y) refl (eqb number merge.z) refl
    where
      go : (x : Bool) → eqb number merge.x ≡ x → (y : Bool) → eqb number merge.y ≡ y → (z : Bool) → eqb number merge.z ≡ z
          → is_open modes (merge ∷ history) (cond x parent (cond y parent (cond z parent number))) ≡ true
      go true ex y ey z ez = parent_open modes merge history
      go false ex true ey z ez = parent_open modes merge history
      go false ex false ey true ez = parent_open modes merge history
      go false ex false ey false ez =
          stays_open modes merge history number o
          (record { not_x = eqb-false _ _ ex; not_y = eqb-false _ _ ey; not_z = eqb-false _ _ ez })

  rewriting_open : (term : List ℕ) → every (is_open modes history) term ≡ true
      → every (is_open modes (merge ∷ history)) (rewriting merge parent term) ≡ true
  unfolding rewriting
  rewriting_open term e =
      every_sorted (is_open modes (merge ∷ history)) (map (replacement merge parent) term)
      (every_mapped (is_open modes history) (is_open modes (merge ∷ history)) (replacement merge parent) replaced_open term e)

  reduction_open : (rule : Rule) (terms : List (List ℕ)) → every (every (is_open modes history)) terms ≡ true
      → every (every (is_open modes (merge ∷ history))) (reduction rule merge parent terms) ≡ true
  unfolding every
  reduction_open rule terms e =
      let opens = every (is_open modes (merge ∷ history)) in
      let size = length_reduction rule merge parent terms in
      every_by_place opens (reduction rule merge parent terms) []
      (λ place h.
      ⊎_elim
      (λ gone. ap opens gone)
      (λ new. ap opens new ∙ rewriting_open (get_or terms place []) (every_at (every (is_open modes history)) terms place [] (omega arith) e))
      (reduced_at rule merge parent terms place (omega arith)))

module _ (job : Job) (indices : every (every (λ index. ltb index (2 * job.modes))) job.terms ≡ true) where
  rows_open : (history : List Triple) → every (every (is_open job.modes history)) (rows_after job history) ≡ true
  unfolding rows_after is_open
  rows_open [] =
      every_also (every (λ index. ltb index (2 * job.modes))) (every (is_open job.modes []))
      (λ term e.
      every_also (λ index. ltb index (2 * job.modes)) (is_open job.modes [])
      (λ index b. le-leb index (2 * job.modes) (omega (arith, ltb-true index (2 * job.modes) b))) term e)
      job.terms indices
  rows_open (merge ∷ history) = reduction_open job.modes merge history job.rule (rows_after job history) (rows_open history)

-- Open entities are the root alone once all steps are made.
all_root : (job : Job) (history : List Triple) → AllSteps job history → (term : List ℕ)
    → every (is_open job.modes history) term ≡ true → every (λ number. eqb number (3 * job.modes)) term ≡ true
all_root job history steps term e =
    every_also (is_open job.modes history) (λ number. eqb number (3 * job.modes))
    (λ number o. eq-eqb number (3 * job.modes) ((one_root job.modes history steps.lawful steps.all steps.some_modes).alone number o))
    term e

pub only_the_root : OnlyTheRoot
only_the_root job history steps =
    every_also (every (is_open job.modes history)) (every (λ number. eqb number (3 * job.modes))) (all_root job history steps)
    (rows_after job history) (rows_open job steps.indices history)

-- Where every row is dropped, all that the rows stood for is.
drops_all : (rule : Rule) (merge : Triple) (parent : ℕ) (rows : List Row)
    → every (λ term. dropped rule parent (rewriting merge parent term)) (terms_in rows) ≡ true
    → dropped_count rule merge parent rows ≡ counted rows
unfolding terms_in counted sum drop_of rewritten
drops_all rule merge parent [] e = dropped_none rule merge parent
drops_all rule merge parent (row ∷ rows) e =
    let p = every_uncons (λ term. dropped rule parent (rewriting merge parent term)) row.term (terms_in rows) e in
    dropped_first rule merge parent row rows ∙ rw (p.0, drops_all rule merge parent rows p.1)

-- By the published rule the last merge drops every row.
last_drops : (job : Job) (merge : Triple) (history : List Triple) → AllSteps job (merge ∷ history) → job.rule ≡ Published
    → counted (counted_after job (merge ∷ history)) ≡ 0
unfolding counted_after dropped next_parent
last_drops job merge history steps rule =
    let parent = next_parent job.modes history in
    let root : parent ≡ 3 * job.modes = omega (arith, steps.all) in
    let gone : every (λ term. dropped job.rule parent (rewriting merge parent term)) (rows_after job history) ≡ true =
    every_also (every (is_open job.modes history)) (λ term. dropped job.rule parent (rewriting merge parent term))
    (λ term e.
    ap (λ by. dropped by parent (rewriting merge parent term)) rule
    ∙ ap (λ all. every (λ number. eqb number all) (rewriting merge parent term)) root
    ∙ all_root job (merge ∷ history) steps (rewriting merge parent term) (rewriting_open job.modes merge history term e))
    (rows_after job history) (rows_open job steps.indices history) in
    omega (
      arith,
      reduction_adds_up job.rule merge parent (counted_after job history),
      drops_all job.rule merge parent (counted_after job history) (rw (same_rows job history) gone),
    )

pub none_is_left : NoneIsLeft
none_is_left job [] steps rule = absurd (omega (arith, steps.all, steps.some_modes))
none_is_left job (merge ∷ history) steps rule =
    let none = last_drops job merge history steps rule in
    (none, omega (arith, add_up job (merge ∷ history)))
