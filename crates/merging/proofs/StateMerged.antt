-- A merge takes a state to a state: the tables, the rows and the notes say what the longer history says.
use mathlib.Core.Path.{◌≡◌, ap, ◌∙◌}
use mathlib.Core.Bool.{true, false}
use mathlib.Core.List.{List, ◌∷◌}
use Prim.Native.Nat.{ℕ, ◌+◌, ◌*◌, ◌<◌, ◌≤◌}
use native.Mathlib.Omega.{arith}
use borrow.Author.Count.{below_more}
use lib.ListN.{length, get_or, set, length-set}
use lib.Seq.{get_or-set_same, get_or-set_other}
use Rattle.entities.specs.declared.Triple.{Triple}
use Rattle.terms.specs.Counted.{counted_of, counted}
use Rattle.terms.specs.Job.{Job}
use Rattle.reduction.specs.code.Promises.{Reduced}
use Rattle.reduction.proofs.CountedReduction.{reduction_adds_up}
use Rattle.history.specs.History.{next_parent}
use Rattle.history.specs.Choice.{weight_in}
use Rattle.history.specs.Run.{run_weight}
use Rattle.history.specs.Drops.{counted_after, drop_in}
use Rattle.history.proofs.DropsAddUp.{add_up}
use Rattle.history.proofs.Holders.{open_below, end_within}
use Rattle.history.proofs.RowsAfter.{weight_in_most}
use Rattle.choosing.specs.code.Couples.{Tied}
use Rattle.merging.specs.declared.run.Run.{Run}
use Rattle.merging.specs.code.Recorded.{merge_at, recorded}
use Rattle.merging.specs.code.State.{history_of, TableOf, Whole, HoldsIn, EntitiesMerged, Noted, ReadyIn, WentIn}
use Rattle.merging.proofs.Recording.{length_recorded, merge_before, merge_here, recorded_before, recorded_next}
use Rattle.merging.proofs.Tables.{tied_merged}

-- The state that a merge makes.
unfoldable pub next_run : Run → Triple → ℕ → ℕ → Run
next_run run triple weight dropped =
    record {
      modes = run.modes;
      rule = run.rule;
      step = run.step + 1;
      count = run.count;
      weight = run.weight + weight;
      tables =
          record {
            opens = set (set (set (set run.tables.opens triple.x false) triple.y false) triple.z false) (2 * run.modes + 1 + run.step) true;
            ends = set run.tables.ends (2 * run.modes + 1 + run.step) (get_or run.tables.ends triple.z 0);
            holders = set run.tables.holders (get_or run.tables.ends triple.z 0) (2 * run.modes + 1 + run.step);
          };
      merges = set run.merges run.step triple;
      weights = set run.weights run.step weight;
      drops = set run.drops run.step dropped;
    }

-- The parent of the next merge, as the state has it.
pub parent_is : (modes : ℕ) (run : Run) → run.modes ≡ modes → 2 * run.modes + 1 + run.step ≡ next_parent modes (history_of run)
unfolding next_parent
parent_is modes run e = rw (e, length_recorded run.merges run.step)

module _ (entities steps : ℕ) (job : Job) (rows : List ℕ) (run : Run) (triple : Triple) (weight : ℕ)
    (room : 3 * steps + 1 ≤ entities) (ready : ReadyIn entities steps job rows run triple weight) where
  holds : HoldsIn entities steps job rows run
  holds = ready.holds

  parent_here : 2 * run.modes + 1 + run.step ≡ next_parent job.modes (history_of run)
  parent_here = parent_is job.modes run holds.modes_are

  parent_in : next_parent job.modes (history_of run) + 1 ≤ entities
  parent_in = rw (← parent_here) (omega (arith, ready.left, holds.few, holds.modes_are, room))

  pub weight_bound : weight ≤ length job.terms
  weight_bound = rw ready.weight_is (weight_in_most job (history_of run) triple)

  -- An open entity stands in the tables.
  module _ (entity : ℕ) (below : entity < next_parent job.modes (history_of run)) where
    pub in_room : entity < entities
    in_room = omega (arith, parent_in)

    pub end_low : get_or run.tables.ends entity 0 ≤ 2 * job.modes
    end_low = rw (holds.tied.ends_are entity in_room) (end_within job.modes (history_of run) holds.lawful entity below)

  pub x_below : triple.x < next_parent job.modes (history_of run)
  x_below = open_below job.modes (history_of run) triple.x ready.lawful.x_open

  pub y_below : triple.y < next_parent job.modes (history_of run)
  y_below = open_below job.modes (history_of run) triple.y ready.lawful.y_open

  pub z_below : triple.z < next_parent job.modes (history_of run)
  z_below = open_below job.modes (history_of run) triple.z ready.lawful.z_open

  module _ (now_rows : List ℕ) (dropped : ℕ)
      (reduced : Reduced run.rule triple (2 * run.modes + 1 + run.step) run.count rows now_rows dropped) where
    next : Run
    next = next_run run triple weight dropped

    step_in : run.step < steps
    step_in = omega (arith, ready.left, holds.few)

    merges : history_of next ≡ triple ∷ history_of run
    unfolding next next_run
    merges = recorded_next run.merges triple run.step (rw holds.whole.merges step_in)

    next_whole : Whole entities steps next
    unfolding next next_run
    next_whole =
        let w = holds.whole in
        record {
          opens = simp length-set w.opens;
          ends = simp length-set w.ends;
          holders = simp length-set w.holders;
          merges = simp length-set w.merges;
          weights = simp length-set w.weights;
          drops = simp length-set w.drops;
        }

    next_tied : Tied entities job.modes (triple ∷ history_of run) next.tables
    unfolding next next_run
    next_tied =
        let w = holds.whole in
        rw parent_here
        (tied_merged entities job.modes (history_of run) run.tables triple holds.tied
        w.opens w.ends w.holders (in_room triple.x x_below) (in_room triple.y y_below) (in_room triple.z z_below)
        (omega (arith, end_low triple.z z_below, holds.few, room)) (omega (arith, parent_in)) parent_in)

    next_rows : counted_of run.count now_rows ≡ counted_after job (triple ∷ history_of run)
    unfolding counted_after
    next_rows = reduced.rows ∙ rw (parent_here, holds.rule_is, holds.rows_are)

    dropped_is : dropped ≡ drop_in job (history_of run) triple
    unfolding drop_in
    dropped_is = reduced.drops_are ∙ rw (parent_here, holds.rule_is, holds.rows_are)

    -- What is dropped was there before.
    pub dropped_bound : dropped ≤ length job.terms
    dropped_bound =
        let before = add_up job (history_of run) in
        let after = reduction_adds_up run.rule triple (2 * run.modes + 1 + run.step) (counted_of run.count rows) in
        omega (arith, reduced.drops_are, after, ap counted holds.rows_are, before)

    next_weight : run.weight + weight ≡ run_weight job (triple ∷ history_of run)
    unfolding run_weight
    next_weight = rw (holds.weight_is, ready.weight_is)

    -- A table with what a rule says of the new merge noted at its step.
    next_table : (rule : List Triple → Triple → ℕ) (table : List ℕ) (value : ℕ) → TableOf rule run table → length table ≡ steps
        → value ≡ rule (history_of run) triple → TableOf rule next (set table run.step value)
    unfolding next next_run
    next_table rule table value so_far whole is =
        below_more
        (λ step.
        get_or (set table run.step value) step 0
        ≡ rule (recorded next.merges step) (merge_at next.merges step))
        run.step
        (λ step h.
        get_or-set_other table run.step step value 0 (omega arith)
        ∙ rw (
          merge_before run.merges triple run.step step h,
          recorded_before run.merges triple run.step step (omega arith),
        )
        (so_far step h))
        (get_or-set_same table run.step value 0 (rw whole step_in)
        ∙ rw (
          merge_here run.merges triple run.step (rw holds.whole.merges step_in),
          recorded_before run.merges triple run.step run.step (omega arith),
        )
        is)

    next_holds : HoldsIn entities steps job now_rows next
    unfolding next next_run
    next_holds =
        record {
          whole = next_whole;
          modes_are = holds.modes_are;
          rule_is = holds.rule_is;
          count_is = holds.count_is;
          some = holds.some;
          few = holds.few;
          light = holds.light;
          inside = omega (arith, ready.left);
          lawful = rw merges (ready.lawful, holds.lawful);
          tied = rw merges next_tied;
          held = reduced.held;
          rows_are = rw merges next_rows;
          weight_is = rw merges next_weight;
          bounded = omega (arith, holds.bounded, weight_bound, holds.light);
          weights_are =
              next_table (weight_in job) run.weights weight holds.weights_are holds.whole.weights ready.weight_is;
          drops_are =
              next_table (drop_in job) run.drops dropped holds.drops_are holds.whole.drops dropped_is;
        }

    pub merged_went : WentIn entities steps job (triple ∷ history_of run) rows (next_run run triple weight dropped) now_rows
    unfolding next next_run
    merged_went = record { holds = next_holds; merges = merges; rest = rw (← holds.count_is) reduced.rest }

-- The state as the code makes it.
pub same_run : (triple : Triple) (weight dropped : ℕ) (before middle after : Run)
    → EntitiesMerged triple before middle → Noted triple weight dropped middle after
    → ◌≡◌ {A = Run}
    (record {
      modes = after.modes;
      rule = after.rule;
      step = after.step;
      count = after.count;
      weight = before.weight + weight;
      tables = after.tables;
      merges = after.merges;
      weights = after.weights;
      drops = after.drops;
    })
    (next_run before triple weight dropped)
unfolding next_run
same_run triple weight dropped before middle after m n =
    let merges_are = rw (m.merges, m.step) at n.merges in
    let weights_are = rw (m.weights, m.step) at n.weights in
    let drops_are = rw (m.drops, m.step) at n.drops in
    let tables_are : middle.tables ≡ (next_run before triple weight dropped).tables =
    λ i. record { opens = m.opens i; ends = m.ends i; holders = m.holders i } in
    λ i.
    record {
      modes = (n.modes ∙ m.modes) i;
      rule = (n.rule ∙ m.rule) i;
      step = (n.step ∙ ap (λ s. s + 1) m.step) i;
      count = (n.count ∙ m.count) i;
      weight = before.weight + weight;
      tables = (n.tables ∙ tables_are) i;
      merges = merges_are i;
      weights = weights_are i;
      drops = drops_are i;
    }
