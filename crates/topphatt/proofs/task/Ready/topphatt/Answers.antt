-- The rounds that are left end where all do.
use Rattle.std.proofs.Common.{refl, sym, ◌∙◌, ap, add-one, arith}
use lib.ListN.{length-replicate}
use Rattle.terms.specs.Rows.{terms_of}
use Rattle.topphatt.specs.code.Going.{task_with, state_of}
use Rattle.topphatt.proofs.RoundSteps.{state_assigned, rounds_start, rounds_on, rounds_stop, rounds_end}
use Rattle.topphatt.proofs.task.Ready.topphatt.Goals as goal

pub loop-init : goal.loop-init
loop-init c =
    let pre = c.requires.count_le_most_terms in (
      record { pairs = rw pre.1 (length-replicate _ _); fits = pre.0; worked = c.requires.worked },
      omega arith,
      rounds_start c.args.self.now.task c.args.count c.args.rows.now c.args.assigned.now pre.1,
      refl,
    )

pub returns-then-all_assigned : goal.returns-then-all_assigned
unfolding state_of
returns-then-all_assigned c =
    let args = c.args in
    let state = state_of args.count c.loop.rows c.loop.assigned c.loop.weight in
    let task = task_with args.self.now.task (terms_of 9 args.count args.rows.now) in
    let e = sym (rounds_stop task state c.loop.counter c.loop-test.true (sym c.all_assigned.ensures ∙ c.if-all_assigned.true)) ∙ c.loop.invariant.2 in
    record { weight_is = ap (λ s. s.weight) e; assigned_is = ap (λ s. s.assigned) e; pairs = c.loop.invariant.0.pairs; rest = c.loop.invariant.3 }

pub loop-preserved : goal.loop-preserved
loop-preserved c =
    let args = c.args in
    let went = c.round-weight.ensures in
    let state = state_of args.count c.loop.rows c.loop.assigned c.loop.weight in
    let task = task_with args.self.now.task (terms_of 9 args.count args.rows.now) in (
      went.going,
      omega (arith, went.light),
      rw (went.right (terms_of 9 args.count args.rows.now) c.loop.weight, add-one)
          (sym (rounds_on task state c.loop.counter c.loop-test.true (rw (state_assigned args.count c.loop.rows c.loop.assigned c.loop.weight) (sym c.all_assigned.ensures ∙ c.if-all_assigned.false))) ∙ c.loop.invariant.2),
      went.rest ∙ c.loop.invariant.3,
    )

pub returns : goal.returns
unfolding state_of
returns c =
    let args = c.args in
    let state = state_of args.count c.loop.rows c.loop.assigned c.loop.weight in
    let task = task_with args.self.now.task (terms_of 9 args.count args.rows.now) in
    let e = sym (rounds_end task state c.loop.counter c.loop-test.false) ∙ c.loop.invariant.2 in
    record { weight_is = ap (λ s. s.weight) e; assigned_is = ap (λ s. s.assigned) e; pairs = c.loop.invariant.0.pairs; rest = c.loop.invariant.3 }
