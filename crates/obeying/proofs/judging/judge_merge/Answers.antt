-- Each test refuses what the meaning refuses, and a line that passes them all is to be obeyed.
use mathlib.Core.Path.{◌≡◌, ◌∙◌, sym}
use mathlib.Core.Bool.{true}
use lib.ListN.{length}
use Rattle.terms.specs.Job.{Job}
use Rattle.history.specs.Lawful.{three_open, paired}
use Rattle.merging.specs.code.State.{history_of}
use Rattle.merging.specs.code.Runs.{Holds}
use Rattle.obeying.proofs.LineJudged.{not_next, not_open, not_paired, not_weighed, all_passed}
use Rattle.obeying.proofs.judging.judge_merge.Goals as goal
use Rattle.obeying.proofs.judging.judge_merge.Goals.{Else-not-are_paired, Else-not-three_open, Else-from-merges}

-- What each test that was passed has shown, whatever the job.
is_next : (c : Else-from-merges) → c.args.said.step ≡ length (history_of c.args.run)
is_next c = sym c.from.ensures ∙ c.if-from-merges.false ∙ c.merges.ensures

are_open : (c : Else-not-three_open) (job : Job) → Holds job c.args.rows.now c.args.run
    → three_open job.modes (history_of c.args.run) c.args.said.triple ≡ true
are_open c job holds = sym (c.three_open.ensures job _ holds) ∙ c.if-not-three_open.false

are_paired : (c : Else-not-are_paired) (job : Job) → Holds job c.args.rows.now c.args.run
    → paired job.modes (history_of c.args.run) c.args.said.triple ≡ true
are_paired c job holds = sym (c.are_paired.ensures job _ holds) ∙ c.if-not-are_paired.false

pub returns-then-from-merges : goal.returns-then-from-merges
returns-then-from-merges c job holds =
    let args = c.args in
    rw c.requires.line_value
    (not_next job (history_of args.run) args.said
    (λ e. c.if-from-merges.true (c.from.ensures ∙ e ∙ sym c.merges.ensures)))

pub returns-then-not-three_open : goal.returns-then-not-three_open
returns-then-not-three_open c job holds =
    let args = c.args in
    rw c.requires.line_value
    (not_open job (history_of args.run) args.said (is_next (goal.at.returns-then-not-three_open c).Else-from-merges)
    (sym (c.three_open.ensures job _ holds) ∙ c.if-not-three_open.true))

pub returns-then-not-are_paired : goal.returns-then-not-are_paired
returns-then-not-are_paired c job holds =
    let args = c.args in
    rw c.requires.line_value
    (not_paired job (history_of args.run) args.said (is_next (goal.at.returns-then-not-are_paired c).Else-from-merges) (are_open (goal.at.returns-then-not-are_paired c).Else-not-three_open job holds)
    (sym (c.are_paired.ensures job _ holds) ∙ c.if-not-are_paired.true))

pub returns-then-from-weight_of : goal.returns-then-from-weight_of
returns-then-from-weight_of c job holds =
    let args = c.args in
    rw c.requires.line_value
    (not_weighed job (history_of args.run) args.said (is_next (goal.at.returns-then-from-weight_of c).Else-from-merges) (are_open (goal.at.returns-then-from-weight_of c).Else-not-three_open job holds) (are_paired (goal.at.returns-then-from-weight_of c).Else-not-are_paired job holds)
    (λ e. c.if-from-weight_of.true (c.from-2.ensures ∙ e ∙ sym (c.weight_of.ensures job holds))))

pub returns : goal.returns
returns c job holds =
    let args = c.args in
    all_passed job (history_of args.run) args.said (is_next (goal.at.returns c).Else-from-merges) (are_open (goal.at.returns c).Else-not-three_open job holds) (are_paired (goal.at.returns c).Else-not-are_paired job holds)
    (sym c.from-2.ensures ∙ c.if-from-weight_of.false ∙ c.weight_of.ensures job holds)
