-- The word asks for a step of the run, or for none.
use mathlib.Core.Path.{◌≡◌, sym, ap, ◌∙◌}
use native.Mathlib.Omega.{arith}
use Rattle.merging.specs.code.State.{history_of}
use Rattle.letters_text.specs.Lettering.{asked, no_step, lettered_at}
use Rattle.letters_text.proofs.StepWord.{step_below}
use Rattle.letters_text.proofs.LineLaws.{steps_put}
use Rattle.letters_text.proofs.put_asked.Goals as goal

pub put_step-requires : goal.put_step-requires
put_step-requires c =
    let finished = c.requires.1.1 in
    let step = step_below _ c.args.word.now _ (sym c.asked_step.ensures ∙ c.in-Some.is) in
    (c.requires.0, (c.requires.1.0, (finished, rw (c.modes-modes.ensures _ _ finished.holds) at step)))

pub returns-in-Some : goal.returns-in-Some
unfolding lettered_at
returns-in-Some c job own finished =
    let modes = c.modes-modes.ensures job own finished.holds in
    rw (ap (λ n. asked n c.args.word.now) (sym modes) ∙ sym c.asked_step.ensures ∙ c.in-Some.is) (c.put_step.ensures job own finished)

pub returns-in-None : goal.returns-in-None
unfolding lettered_at
returns-in-None c job own finished =
    let put = c.put_value in
    let modes = c.modes-modes in
    let same = sym (modes.ensures job own finished.holds) in
    let none : lettered_at job (history_of c.args.run) (asked job.modes c.args.word.now) ≡ no_step modes.result =
    rw (ap (λ n. asked n c.args.word.now) same ∙ sym c.asked_step.ensures ∙ c.in-None.is) (ap no_step same) in
    rw none
    (steps_put modes.result _ _ _ (omega (arith, put.ensures.value.1)) put.ensures.value.0 put.ensures.out_after)
