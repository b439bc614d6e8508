-- Document 01's words for the choice of a step leave no room: two triples that fit them are the same.
use mathlib.Core.Path.{◌≡◌, ap, ◌∙◌, sym}
use mathlib.Core.List.{List}
use mathlib.Core.Logic.{⊎_elim}
use native.Mathlib.Omega.{arith}
use Rattle.entities.specs.declared.Triple.{Triple}
use Rattle.terms.specs.Job.{Job}
use Rattle.history.specs.Lawful.{LawfulHistory, Pair, Sooner}
use Rattle.history.specs.computed.Pairs.{named}
use Rattle.history.specs.Choice.{weight_in, Chosen, OneChosen}
use Rattle.history.proofs.Names.{named_triple}

not_both : (p q : Pair) → Sooner p q → Sooner q p → ⊥
not_both p q h k =
    ⊎_elim
    (λ less. ⊎_elim (λ more. omega arith) (λ same. omega arith) k)
    (λ same. ⊎_elim (λ more. omega arith) (λ back. omega arith) k)
    h

module _ (job : Job) (history : List Triple) (lawful : LawfulHistory job.modes history) where
  pub chosen_one : (one other : Triple) → Chosen job history one → Chosen job history other → one ≡ other
  chosen_one one other c d =
      let same : weight_in job history one ≡ weight_in job history other =
      omega (arith, c.least other d.lawful, d.least one c.lawful) in
      let by_names : c.name ≡ d.name → one ≡ other =
      λ e.
      sym (named_triple job.modes history lawful one c.lawful c.name c.names)
      ∙ ap (named job.modes history) e
      ∙ named_triple job.modes history lawful other d.lawful d.name d.names in
      ⊎_elim by_names
      (λ sooner.
      ⊎_elim (λ e. by_names (sym e)) (λ back. absurd (not_both c.name d.name sooner back))
      (d.first one c.lawful same c.name c.names))
      (c.first other d.lawful (sym same) d.name d.names)

pub one_chosen : OneChosen
one_chosen job history lawful one other c d = chosen_one job history lawful one other c d
