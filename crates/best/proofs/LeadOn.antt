-- What is known after the first k sequences, one sequence on, and at the end of all.
use mathlib.Core.Path.{◌≡◌, ap, ◌∙◌, sym, fun_ext}
use mathlib.Core.List.{List, []}
use Prim.Native.Nat.{ℕ, ◌+◌, ◌<◌, ◌≤◌}
use native.Mathlib.Omega.{arith}
use lib.Dec.{eqb}
use lib.ListN.{length, get_or}
use Rattle.lists.specs.Least.{least_of}
use Rattle.lists.specs.Members.{keep}
use Rattle.entities.specs.Limits.{row_width}
use Rattle.entities.specs.declared.Triple.{Triple}
use Rattle.terms.specs.Rows.{terms_of}
use Rattle.tree_weight.specs.code.Promises.{OperatorsOf}
use Rattle.best.specs.declared.search.Lead.{Lead}
use Rattle.best.specs.Sequences.{sequences}
use Rattle.best.specs.Best.{sequence_weight}
use Rattle.best.specs.computed.Lightest.{lightest, least_weight, how_many}
use Rattle.best.specs.code.Numbered.{weight_by, lead_first, Led}
use Rattle.best.proofs.LightestSoFar.{lighter_leads, as_light_counts, heavier_passes, lead_all, reached_all, lead_none, reached_at_most}
use Rattle.best.proofs.LightestBest.{sequences_there}

module _ (modes count : ℕ) (own : List ℕ) where
  abbrev all : List (List Triple)
  all = sequences modes

  abbrev measure : List Triple → ℕ
  measure = weight_by modes count own

  pub lead_starts : (weight : ℕ) → weight ≡ measure (get_or all 0 []) → Led modes count own 0 (record { weight = weight; reached = 0; number = 0 })
  lead_starts weight weighed =
      let none = lead_none measure [] all in
      record { number_in_bounds = sequences_there modes; number_is = sym none.0; weight_is = weighed ∙ ap measure (sym none.0); reached_is = sym none.1 }

  module _ (k : ℕ) (h : k < length (sequences modes)) (lead : Lead) (led : Led modes count own k lead) (weight : ℕ)
      (weighed : weight ≡ measure (get_or all k [])) where
    pub lead_taken : weight < lead.weight → Led modes count own (k + 1) (record { weight = weight; reached = 1; number = k })
    lead_taken l =
        let now = lighter_leads measure [] all k h (omega (arith, weighed, led.weight_is)) in
        record { number_in_bounds = h; number_is = sym now.0; weight_is = weighed ∙ ap measure (sym now.0); reached_is = sym now.1 }

    pub lead_shared : weight ≡ lead.weight → Led modes count own (k + 1) (record { weight = weight; reached = lead.reached + 1; number = lead.number })
    lead_shared e =
        let now = as_light_counts measure [] all k h (omega (arith, weighed, led.weight_is)) in
        record {
          number_in_bounds = led.number_in_bounds;
          number_is = led.number_is ∙ sym now.0;
          weight_is = e ∙ led.weight_is ∙ ap measure (sym now.0);
          reached_is = omega (arith, led.reached_is, now.1);
        }

    pub lead_kept : lead.weight ≤ weight → (weight ≡ lead.weight → ⊥) → Led modes count own (k + 1) lead
    lead_kept l other =
        let now = heavier_passes measure [] all k h (omega (arith, weighed, led.weight_is)) in
        record {
          number_in_bounds = led.number_in_bounds;
          number_is = led.number_is ∙ sym now.0;
          weight_is = led.weight_is ∙ ap measure (sym now.0);
          reached_is = led.reached_is ∙ sym now.1;
        }

    pub reached_small : lead.reached ≤ k
    reached_small = omega (arith, led.reached_is, reached_at_most measure [] all k)

-- After all sequences it is the best of the terms whose operators were weighed.
module _ (modes count : ℕ) (rows own : List ℕ) (made : OperatorsOf modes count rows own) where
  abbrev terms : List (List ℕ)
  terms = terms_of row_width count rows

  same_weights : weight_by modes count own ≡ sequence_weight modes terms
  unfolding sequence_weight
  same_weights = fun_ext (λ history. made.weighs _)

  module _ (lead : Lead) (led : Led modes count own (length (sequences modes)) lead) where
    lead_lightest : lead_first (weight_by modes count own) [] (sequences modes) (length (sequences modes)) ≡ lightest modes terms
    unfolding lightest
    lead_lightest =
        lead_all (weight_by modes count own) [] (sequences modes) (sequences_there modes)
        ∙ ap (λ weight. least_of weight [] (sequences modes)) same_weights

    pub weight_found : lead.weight ≡ least_weight modes terms
    unfolding least_weight
    weight_found =
        led.weight_is ∙ ap (weight_by modes count own) lead_lightest ∙ ap (λ weight. weight (lightest modes terms)) same_weights

    pub reached_found : lead.reached ≡ how_many modes terms
    unfolding how_many least_weight lightest
    reached_found =
        led.reached_is
        ∙ reached_all (weight_by modes count own) [] (sequences modes) (sequences_there modes)
        ∙ ap (λ (weight : List Triple → ℕ). length (keep (λ a. eqb (weight a) (weight (least_of weight [] (sequences modes)))) (sequences modes))) same_weights

    pub sequence_found : get_or (sequences modes) lead.number [] ≡ lightest modes terms
    sequence_found = led.number_is ∙ lead_lightest
