-- The first of the lightest of the first k, and how many are as light: one more either leads, is counted or changes nothing.
use mathlib.Core.Path.{◌≡◌, refl, ap, ◌∙◌}
use mathlib.Core.Bool.{Bool, true, false, cond}
use mathlib.Core.List.{List, [], ◌∷◌, ◌++◌, Memᴰ}
use Prim.Native.Nat.{ℕ, ◌+◌, ◌<◌, ◌≤◌}
use native.Mathlib.Numerals.{add-one}
use native.Mathlib.Omega.{arith}
use borrow.Author.Tests.{eq-eqb, ne_eqb, lt-ltb, le-ltb}
use lib.Dec.{eqb, ltb}
use lib.ListN.{length, get_or, take, length-append, length-take}
use lib.Seq.{take-suc, take-length}
use Rattle.lists.specs.Least.{best_after, best_of, lighter, least, least_of}
use Rattle.lists.specs.Members.{keep}
use Rattle.lists.proofs.Kept.{keep_joined}
use Rattle.lists.proofs.Least.{best_joined, least_first}
use Rattle.lists.proofs.Narrowing.{any_ascends}
use Rattle.best.specs.code.Numbered.{lead_first, lead_reached}

-- Where no element passes none is kept, and no more are kept than there are.
keep_none_of : {A : Type 0} (test : A → Bool) (l : List A) → ((a : A) → Memᴰ a l → test a ≡ false) → keep test l ≡ []
unfolding keep
keep_none_of test [] none = refl
keep_none_of test (a ∷ l) none = rw (none a (Memᴰ.head refl)) (keep_none_of test l (λ b m. none b (Memᴰ.tail m)))

keep_at_most : {A : Type 0} (test : A → Bool) (l : List A) → length (keep test l) ≤ length l
unfolding keep
keep_at_most test [] = omega arith
keep_at_most test (a ∷ l) = go (test a) (keep_at_most test l)
  where
    go : (b : Bool) → length (keep test l) ≤ length l → length (cond b (a ∷ []) [] ++ keep test l) ≤ length (a ∷ l)
    go true h = omega arith
    go false h = omega arith

-- To start from the first and meet it again changes nothing.
least_start : {A : Type 0} (measure : A → ℕ) (none : A) (l : List A) → 0 < length l → least measure (get_or l 0 none) l ≡ least_of measure none l
unfolding least least_of best_of best_after lighter
least_start measure none [] h = absurd (omega arith)
least_start {A} measure none (a ∷ l) h = rw (same (ltb (measure a) (measure a)) a)
  where
    same : (b : Bool) (a : A) → cond b a a ≡ a
    same true a = refl
    same false a = refl

module _ {A : Type 0} (measure : A → ℕ) (none : A) (list : List A) where
  abbrev lead : ℕ → A
  lead = lead_first measure none list

  pub reached_at_most : (k : ℕ) → lead_reached measure none list k ≤ k
  unfolding lead_reached
  reached_at_most k = omega (arith, keep_at_most (λ a. eqb (measure a) (measure (lead k))) (take k list), length-take k list)

  -- None of the first k is lighter.
  lead_least : (k : ℕ) (a : A) → Memᴰ a (take k list) → measure (lead k) ≤ measure a
  unfolding lead_first
  lead_least k a m =
      (least_first measure (λ b c. Unit) (get_or list 0 none) (take k list) (any_ascends (λ b c. Unit) (λ b c. tt) (get_or list 0 none ∷ take k list))
      ).smallest a (Memᴰ.tail m)

  module _ (k : ℕ) (h : k < length list) where
    abbrev here : A
    here = get_or list k none

    lead_next : lead (k + 1) ≡ cond (ltb (measure here) (measure (lead k))) here (lead k)
    unfolding lead_first least lighter best_after
    lead_next =
        rw (add-one k, take-suc list k none h) (best_joined (lighter measure) (get_or list 0 none) (take k list) (here ∷ []))

    reached_next : lead_reached measure none list (k + 1)
        ≡ length (keep (λ a. eqb (measure a) (measure (lead (k + 1)))) (take k list))
        + length (keep (λ a. eqb (measure a) (measure (lead (k + 1)))) (here ∷ []))
    unfolding lead_reached
    reached_next =
        let test : A → Bool = λ a. eqb (measure a) (measure (lead (k + 1))) in
        let more : take (k + 1) list ≡ take k list ++ (here ∷ []) = rw (add-one k) (take-suc list k none h) in
        ap (λ l. length (keep test l)) more
        ∙ ap length (keep_joined test (take k list) (here ∷ []))
        ∙ length-append (keep test (take k list)) (keep test (here ∷ []))

    -- It is lighter: it leads, alone.
    pub lighter_leads : measure here < measure (lead k) → (lead (k + 1) ≡ here) × (lead_reached measure none list (k + 1) ≡ 1)
    unfolding keep
    lighter_leads l =
        let now : lead (k + 1) ≡ here = lead_next ∙ rw (lt-ltb (measure here) (measure (lead k)) l) in
        let gone = keep_none_of (λ a. eqb (measure a) (measure here)) (take k list)
        (λ a m. ne_eqb (measure a) (measure here) (λ e. omega (arith, lead_least k a m))) in
        (now, reached_next ∙ rw (now, gone, eq-eqb (measure here) (measure here) refl))

    -- It is as light: the lead stays, and it is counted.
    pub as_light_counts : measure here ≡ measure (lead k)
        → (lead (k + 1) ≡ lead k) × (lead_reached measure none list (k + 1) ≡ lead_reached measure none list k + 1)
    unfolding keep lead_reached
    as_light_counts e =
        let now : lead (k + 1) ≡ lead k = lead_next ∙ rw (le-ltb (measure here) (measure (lead k)) (omega arith)) in
        (now, reached_next ∙ rw (now, eq-eqb (measure here) (measure (lead k)) e))

    -- It is heavier: nothing changes.
    pub heavier_passes : measure (lead k) < measure here
        → (lead (k + 1) ≡ lead k) × (lead_reached measure none list (k + 1) ≡ lead_reached measure none list k)
    unfolding keep lead_reached
    heavier_passes l =
        let now : lead (k + 1) ≡ lead k = lead_next ∙ rw (le-ltb (measure here) (measure (lead k)) (omega arith)) in
        (now, reached_next ∙ rw (now, ne_eqb (measure here) (measure (lead k)) (λ e. omega arith)) (omega arith))

  pub lead_all : 0 < length list → lead (length list) ≡ least_of measure none list
  unfolding lead_first
  lead_all some = rw (take-length list) (least_start measure none list some)

  pub reached_all : 0 < length list
      → lead_reached measure none list (length list) ≡ length (keep (λ a. eqb (measure a) (measure (least_of measure none list))) list)
  unfolding lead_reached
  reached_all some = rw (lead_all some, take-length list)

-- Before any the first leads, and none is counted.
pub lead_none : {A : Type 0} (measure : A → ℕ) (none : A) (list : List A)
    → (lead_first measure none list 0 ≡ get_or list 0 none) × (lead_reached measure none list 0 ≡ 0)
unfolding lead_first lead_reached least best_after keep
lead_none measure none list = (refl, refl)
