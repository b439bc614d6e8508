-- Each answer of the call is one arm of its meaning.
use Rattle.best.specs.declared.Least.{Least}
use Rattle.std.specs.Prelude.{Err, Ok, Result}
use mathlib.Core.Path.{◌≡◌, refl, ◌∙◌}
use mathlib.Core.List.{List}
use Prim.Native.Nat.{ℕ, ◌*◌, ◌<◌, ◌≤◌}
use borrow.Author.Tests.{eq-eqb, ne_eqb, lt-ltb, le-ltb}
use lib.ListN.{length}
use Rattle.refusal.specs.declared.Refusal.{Refusal}
use Rattle.refusal.specs.declared.Refusal.TheVariants.{Modes, Room, TooManyToTry}
use Rattle.refusal.proofs.Told.{tells}
use Rattle.terms.specs.Good.{checked}
use Rattle.best.specs.computed.Lightest.{least_weight, how_many}
use Rattle.best.specs.Call.{terms_given, found_among, best_found, sequence_after, Sought}

module _ (most modes : ℕ) (numbers before : List ℕ) where
  -- Refused, nothing altered.
  refuses : (refusal : Refusal) → Err refusal ≡ best_found most modes numbers (length before) → Sought most modes numbers before (Err refusal) before
  unfolding sequence_after
  refuses refusal e = record { told = tells e; sequence_is = refl }

  pub no_modes : modes ≡ 0 → Sought most modes numbers before (Err Modes) before
  unfolding best_found
  no_modes e = refuses Modes (rw (eq-eqb modes 0 e))

  module _ (some : modes ≡ 0 → ⊥) where
    pub many_modes : most < modes → Sought most modes numbers before (Err TooManyToTry) before
    unfolding best_found
    many_modes h = refuses TooManyToTry (rw (ne_eqb modes 0 some, lt-ltb most modes h))

    module _ (few : modes ≤ most) where
      pub bad_terms : (refusal : Refusal) → checked modes numbers ≡ Err refusal → Sought most modes numbers before (Err refusal) before
      unfolding best_found found_among
      bad_terms refusal e = refuses refusal (rw (ne_eqb modes 0 some, le-ltb most modes few, e))

      module _ (count : ℕ) (good : checked modes numbers ≡ Ok count) where
        pub no_room : length before < 3 * modes → Sought most modes numbers before (Err Room) before
        unfolding best_found found_among
        no_room h = refuses Room (rw (ne_eqb modes 0 some, le-ltb most modes few, good, lt-ltb (length before) (3 * modes) h))

        pub finds : 3 * modes ≤ length before → (r : Result Least Refusal) (after : List ℕ)
            → r ≡ Ok (record { weight = least_weight modes (terms_given numbers); reached = how_many modes (terms_given numbers) })
            → after ≡ sequence_after r modes numbers before → Sought most modes numbers before r after
        unfolding best_found found_among
        finds h r after e f =
            record { told = tells (e ∙ rw (ne_eqb modes 0 some, le-ltb most modes few, good, le-ltb (length before) (3 * modes) h)); sequence_is = f }
