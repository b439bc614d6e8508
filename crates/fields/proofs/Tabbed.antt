-- Fields without tabs parted by tabs are those fields again, and a text's fields parted by tabs are that text.
use mathlib.Core.Path.{◌≡◌, refl, ◌∙◌, sym}
use mathlib.Core.Bool.{Bool, true, false, not}
use mathlib.Core.List.{List, [], ◌∷◌, ◌++◌, append-nil, append_assoc}
use Prim.Native.Nat.{ℕ}
use borrow.Author.Tests.{not-true, eqb-true}
use lib.Dec.{eqb}
use Rattle.lists.specs.Members.{every}
use Rattle.lists.proofs.Every.{every_uncons}
use Rattle.fields.specs.Fields.{fields_after, tabbed}
use Rattle.fields.proofs.FieldsAhead.{fields_head}

-- Any byte but a tab.
unfoldable pub no_tab : ℕ → Bool
no_tab byte = not (eqb byte 9)

tabbed_more : (field : List ℕ) (begun text : List ℕ) → tabbed (field ∷ fields_after begun text) ≡ field ++ (9 ∷ tabbed (fields_after begun text))
unfolding tabbed
tabbed_more field begun text = rw (fields_head begun text)

pub tabbed_fields : (begun text : List ℕ) → tabbed (fields_after begun text) ≡ begun ++ text
unfolding fields_after tabbed
tabbed_fields begun [] = sym (append-nil begun)
tabbed_fields begun (byte ∷ rest) = go (eqb byte 9) refl (tabbed_fields [] rest) (tabbed_fields (begun ++ (byte ∷ [])) rest)
  where
    go : (z : Bool) → eqb byte 9 ≡ z → tabbed (fields_after [] rest) ≡ rest
        → tabbed (fields_after (begun ++ (byte ∷ [])) rest) ≡ (begun ++ (byte ∷ [])) ++ rest
        → tabbed (fields_after begun (byte ∷ rest)) ≡ begun ++ (byte ∷ rest)
    go true e behind on = rw e (tabbed_more begun [] rest ∙ rw (behind, eqb-true byte 9 e))
    go false e behind on = rw e (on ∙ append_assoc begun (byte ∷ []) rest)

-- A field without tabs goes into the one begun.
field_last : (begun field : List ℕ) → every no_tab field ≡ true → fields_after begun field ≡ (begun ++ field) ∷ []
unfolding fields_after no_tab
field_last begun [] e = rw (append-nil begun)
field_last begun (byte ∷ field) e =
    let p = every_uncons no_tab byte field e in
    rw (not-true (eqb byte 9) p.0) (field_last (begun ++ (byte ∷ [])) field p.1 ∙ rw append_assoc)

pub field_ended : (begun field rest : List ℕ) → every no_tab field ≡ true
    → fields_after begun (field ++ (9 ∷ rest)) ≡ (begun ++ field) ∷ fields_after [] rest
unfolding fields_after no_tab
field_ended begun [] rest e = rw (append-nil begun)
field_ended begun (byte ∷ field) rest e =
    let p = every_uncons no_tab byte field e in
    rw (not-true (eqb byte 9) p.0) (field_ended (begun ++ (byte ∷ [])) field rest p.1 ∙ rw append_assoc)

pub fields_tabbed : (field : List ℕ) (parts : List (List ℕ)) → every (every no_tab) (field ∷ parts) ≡ true
    → fields_after [] (tabbed (field ∷ parts)) ≡ field ∷ parts
unfolding tabbed
fields_tabbed field [] e = field_last [] field (every_uncons (every no_tab) field [] e).0
fields_tabbed field (next ∷ parts) e =
    let p = every_uncons (every no_tab) field (next ∷ parts) e in
    field_ended [] field (tabbed (next ∷ parts)) p.0 ∙ rw (fields_tabbed next parts p.1)
