-- What a line of a tree's text says, told by its word and the codes behind it.
use mathlib.Core.Path.{◌≡◌, refl, ◌∙◌, sym}
use mathlib.Core.Bool.{Bool, true, false, not, ◌&&◌, true≢false}
use mathlib.Core.List.{List, [], ◌∷◌, map}
use Prim.Native.Nat.{ℕ}
use native.Mathlib.Omega.{arith}
use borrow.Author.Tests.{ne_eqb, eqb-true, ltb-true}
use lib.Dec.{eqb, ltb, eqb-suc-suc}
use lib.ListN.{length, get_or, drop, length-map, length-drop, get_or-map}
use Rattle.lists.specs.Members.{every, alike}
use Rattle.lists.proofs.Tests.{both, not_so}
use Rattle.lists.proofs.Every.{every_at}
use Rattle.lists.proofs.Alike.{alike_self}
use Rattle.entities.specs.Codes.{absent}
use Rattle.fields.specs.Texts.{spelt}
use Rattle.fields.specs.Decimal.{is_number, value_after, value}
use Rattle.fields.specs.Fields.{fields}
use Rattle.fields.specs.code.Reading.{fields_good, opens, fields_behind, FieldsRead}
use Rattle.fields.proofs.Tabbed.{no_tab}
use Rattle.fields.proofs.Openings.{opening, opened_fields, opens_with, two_fields}
use Rattle.nodes_text.specs.TreeInput.{is_code, code_said, says_node, node_row}
use Rattle.nodes_text.specs.code.Reading.{NodeRead}

-- The word of a node's line, and a tab.
abbrev pub node_opening : List ℕ
node_opening = spelt "node\t"

-- A code is the absent child's where its field is `-`.
absent_dash : (field : List ℕ) → is_code field ≡ true → eqb (code_said field) absent ≡ alike field (spelt "-")
unfolding is_code code_said
absent_dash field e = go (alike field (spelt "-")) refl
  where
    go : (b : Bool) → alike field (spelt "-") ≡ b → eqb (code_said field) absent ≡ b
    go true f = rw f
    go false f =
        let g : (is_number field && ltb (value field) absent) ≡ true = rw f at e in
        let h = ltb-true (value field) absent (both (is_number field) _ g).1 in
        rw f (ne_eqb (value field) absent (λ z. omega arith))

said_first : (parts : List (List ℕ)) → get_or (map code_said parts) 0 0 ≡ code_said (get_or parts 0 [])
unfolding code_said alike value value_after
said_first parts = get_or-map code_said parts 0 []

-- No node: what stands in the row is not asked.
node_none : {line after : List ℕ} → says_node (fields line) ≡ false → NodeRead line after false
node_none e = record { good = sym e; row = λ f. absurd (true≢false (sym f)) }

module _ (line after : List ℕ) where
  -- A node's fields are its word and four more.
  pub node_fields : says_node (fields line) ≡ true → (alike (get_or (fields line) 0 []) (spelt "node") ≡ true) × (length (fields line) ≡ 5)
  unfolding says_node
  node_fields e =
      let p = both (alike (get_or (fields line) 0 []) (spelt "node")) _ e in
      (p.0, eqb-true (length (fields line)) 5 (both (eqb (length (fields line)) 5) _ p.1).0)

  node_opens : says_node (fields line) ≡ true → opens node_opening line ≡ true
  unfolding opening
  node_opens e =
      let p = node_fields e in
      opens_with (spelt "node") [] line _ _ (two_fields (spelt "node") (fields line) p.0 (omega (arith, p.1)))

  pub node_closed : opens node_opening line ≡ false → NodeRead line after false
  node_closed e = node_none (not_so (says_node (fields line)) (λ f. true≢false (sym (node_opens f) ∙ e)))

  module _ (open_so : opens node_opening line ≡ true) where
    abbrev behind : List (List ℕ)
    behind = fields_behind node_opening line

    opened_node : fields line ≡ spelt "node" ∷ behind
    unfolding opening every no_tab
    opened_node = opened_fields (spelt "node" ∷ []) line refl open_so

    node_says : says_node (fields line) ≡ (fields_good is_code 4 behind && not (alike (get_or behind 0 []) (spelt "-")))
    unfolding says_node fields_good
    node_says = rw (opened_node, alike_self (spelt "node"), eqb-suc-suc (length behind) 4) (go (eqb (length behind) 4))
      where
        go : (b : Bool) → (b && (every is_code behind && not (alike (get_or behind 0 []) (spelt "-")))) ≡ ((b && every is_code behind) && not (alike (get_or behind 0 []) (spelt "-")))
        go true = refl
        go false = refl

    module _ (room : ℕ) (four : room ≡ 4) (r : Bool) (read : FieldsRead is_code code_said behind room after r) where
      pub node_unread : r ≡ false → NodeRead line after false
      node_unread e =
          let bad : fields_good is_code 4 behind ≡ false = rw four at (sym read.good ∙ e) in
          node_none (node_says ∙ rw bad)

      pub node_told : r ≡ true → NodeRead line after (not (eqb (get_or after 0 0) absent))
      unfolding node_row fields_good
      node_told e =
          let good : fields_good is_code 4 behind ≡ true = rw four at (sym read.good ∙ e) in
          let all = both (eqb (length behind) 4) (every is_code behind) good in
          let size = eqb-true (length behind) 4 all.0 in
          let first : get_or after 0 0 ≡ code_said (get_or behind 0 []) = rw (read.values e) (said_first behind) in
          let dash = absent_dash (get_or behind 0 []) (every_at is_code behind 0 [] (omega arith) all.1) in
          record {
            good = sym (node_says ∙ rw (good, ← dash, ← first));
            row = λ f. read.values e ∙ rw opened_node;
          }

  pub row_of_four : says_node (fields line) ≡ true → length (node_row line) ≡ 4
  unfolding node_row
  row_of_four e = omega (arith, (node_fields e).1, length-map (drop 1 (fields line)) code_said, length-drop 1 (fields line))
