-- Two strings of a tree clash exactly once: one step up from a leaf changes their clashes at one node only, so that the clashes with another leaf
-- and 1 where that leaf is under the code are 1 all the way up.
use mathlib.Core.Path.{◌≡◌, refl, ap, ◌∙◌, sym}
use mathlib.Core.Bool.{Bool, true, false}
use mathlib.Core.List.{List, [], ◌∷◌, map}
use Prim.Native.Nat.{ℕ, zero, suc, ◌+◌, ◌*◌, ◌%◌, ◌<◌, ◌≤◌}
use native.Mathlib.Omega.{arith}
use borrow.Author.Tests.{eqb-true, eqb-false}
use lib.Dec.{eqb}
use lib.ListN.{length}
use Rattle.lists.specs.Counting.{sum, same}
use Rattle.lists.proofs.Sums.{sum_of, sum_map, sum_listed, same_none}
use Rattle.lists.proofs.Totals.{total, total_none, total_apart, total_changed}
use Rattle.terms.specs.declared.letters.Letter.{Letter}
use Rattle.terms.specs.declared.letters.Letter.TheVariants.{Nothing, X, Y, Z}
use Rattle.terms.specs.Letters.{not_none}
use Rattle.tree.specs.Table.{nodes, place_of_code, climb}
use Rattle.tree.specs.OneTree.{root_of}
use Rattle.tree.proofs.AcceptedParts.{accepted_parts}
use Rattle.tree.proofs.AcceptedTree.{accepted_says}
use Rattle.tree.proofs.OneTreeSays.{OneTreeSays}
use Rattle.tree.proofs.Under.{above}
use Rattle.strings.specs.Strings.{edge_letter, majorana_letter, string}
use Rattle.strings.specs.Products.{letters_in, clash, clashes, Anticommute, ClashOnce, StringsDiffer, NotAllNone}
use Rattle.strings.proofs.WayUp.{edge_lettered, no_edge_lettered, no_node_above, edge_of, arrives, arrives_on, root_none, up_node, under_here, under_above, never_back, under_root, under_child}

-- An edge clashes with any other that there is.
edges_clash : (edge other : ℕ) → edge < 3 → clash (edge_letter edge) (edge_letter other) + same other edge ≡ not_none (edge_letter other)
unfolding clash edge_letter same
edges_clash zero zero h = refl
edges_clash zero (suc zero) h = refl
edges_clash zero (suc (suc zero)) h = refl
edges_clash zero (suc (suc (suc other))) h = rw (same_none (suc (suc (suc other))) 0 (λ e. omega arith))
edges_clash (suc zero) zero h = refl
edges_clash (suc zero) (suc zero) h = refl
edges_clash (suc zero) (suc (suc zero)) h = refl
edges_clash (suc zero) (suc (suc (suc other))) h = rw (same_none (suc (suc (suc other))) 1 (λ e. omega arith))
edges_clash (suc (suc zero)) zero h = refl
edges_clash (suc (suc zero)) (suc zero) h = refl
edges_clash (suc (suc zero)) (suc (suc zero)) h = refl
edges_clash (suc (suc zero)) (suc (suc (suc other))) h = rw (same_none (suc (suc (suc other))) 2 (λ e. omega arith))
edges_clash (suc (suc (suc edge))) other h = absurd (omega arith)

-- Where there is no edge nothing clashes.
none_clashes : (edge : ℕ) (letter : Letter) → 3 ≤ edge → clash (edge_letter edge) letter ≡ 0
unfolding clash
none_clashes edge letter h = rw (no_edge_lettered edge h)

-- No letter clashes with itself.
clash_self : (letter : Letter) → clash letter letter ≡ 0
unfolding clash
clash_self Nothing = refl
clash_self X = refl
clash_self Y = refl
clash_self Z = refl

clashes_self : (letters : List Letter) → clashes letters letters ≡ 0
unfolding clashes
clashes_self [] = refl
clashes_self (letter ∷ letters) = omega (arith, clash_self letter, clashes_self letters)

clashes_map : (f g : ℕ → Letter) (l : List ℕ) → clashes (map f l) (map g l) ≡ sum_of (λ a. clash (f a) (g a)) l
unfolding clashes sum
clashes_map f g [] = refl
clashes_map f g (a ∷ l) = rw (clashes_map f g l)

module _ (modes : ℕ) (table : List ℕ) (whole : length table ≡ 3 * modes) (root : ℕ) (says : OneTreeSays modes table root) where
  abbrev letter_under : ℕ → ℕ → Letter
  letter_under node code = edge_letter (edge_of modes table whole root says node code)

  module _ (other : ℕ) (leaf : modes ≤ other) (low : other < 3 * modes) where
    -- How often the edges on the way up from a code clash with those on the way up from the other.
    clashing : ℕ → ℕ
    clashing code = total (λ node. clash (letter_under node code) (letter_under node other)) modes

    abbrev OnceFrom : ℕ → Type 0
    OnceFrom code = clashing code + not_none (letter_under code other) ≡ 1

    once_root : OnceFrom root
    unfolding clashing
    once_root =
        let none : total (λ node. clash (letter_under node root) (letter_under node other)) modes ≡ 0 =
        total_none (λ node. clash (letter_under node root) (letter_under node other)) modes
        (λ node h. none_clashes (edge_of modes table whole root says node root) (letter_under node other) (omega (arith, root_none modes table whole root says modes node))) in
        let over = under_root modes table whole root says (suc modes) other low (λ e. omega (arith, says.inside)) (arrives modes table whole root says other low) in
        omega (arith, none, edge_lettered (edge_of modes table whole root says root other) over)

    -- One step down from the node above.
    once_below : (code : ℕ) → code < 3 * modes → (code ≡ root → ⊥) → (code ≡ other → ⊥) → OnceFrom (above table code) → OnceFrom code
    unfolding clashing
    once_below code h apart differs on =
        let up = above table code in
        let edge = place_of_code table code % 3 in
        let inside = up_node modes table whole root says code h apart in
        let changed = total_changed (λ node. clash (letter_under node code) (letter_under node other)) (λ node. clash (letter_under node up) (letter_under node other)) modes up inside
        (λ node k away. ap (λ e. clash (edge_letter e) (letter_under node other)) (under_above modes table whole root says code h apart node (λ e. away (sym e))))
        (none_clashes (edge_of modes table whole root says up up) (letter_under up other) (never_back modes table whole root says up (omega arith))) in
        let here = ap (λ e. clash (edge_letter e) (letter_under up other)) (under_here modes table whole root says code h apart) in
        let child = under_child modes table whole root says code h apart (suc modes) other low (arrives modes table whole root says other low) (λ e. differs (sym e)) in
        omega (arith, on, changed, here, child, edges_clash edge (edge_of modes table whole root says up other) (omega arith))

    once_from : (steps code : ℕ) → code < 3 * modes → climb table steps code ≡ root → (code ≡ other → ⊥) → OnceFrom code
    unfolding climb
    once_from zero code h e differs = rw e once_root
    once_from (suc steps) code h e differs = go (eqb code root) refl (once_from steps (above table code))
      where
        go : (b : Bool) → eqb code root ≡ b
            → (above table code < 3 * modes → climb table steps (above table code) ≡ root → (above table code ≡ other → ⊥) → OnceFrom (above table code))
            → OnceFrom code
        go true q on = rw (eqb-true code root q) once_root
        go false q on =
            let apart = eqb-false code root q in
            let inside = up_node modes table whole root says code h apart in
            once_below code h apart differs
            (on (omega arith) (arrives_on modes table whole root says steps code h apart e) (λ f. omega arith))

    -- Nothing is under a leaf.
    once_leaf : (code : ℕ) → modes ≤ code → code < 3 * modes → (code ≡ other → ⊥) → clashing code ≡ 1
    once_leaf code high h differs =
        let none = ap not_none (no_edge_lettered (edge_of modes table whole root says code other) (no_node_above modes table whole (suc modes) code other high)) in
        omega (arith, once_from (suc modes) code h (arrives modes table whole root says code h) differs, none)

pub clash_once : ClashOnce
unfolding string majorana_letter nodes clashing
clash_once most modes table accepted majorana other h k differs =
    let parts = accepted_parts most modes table accepted in
    let says = accepted_says most modes table accepted in
    let f : ℕ → Letter = majorana_letter modes table majorana in
    let g : ℕ → Letter = majorana_letter modes table other in
    clashes_map f g (nodes modes)
    ∙ sum_listed (λ node. clash (f node) (g node)) modes
    ∙ once_leaf modes table parts.whole (root_of modes table) says (modes + other) (omega arith) (omega arith) (modes + majorana) (omega arith) (omega arith)
    (λ e. differs (omega arith))

pub anticommute : Anticommute
anticommute most modes table accepted majorana other h k differs =
    ap (λ n. n % 2) (clash_once most modes table accepted majorana other h k differs)

pub strings_differ : StringsDiffer
strings_differ most modes table accepted majorana other h k differs e =
    let once = clash_once most modes table accepted majorana other h k differs in
    let none = ap (λ s. clashes s (string modes table other)) e ∙ clashes_self (string modes table other) in
    omega arith

pub not_all_none : NotAllNone
unfolding letters_in string majorana_letter nodes
not_all_none most modes table accepted majorana h =
    let parts = accepted_parts most modes table accepted in
    let root = root_of modes table in
    let says = accepted_says most modes table accepted in
    let code = modes + majorana in
    let low : code < 3 * modes = omega arith in
    let apart : code ≡ root → ⊥ = λ e. omega (arith, says.inside) in
    let up = above table code in
    let rule : ℕ → ℕ = λ node. not_none (majorana_letter modes table majorana node) in
    let here : rule up ≡ 1 =
    ap (λ e. not_none (edge_letter e)) (under_here modes table parts.whole root says code low apart) ∙ edge_lettered (place_of_code table code % 3) (omega arith) in
    omega (
      arith,
      sum_map not_none (majorana_letter modes table majorana) (nodes modes),
      sum_listed rule modes,
      total_apart rule modes up (up_node modes table parts.whole root says code low apart),
      here,
    )
