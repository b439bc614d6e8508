-- "The tree check and tree weight start 1, 13, 14, 15, 16".
use Rattle.refusal.specs.declared.Refusal.{Refusal}
use Rattle.std.specs.Prelude.{cond, not, ◌||◌, List, [], ℕ, ◌*◌, eqb, ltb, length, Err, Ok, Result}
use Rattle.lists.specs.Members.{leading}
use Rattle.refusal.specs.declared.Refusal.TheVariants.{Modes, TreeLength, ChildCode, NotOneTree, WrongPair}
use Rattle.refusal.specs.Numbers.{refused_numbers, done_numbers}
use Rattle.entities.specs.Codes.{absent}
use Rattle.terms.specs.Good.{modes_good}
use Rattle.tree.specs.OneTree.{one_tree}
use Rattle.tree.specs.Pairs.{pairs_right}

-- 14: "first code neither below 3n nor 65535"; how many codes are good before it.
unfoldable pub codes_good : ℕ → List ℕ → ℕ
codes_good modes table = leading (λ code. ltb code (3 * modes) || eqb code absent) table

-- The numbers of an answer: refusal and place.
unfoldable pub check_numbers : Result (Unit {0}) Refusal → List ℕ
check_numbers (Ok tt) = done_numbers []
check_numbers (Err refusal) = refused_numbers 0 refusal

-- The check: 1, 13, 14, 15 and 16, in this order.
unfoldable pub tree_checked : ℕ → ℕ → List ℕ → Result (Unit {0}) Refusal
tree_checked most modes table =
    cond (not (modes_good most modes)) (Err Modes)
    (cond (not (eqb (length table) (3 * modes))) (Err TreeLength)
    (cond (ltb (codes_good modes table) (length table)) (Err (ChildCode (codes_good modes table)))
    (cond (not (one_tree modes table)) (Err NotOneTree)
    (cond (ltb (pairs_right modes table) modes) (Err (WrongPair (pairs_right modes table)))
    (Ok tt)))))
