-- What writing an accepted tree as a text comes to: "1, 13 to 16, then 5 where the text's exact length doesn't fit".
use Rattle.refusal.specs.declared.Refusal.{Refusal}
use Rattle.std.specs.Prelude.{cond, List, [], ◌∷◌, ℕ, leb, length, Err, Ok, Result}
use Rattle.lists.specs.Written.{written_at}
use Rattle.refusal.specs.declared.Refusal.TheVariants.{Room}
use Rattle.refusal.specs.Numbers.{refused_numbers, done_numbers}
use Rattle.tree.specs.Check.{tree_checked}

-- The numbers of an answer: refusal, place and the bytes written.
unfoldable pub written_numbers : Result ℕ Refusal → List ℕ
written_numbers (Ok count) = done_numbers (count ∷ [])
written_numbers (Err refusal) = refused_numbers 1 refusal

-- The check's refusal, then 5.
unfoldable pub written_as : Result (Unit {0}) Refusal → List ℕ → ℕ → Result ℕ Refusal
written_as (Ok tt) text room = cond (leb (length text) room) (Ok (length text)) (Err Room)
written_as (Err refusal) text room = Err refusal

-- An accepted tree written as this text into so much room.
unfoldable pub tree_written : ℕ → ℕ → List ℕ → List ℕ → ℕ → Result ℕ Refusal
tree_written most modes table text room = written_as (tree_checked most modes table) text room

-- The lent text after it.
unfoldable pub text_after : Result ℕ Refusal → List ℕ → List ℕ → List ℕ
text_after (Ok count) text before = written_at 0 text before
text_after (Err refusal) text before = before
