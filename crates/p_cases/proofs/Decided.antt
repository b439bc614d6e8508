-- "What the promises decide": the wrong programs that document 01 names break the promise of `resume` on a P case.
use Rattle.std.specs.Prelude.{Err, Result}
use Rattle.journal.specs.declared.resuming.Numbers.{Numbers}
use mathlib.Core.Path.{◌≡◌, ap, ◌∙◌}
use mathlib.Core.Bool.{◌&&◌}
use mathlib.Core.List.{List, [], ◌∷◌, ◌++◌, append-nil}
use Prim.Native.Nat.{ℕ, ◌+◌, ◌<◌}
use native.Mathlib.Omega.{arith}
use lib.ListN.{length, get_or, drop, get_or-append}
use lib.Seq.{drop-nil}
use Rattle.lists.specs.Members.{alike}
use Rattle.lists.specs.Written.{written_at}
use Rattle.lists.proofs.Alike.{alike_same}
use Rattle.lists.proofs.Every.{every_at}
use Rattle.lists.proofs.Tests.{both}
use Rattle.refusal.specs.declared.Refusal.{Refusal}
use Rattle.refusal.specs.Numbers.{refused_numbers}
use Rattle.journal.specs.Resuming.{Outcome, done, refuses}
use Rattle.journal.specs.Promises.{Lent, lent, lent_then, Answers, numbers_of}
use Rattle.p_cases.specs.Cases.{Case, holds, resuming, told, cases, p1, p3, p5}
use Rattle.p_cases.proofs.CasesHold.{cases_hold}

-- What a case shows in numbers and rows is what the definitions say.
record Shown (case : Case) : Type 0 where
  pub numbers : case.says.numbers ≡ case.shown.numbers
  pub rows : case.says.rows ≡ case.shown.rows

none : Case
none = record { says = told []; shown = told [] }

shown : (place : ℕ) → place < length cases → Shown (get_or cases place none)
unfolding holds
shown place there =
    let case = get_or cases place none in
    let e = every_at holds cases place none there cases_hold in
    let numbers = alike case.says.numbers case.shown.numbers in
    let rows = alike case.says.rows case.shown.rows in
    let lines = alike case.says.lines case.shown.lines in
    let p = both numbers (rows && lines) e in
    record {
      numbers = alike_same case.says.numbers case.shown.numbers p.0;
      rows = alike_same case.says.rows case.shown.rows (both rows lines p.1).0;
    }

-- A call's rows begin with those that it wrote, whatever stood there.
front : (outcome : Outcome) (given : Lent) (i : ℕ) → i < length (lent_then outcome (lent [] [] [] [])).rows
    → get_or (lent_then outcome given).rows i 0 ≡ get_or (lent_then outcome (lent [] [] [] [])).rows i 0
unfolding lent_then written_at
front (done ending) given i h =
    let part = ending.rows in
    let all : part ++ drop (0 + length part) [] ≡ part = rw (drop-nil (0 + length part)) (append-nil part) in
    rw all (get_or-append part (drop (0 + length part) given.rows) 0 i (rw all at h))
front (refuses refusal) given i h = absurd (omega arith)

-- The second number of the first row, after a call whose rows were seen.
second : (outcome : Outcome) (before after : Lent) (seen : List ℕ) → after ≡ lent_then outcome before
    → (lent_then outcome (lent [] [] [] [])).rows ≡ seen → 1 < length seen → get_or after.rows 1 0 ≡ get_or seen 1 0
second outcome before after seen e f h =
    ap (λ l. get_or l.rows 1 0) e ∙ front outcome before 1 (rw f h) ∙ ap (λ l. get_or l 1 0) f

module _ (before after : Lent) (r : Result Numbers Refusal) where
  -- "A call that refuses always fails demand 2 on P1".
  pub refuses_always : (why : Refusal) → Answers (λ given. p1) before after (Err why) → ⊥
  unfolding numbers_of refused_numbers cases resuming
  refuses_always why a =
      let e = ap (λ l. get_or l 2 0) (ap numbers_of a.answer ∙ (shown 0 (omega arith)).numbers) in
      omega (arith, e)

  -- "a call that writes nothing fails on P1's rows".
  pub writes_nothing : before.rows ≡ 0 ∷ (0 ∷ (0 ∷ (0 ∷ []))) → after.rows ≡ before.rows → Answers (λ given. p1) before after r → ⊥
  unfolding cases resuming
  writes_nothing zeros left a =
      let e = second p1 before after _ a.leaves (shown 0 (omega arith)).rows (omega arith) in
      omega (arith, e, ap (λ l. get_or l 1 0) (left ∙ zeros))

  module _ (other_before other_After : Lent) (other : Result Numbers Refusal) (third : Answers (λ given. p3) before after r)
      (fifth : Answers (λ given. p5) other_before other_After other) where
    -- "one fixed tree fails on P3 beside P5's rows".
    pub one_fixed_tree : after.rows ≡ other_After.rows → ⊥
    unfolding cases resuming
    one_fixed_tree same =
        let e = second p3 before after _ third.leaves (shown 2 (omega arith)).rows (omega arith) in
        let f = second p5 other_before other_After _ fifth.leaves (shown 6 (omega arith)).rows (omega arith) in
        omega (arith, e, f, ap (λ l. get_or l 1 0) same)

    -- "A resume that forgets the journal fails demand 3 on P5's trials".
    pub journal_forgotten : r ≡ other → ⊥
    unfolding cases resuming
    journal_forgotten same =
        let e = ap (λ l. get_or l 3 0) (ap numbers_of third.answer ∙ (shown 2 (omega arith)).numbers) in
        let f = ap (λ l. get_or l 3 0) (ap numbers_of fifth.answer ∙ (shown 6 (omega arith)).numbers) in
        omega (arith, e, f, ap (λ a. get_or (numbers_of a) 3 0) same)
