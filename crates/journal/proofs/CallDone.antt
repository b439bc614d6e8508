-- What is known when resuming is done: every test passed, and the answer is the end of the run from the journal's history.
use Rattle.std.specs.Prelude.{Err, Ok, Result}
use mathlib.Core.Path.{◌≡◌, refl}
use mathlib.Core.Bool.{Bool, true, false}
use mathlib.Core.List.{List}
use Prim.Native.Nat.{ℕ, ◌+◌, ◌*◌, ◌≤◌}
use native.Mathlib.Omega.{arith}
use borrow.Author.Tests.{leb-true, le-leb}
use lib.Dec.{leb}
use Rattle.lists.proofs.Tests.{both}
use Rattle.refusal.specs.declared.Refusal.{Refusal}
use Rattle.entities.specs.declared.Triple.{Triple}
use Rattle.terms.specs.declared.rules.Rule.{Rule}
use Rattle.terms.specs.Rules.{rule_good, rule_of}
use Rattle.terms.specs.Job.{job_of}
use Rattle.terms.specs.Good.{modes_good, checked}
use Rattle.obeying.specs.Obeying.{Obeyed, went, refused, obeyed}
use Rattle.journal.specs.Resuming.{Ending, done, refuses, ending, with_journal, Rooms, roomy, with_terms, resumed}

-- What the test of the rooms says, and where it passes.
pub rooms_say : (rooms : Rooms) (modes count : ℕ) → roomy rooms modes count ≡ true
    → (9 * count ≤ rooms.work) × (4 * modes ≤ rooms.rows) × (16 + 21 * modes ≤ rooms.journal) × (modes ≤ rooms.drops)
unfolding roomy
rooms_say rooms modes count e =
    let work = both (leb (9 * count) rooms.work) _ e in
    let rows = both (leb (4 * modes) rooms.rows) _ work.1 in
    let others = both (leb (16 + 21 * modes) rooms.journal) (leb modes rooms.drops) rows.1 in
    (leb-true _ _ work.0, leb-true _ _ rows.0, leb-true _ _ others.0, leb-true _ _ others.1)

pub rooms_fit : (rooms : Rooms) (modes count : ℕ) → 9 * count ≤ rooms.work → 4 * modes ≤ rooms.rows → 16 + 21 * modes ≤ rooms.journal
    → modes ≤ rooms.drops → roomy rooms modes count ≡ true
unfolding roomy
rooms_fit rooms modes count work rows journal drops = rw (le-leb _ _ work, le-leb _ _ rows, le-leb _ _ journal, le-leb _ _ drops)

-- With room for all, the journal decides.
pub with_room : (rooms : Rooms) (modes : ℕ) (rule : Rule) (numbers bytes : List ℕ) (count : ℕ) → roomy rooms modes count ≡ true
    → with_terms rooms modes rule numbers bytes (Ok count)
    ≡ with_journal (job_of modes rule count numbers) bytes (obeyed (job_of modes rule count numbers) bytes)
unfolding with_terms
with_room rooms modes rule numbers bytes count room = rw room

module _ (rooms : Rooms) (modes rule : ℕ) (numbers bytes : List ℕ) where
  pub record CallDone (part : Ending) : Type 0 where
    pub count : ℕ
    pub modes_are : modes_good rooms.modes modes ≡ true
    pub rule_is : rule_good rule ≡ true
    pub terms_are : checked modes numbers ≡ Ok count
    pub rooms_are : roomy rooms modes count ≡ true
    pub history : List Triple
    pub obeys : obeyed (job_of modes (rule_of rule) count numbers) bytes ≡ went history
    pub ends : part ≡ ending (job_of modes (rule_of rule) count numbers) bytes history

  not_done : {A : Type 0} (refusal : Refusal) (part : Ending) → refuses refusal ≡ done part → A
  not_done refusal part e = let z : ◌≡◌ {A = ℕ} 0 1 = cc in absurd (omega arith)

  module _ (part : Ending) where
    from_journal : (count : ℕ) → modes_good rooms.modes modes ≡ true → rule_good rule ≡ true → checked modes numbers ≡ Ok count → roomy rooms modes count ≡ true
        → with_journal (job_of modes (rule_of rule) count numbers) bytes (obeyed (job_of modes (rule_of rule) count numbers) bytes) ≡ done part → CallDone part
    unfolding with_journal
    from_journal count m u t r says = go (obeyed (job_of modes (rule_of rule) count numbers) bytes) refl says
      where
        go : (found : Obeyed) → obeyed (job_of modes (rule_of rule) count numbers) bytes ≡ found
            → with_journal (job_of modes (rule_of rule) count numbers) bytes found ≡ done part → CallDone part
        go (went history) e f =
            record { count = count; modes_are = m; rule_is = u; terms_are = t; rooms_are = r; history = history; obeys = e; ends = cc }
        go (refused made refusal) e f = not_done refusal part f

    from_terms : (found : Result ℕ Refusal) → modes_good rooms.modes modes ≡ true → rule_good rule ≡ true → checked modes numbers ≡ found
        → with_terms rooms modes (rule_of rule) numbers bytes found ≡ done part → CallDone part
    unfolding with_terms
    from_terms (Ok count) m u t says = go (roomy rooms modes count) refl
      where
        go : (b : Bool) → roomy rooms modes count ≡ b → CallDone part
        go true r = from_journal count m u t r (rw r at says)
        go false r = not_done _ part (rw r at says)
    from_terms (Err refusal) m u t says = not_done refusal part says

    pub call_done : resumed rooms modes rule numbers bytes ≡ done part → CallDone part
    unfolding resumed
    call_done says = go (modes_good rooms.modes modes) refl (rule_good rule) refl
      where
        go : (b : Bool) → modes_good rooms.modes modes ≡ b → (c : Bool) → rule_good rule ≡ c → CallDone part
        go true m true u = from_terms (checked modes numbers) m u refl (rw (m, u) at says)
        go true m false u = not_done _ part (rw (m, u) at says)
        go false m c u = not_done _ part (rw m at says)

-- Where every test passes, a journal that is obeyed leads to the end of a run.
pub done_in : (rooms : Rooms) (modes rule count : ℕ) (numbers bytes : List ℕ) (history : List Triple) → modes_good rooms.modes modes ≡ true
    → rule_good rule ≡ true → checked modes numbers ≡ Ok count → roomy rooms modes count ≡ true
    → obeyed (job_of modes (rule_of rule) count numbers) bytes ≡ went history
    → resumed rooms modes rule numbers bytes ≡ done (ending (job_of modes (rule_of rule) count numbers) bytes history)
unfolding resumed with_terms with_journal
done_in rooms modes rule count numbers bytes history modes_are rule_is terms_are rooms_are obeys =
    rw (modes_are, rule_is, terms_are) (rw rooms_are (rw obeys))
