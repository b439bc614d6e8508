-- A call from C answers what resuming comes to: nothing is written where it refuses, and all that is known where it is done.
use Rattle.std.specs.Prelude.{Err, Ok, Result}
use mathlib.Core.Path.{◌≡◌, refl, ap, ◌∙◌, sym}
use mathlib.Core.List.{List, ◌++◌}
use Prim.Native.Nat.{ℕ, ◌+◌, ◌*◌}
use native.Mathlib.Omega.{arith}
use lib.ListN.{length, take}
use lib.Seq.{length-take-le}
use Rattle.lists.specs.Written.{written_at}
use Rattle.lists.proofs.Written.{part_written}
use Rattle.refusal.specs.declared.Refusal.{Refusal}
use Rattle.refusal.specs.Numbers.{number_of, place_of}
use Rattle.journal.specs.declared.resuming.Numbers.{Numbers}
use Rattle.journal.specs.Resuming.{Ending, Outcome, done, refuses, Rooms, resumed}
use Rattle.journal.specs.Promises.{lent as run_lent, rooms_of, returned, lent_then as run_lent_then, Answers}
use Rattle.journal.proofs.RowsFit.{RowsFit, rows_fit}
use Rattle.call_bytes.specs.Bytes.{two_bytes, eight_bytes}
use Rattle.call_bytes.specs.code.Handing.{room_of, term_numbers}
use Rattle.call_bytes.specs.code.Reading.{TermsRead}
use Rattle.call_bytes.proofs.RoomFits.{room_fits}
use Rattle.daemon.specs.Calls.{Lent, lent}
use Rattle.daemon.specs.code.Handing.{rooms_in, resume_handed}
use Rattle.daemon.specs.Promises.{Called, result_of, answer_bytes, lent_then}
use Rattle.daemon.proofs.ResumedAlike.{resumed_same}

-- What the answer says of the meaning.
refused_meant : (meant : Outcome) (why : Refusal) (r : Result Numbers Refusal) → r ≡ returned meant → r ≡ Err why → meant ≡ refuses why
unfolding returned
refused_meant (done part) why r e f = let z : ◌≡◌ {A = ℕ} 0 1 = cc in absurd (omega arith)
refused_meant (refuses refusal) why r e f = cc

-- A call that was done, and its four numbers.
pub record Finished (meant : Outcome) (numbers : Numbers) : Type 0 where
  pub part : Ending
  pub is : meant ≡ done part
  pub weight : numbers.weight ≡ part.weight
  pub trials : numbers.trials ≡ part.trials
  pub kept : numbers.kept ≡ part.kept
  pub new : numbers.new ≡ length part.new

done_meant : (meant : Outcome) (numbers : Numbers) (r : Result Numbers Refusal) → r ≡ returned meant → r ≡ Ok numbers → Finished meant numbers
unfolding returned
done_meant (done part) numbers r e f = record { part = part; is = refl; weight = cc; trials = cc; kept = cc; new = cc }
done_meant (refuses refusal) numbers r e f = let z : ◌≡◌ {A = ℕ} 0 1 = cc in absurd (omega arith)

-- What is known once resuming has answered, in work, rows and drops of the call's own.
module _ (modes : ℕ) (terms read work own drops rows journal answer now_work now_own now_journal now_drops : List ℕ) (r : Result Numbers Refusal)
    (answers : Answers (λ given. resumed (rooms_of 256 given) modes 0 terms read) (run_lent work own journal drops) (run_lent now_work now_own now_journal now_drops) r) where
  abbrev rooms : Rooms
  rooms = rooms_of 256 (run_lent work own journal drops)

  abbrev meant : Lent → Outcome
  meant given = resumed (rooms_of 256 (run_lent work own given.journal drops)) modes 0 terms read

  pub why_refused : (why : Refusal) → r ≡ Err why → resumed rooms modes 0 terms read ≡ refuses why
  why_refused why e = refused_meant (resumed rooms modes 0 terms read) why r answers.answer e

  pub called_refused : (why : Refusal) (result : ℕ) → r ≡ Err why → result ≡ number_of why * 65536 + place_of why
      → Called meant (lent rows journal answer) (lent rows now_journal answer) result
  unfolding result_of run_lent_then lent_then
  called_refused why result e f =
      let is = why_refused why e in
      let same : now_journal ≡ journal = ap (λ l. l.journal) (rw is at answers.leaves) in
      record { result = rw is f; leaves = rw (is, same) }

  pub finish : (numbers : Numbers) → r ≡ Ok numbers → Finished (resumed rooms modes 0 terms read) numbers
  finish numbers e = done_meant (resumed rooms modes 0 terms read) numbers r answers.answer e

  module _ (numbers : Numbers) (e : r ≡ Ok numbers) where
    pub fit : RowsFit rooms modes (finish numbers e).part
    fit = rows_fit rooms modes 0 terms read (finish numbers e).part (omega arith) (finish numbers e).is

    pub called_done : (now_rows now_answer : List ℕ) → now_rows ≡ written_at 0 (two_bytes (take (4 * modes) now_own)) rows
        → now_answer ≡ written_at 0 (eight_bytes numbers.weight ++ (eight_bytes numbers.trials ++ (eight_bytes numbers.kept ++ eight_bytes numbers.new))) answer
        → Called meant (lent rows journal answer) (lent now_rows now_journal now_answer) 0
    unfolding result_of run_lent_then lent_then answer_bytes
    called_done now_rows now_answer rows_is answer_is =
        let done_so = finish numbers e in
        let part = done_so.part in
        let is = done_so.is in
        let exact = fit.exact in
        let left = rw is at answers.leaves in
        let written : now_own ≡ written_at 0 part.rows own = ap (λ l. l.rows) left in
        let front : take (4 * modes) now_own ≡ part.rows =
        ap (λ l. take (4 * modes) l) written ∙ ap (λ n. take n (written_at 0 part.rows own)) (sym exact)
        ∙ part_written 0 part.rows own (omega (arith, exact, fit.room)) in
        record {
          result = rw is;
          leaves =
              rw is
              (same_lent (rows_is ∙ ap (λ l. written_at 0 (two_bytes l) rows) front) (ap (λ l. l.journal) left)
              (rw (← done_so.weight, ← done_so.trials, ← done_so.kept, ← done_so.new) answer_is));
        }
      where
        same_lent : {a b c d e f : List ℕ} → a ≡ b → c ≡ d → e ≡ f → lent a c e ≡ lent b d f
        same_lent p q r = rw (p, q, r)

pub called_so : (meant same : Lent → Outcome) (before after : Lent) (r : ℕ) → meant before ≡ same before
    → Called same before after r → Called meant before after r
called_so meant same before after r e called = record { result = rw e called.result; leaves = rw e called.leaves }

-- The parts that the call lends to resuming mean what it was given.
pub lent_means : (modes : ℕ) (terms read numbers work own drops : List ℕ) (count room : ℕ) (given : Lent) → TermsRead terms numbers count
    → room ≡ room_of 4 (length own) (length given.rows) (length given.answer)
    → resume_handed (record { modes = 256; work = length work; rows = length own; drops = length drops }) modes terms read given
    ≡ resumed (rooms_of 256 (run_lent work (take room own) given.journal drops)) modes 0 (take count numbers) read
unfolding resume_handed rooms_in
lent_means modes terms read numbers work own drops count room given reads e =
    let fits = room_fits 4 (length own) (length given.rows) (length given.answer) in
    let l : length (take room own) ≡ room_of 4 (length own) (length given.rows) (length given.answer) =
    length-take-le room own (omega (arith, e, fits.in_own)) ∙ e in
    rw (← l) (sym (resumed_same (take count numbers) (term_numbers terms) reads.stands (rooms_of 256 (run_lent work (take room own) given.journal drops)) modes read))
