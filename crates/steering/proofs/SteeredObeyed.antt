-- What steering prints is accepted by resuming and obeyed to the merges that were written by hand.
use Rattle.std.specs.Prelude.{Err, Ok, Result}
use mathlib.Core.Path.{◌≡◌, refl, sym, ◌∙◌}
use mathlib.Core.Bool.{Bool, true, false, cond}
use mathlib.Core.List.{List}
use Prim.Native.Nat.{ℕ, ◌≤◌}
use native.Mathlib.Omega.{arith}
use borrow.Author.Tests.{eqb-true, le-leb}
use lib.Dec.{eqb}
use lib.ListN.{length}
use lib.Seq.{take_all}
use Rattle.refusal.specs.declared.Refusal.{Refusal}
use Rattle.refusal.specs.declared.Refusal.TheVariants.{LineForm}
use Rattle.entities.specs.declared.Triple.{Triple}
use Rattle.entities.specs.Limits.{most_modes, most_terms}
use Rattle.fields.specs.Lines.{kept_of}
use Rattle.fields.proofs.LinesJoined.{kept_front}
use Rattle.terms.specs.Rules.{rule_number}
use Rattle.terms.specs.Job.{Job, job_of}
use Rattle.terms.specs.Good.{modes_good}
use Rattle.terms.proofs.RuleNumbers.{rule_of_number, number_good}
use Rattle.terms.proofs.RowSteps.{length_terms}
use Rattle.terms.proofs.GoodTerms.{accepted}
use Rattle.obeying.specs.Obeying.{line_after, Obeyed, went, refused, obeyed_by_hand}
use Rattle.obeying.proofs.LineRead.{hand_numbers}
use Rattle.obeying.proofs.Obedience.{hand_obedient}
use Rattle.journal.specs.Writing.{journal_text}
use Rattle.journal.proofs.CallDone.{rooms_fit, done_in}
use Rattle.journal.proofs.JournalText.{journal_obeyed}
use Rattle.terms_text.specs.Input.{Said, given, malformed, said}
use Rattle.terms_text.specs.Jobs.{Request, counted, job_with, job_by, job_said}
use Rattle.text.specs.Running.{program_rooms, ran_by, ran}
use Rattle.steering.specs.Steering.{writes, refuses, steered_as, steered_by, steered, AsWritten, Steers, SteeredIsObeyed}
use Rattle.terms_text.proofs.JobCounted.{counted_good}

not_written : {A : Type 0} (refusal : Refusal) (journal : List ℕ) → refuses refusal ≡ writes journal → A
not_written refusal journal e = let z : ◌≡◌ {A = ℕ} 0 1 = cc in absurd (omega arith)

-- Where all bytes are kept, they are the kept ones.
all_kept : (bytes : List ℕ) → length (kept_of bytes) ≡ length bytes → kept_of bytes ≡ bytes
all_kept bytes e = sym (kept_front bytes) ∙ rw e (take_all (length bytes) bytes (omega arith))

-- What was obeyed is what was written.
module _ (job : Job) (merges journal : List ℕ) where
  record Written : Type 0 where
    history : List Triple
    obeys : obeyed_by_hand job merges ≡ went history
    whole : kept_of merges ≡ merges
    journal_is : journal ≡ journal_text job history

  written_by : (found : Obeyed) → obeyed_by_hand job merges ≡ found → steered_as job merges found ≡ writes journal → Written
  unfolding steered_as
  written_by (went history) f e = go (eqb (length (kept_of merges)) (length merges)) refl e
    where
      go : (b : Bool) → eqb (length (kept_of merges)) (length merges) ≡ b
          → cond b (writes (journal_text job history)) (refuses (LineForm (line_after history))) ≡ writes journal → Written
      go true g h = record { history = history; obeys = f; whole = all_kept merges (eqb-true _ _ g); journal_is = cc }
      go false g h = not_written _ journal h
  written_by (refused made refusal) f e = not_written refusal journal e

  as_written : (known : Written) → AsWritten merges known.history
  as_written known =
      let by_hand = hand_obedient job merges known.history known.obeys in
      record {
        a_line_each = by_hand.a_line_each;
        numbers = λ i h. (hand_numbers job _ _ _ (by_hand.says i h)).0;
        says = λ i h. (hand_numbers job _ _ _ (by_hand.says i h)).1;
        whole = known.whole;
      }

-- Resuming from it.
module _ (asks : Request) (merges journal : List ℕ) (modes count : ℕ) (numbers : List ℕ) (says : said most_terms asks.text ≡ given modes numbers)
    (counts : counted most_modes modes numbers ≡ Ok count) where
  abbrev job : Job
  job = job_of modes asks.rule count numbers

  steers : Written job merges journal → Steers asks merges journal
  unfolding ran ran_by modes_good job_said job_by job_with
  steers known =
      let good = counted_good most_modes modes numbers count counts in
      let terms = accepted modes numbers count good.2 in
      let by_hand = hand_obedient job merges known.history known.obeys in
      let light : length job.terms ≤ most_terms = omega (arith, length_terms 8 count numbers, terms.at_most) in
      let obeys = journal_obeyed job (omega (arith, good.1)) (omega (arith, light)) known.history by_hand.lawful by_hand.within in
      let room = rooms_fit program_rooms.run modes count (omega (arith, terms.at_most)) (omega (arith, good.1)) (omega (arith, good.1)) (omega (arith, good.1)) in
      record {
        job = job;
        job_is = rw (says, counts);
        history = known.history;
        as_written = as_written job merges journal known;
        journal_is = known.journal_is;
        resumes =
            rw says
            (rw (rule_of_number asks.rule) at
            (done_in program_rooms.run modes (rule_number asks.rule) count numbers journal known.history
            (rw (le-leb 1 modes good.0, le-leb modes most_modes good.1)) (number_good asks.rule) good.2 room
            (rw (known.journal_is, rule_of_number asks.rule) obeys)));
      }

pub steered_is_obeyed : SteeredIsObeyed
unfolding steered steered_by job_said job_by job_with
steered_is_obeyed asks merges journal e = go (said most_terms asks.text) refl e
  where
    by_count : (modes : ℕ) (numbers : List ℕ) → said most_terms asks.text ≡ given modes numbers → (found : Result ℕ Refusal)
        → counted most_modes modes numbers ≡ found → steered_by (job_with modes asks.rule numbers found) merges ≡ writes journal → Steers asks merges journal
    by_count modes numbers says (Ok count) f g =
        let job = job_of modes asks.rule count numbers in
        steers asks merges journal modes count numbers says f (written_by job merges journal (obeyed_by_hand job merges) refl g)
    by_count modes numbers says (Err refusal) f g = not_written refusal journal g

    go : (says : Said) → said most_terms asks.text ≡ says → steered_by (job_by most_modes asks.rule says) merges ≡ writes journal → Steers asks merges journal
    go (given modes numbers) f g = by_count modes numbers f (counted most_modes modes numbers) refl g
    go (malformed line) f g = not_written _ journal g
