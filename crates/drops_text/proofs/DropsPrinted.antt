-- What is printed of a run's drops: those of a cut journal's run are the whole one's, and 5 is never printed.
use mathlib.Core.Path.{◌≡◌, ap}
use mathlib.Core.List.{List, [], ◌∷◌, flat_map}
use Prim.Native.Nat.{ℕ, ◌≤◌}
use native.Mathlib.Omega.{arith}
use lib.ListN.{length, get_or, take}
use Rattle.lists.proofs.Written.{part_written}
use Rattle.refusal.specs.declared.Refusal.TheVariants.{Room}
use Rattle.fields.specs.Decimal.{digits, decimal}
use Rattle.fields.specs.Fields.{tabbed}
use Rattle.fields.specs.Lines.{lines_after, lines, kept_of}
use Rattle.journal.specs.Resuming.{Outcome, done, refuses}
use Rattle.journal.specs.CutAndResumed.{journal_of}
use Rattle.text.specs.Running.{program_rooms, ran}
use Rattle.text.specs.Output.{line_of, refusal_text}
use Rattle.text.specs.declared.running.Run.{Run}
use Rattle.text.specs.code.Runs.{Lent, RanDone, drops_then}
use Rattle.text.proofs.ContinuesWhole.{continues_whole}
use Rattle.text.proofs.RoomSuffices.{number_in, refusal_five, ran_never}
use Rattle.drops_text.specs.Dropping.{drop_line, drop_lines, drops_printed, drops_text, DropsOfCut, DropsSuffice}

pub drops_of_cut : DropsOfCut
unfolding drops_text drops_printed journal_of kept_of lines lines_after flat_map
drops_of_cut asks whole says cut =
    let again = (continues_whole asks [] whole says).resumes cut (omega arith) in
    rw (says, again.resumes, again.same_drops)

-- The lines of steps begin with the first step's number, and a refusal with its word.
lines_other : (drops : List ℕ) → drop_lines 0 drops ≡ refusal_text Room → ⊥
unfolding drop_lines drop_line line_of tabbed refusal_text decimal digits
lines_other [] e = omega (arith, ap (λ text. get_or text 0 0) e)
lines_other (count ∷ rest) e = omega (arith, ap (λ text. get_or text 0 0) e)

five_ended : (end : Outcome) → drops_printed end ≡ refusal_text Room → number_in end ≡ 5
unfolding number_in drops_printed
five_ended (done ending) e = absurd (lines_other ending.drops e)
five_ended (refuses refusal) e = refusal_five refusal e

pub drops_suffice : DropsSuffice
unfolding drops_text
drops_suffice asks read e = ran_never asks read (five_ended (ran program_rooms asks read) e)

-- The drops of a run that is done stand at the front of the table, and are printed.
module _ {most : ℕ} {means : Outcome} {before after : Lent} {run : Run} (known : RanDone most means before after run) where
  pub drops_stand : (given left : List ℕ) → left ≡ drops_then means given → run.modes ≤ length given → take run.modes left ≡ known.ending.drops
  unfolding drops_then
  drops_stand given left e room =
      rw (e, known.is, ← known.steps) (part_written 0 known.ending.drops given (omega (arith, known.steps, room)))

  pub drops_told : drops_printed means ≡ drop_lines 0 known.ending.drops
  unfolding drops_printed
  drops_told = rw known.is
