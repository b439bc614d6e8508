-- The text has the length that was asked for, so all lines fit.
use mathlib.Core.Path.{◌≡◌, refl}
use native.Mathlib.Omega.{arith}
use lib.ListN.{length}
use Rattle.tree.specs.Writing.{text_after}
use Rattle.tree.proofs.AcceptedParts.{AcceptedParts, accepted_parts}
use Rattle.tree.proofs.WritingAnswered.{short_answer, whole_answer}
use Rattle.strings.specs.Text.{strings_text, strings_length}
use Rattle.strings.proofs.LinesWritten.{text_long}
use Rattle.strings.proofs.put_strings.Goals as goal
use Rattle.strings.proofs.put_strings.Goals.{Start}

parts : (c : Start) → AcceptedParts 256 c.args.modes c.args.tree.now
parts c = accepted_parts 256 c.args.modes c.args.tree.now c.requires

size : (c : Start) → length (strings_text c.args.modes c.args.tree.now) ≡ strings_length c.args.modes
size c = text_long c.args.modes c.args.tree.now

pub strings_length-length-requires : goal.strings_length-length-requires
strings_length-length-requires c = (parts (goal.at.strings_length-length-requires c).Start).few

pub returns-then-text-length : goal.returns-then-text-length
unfolding text_after
returns-then-text-length c =
    let args = c.args in
    record {
      value = short_answer (strings_text args.modes args.tree.now) (length args.text.now) (omega (arith, size (goal.at.returns-then-text-length c).Start, c.strings_length-length.ensures));
      text_after = refl;
    }

pub fill_places-requires : goal.fill_places-requires
fill_places-requires c = omega (arith, (parts (goal.at.fill_places-requires c).Start).few, (parts (goal.at.fill_places-requires c).Start).whole)

pub invariant_of-placed : goal.invariant_of-placed
invariant_of-placed c =
    let known = parts (goal.at.invariant_of-placed c).Start in
    record { few = known.few; whole = known.whole; placed = c.fill_places.ensures }

pub put_lines-requires : goal.put_lines-requires
put_lines-requires c =
    omega (arith, size (goal.at.put_lines-requires c).Start, c.strings_length-length.ensures)

pub returns : goal.returns
unfolding text_after
returns c =
    let args = c.args in
    let counted = c.strings_length-length in
    record {
      value = whole_answer (strings_text args.modes args.tree.now) (length args.text.now) counted.result (omega (arith, counted.ensures, size (goal.at.returns c).Start)) (omega (arith, size (goal.at.returns c).Start, c.strings_length-length.ensures));
      text_after = c.put_lines.ensures;
    }
