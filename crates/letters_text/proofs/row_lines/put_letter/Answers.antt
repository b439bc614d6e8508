-- The place with its tab, then the letter and LF.
use mathlib.Core.List.{[], ◌∷◌}
use native.Mathlib.Omega.{arith}
use Rattle.lists.proofs.Behind.{Wrote, field_wrote}
use Rattle.fields.specs.Decimal.{decimal}
use Rattle.fields.proofs.Digits.{decimal_short}
use Rattle.letters_text.specs.Lettering.{letter_sign}
use Rattle.letters_text.proofs.LineLaws.{line_wrote, line_short}
use Rattle.letters_text.proofs.row_lines.put_letter.Goals as goal

pub put_field-end-requires : goal.put_field-end-requires
put_field-end-requires c =
    omega (arith, decimal_short c.args.place (omega arith))

pub put_bytes-requires : goal.put_bytes-requires
put_bytes-requires c =
    omega (arith, decimal_short c.args.place (omega arith))

pub returns : goal.returns
unfolding letter_sign
returns c =
    let args = c.args in
    let field = c.put_field-end in
    let mark = c.byte in
    let put = c.put_bytes in
    let bytes : Wrote _ (mark.result ∷ (10 ∷ [])) _ _ _ = record { behind = put.ensures.value; written = put.ensures.out_after } in
    let line = line_wrote args.place args.letter (field_wrote (decimal args.place) 9 field.ensures.value field.ensures.out_after) (rw mark.ensures at bytes)
    (omega (arith, field.ensures.value, decimal_short args.place (omega arith))) in
    record {
      value = (line.behind, omega (arith, line.behind, line_short args.place args.letter (omega arith)));
      out_after = line.written;
    }
