-- "Obeyed line by line": from a job and bytes to the merges made, and the refusal of the first bad line.
use Rattle.obeying.specs.declared.header.HeaderLine.{HeaderLine}
use Rattle.std.specs.Prelude.{Bool, true, false, cond, not, ◌&&◌, List, [], ◌∷◌, ℕ, suc, eqb, ltb, length, get_or, Err, None, Ok, Option, Result, Some}
use Rattle.lists.specs.Members.{every}
use Rattle.refusal.specs.declared.Refusal.{Refusal}
use Rattle.refusal.specs.declared.Refusal.TheVariants.{
  LineForm,
  Header as OtherHeader,
  StepNotNext,
  ChildNotOpen,
  NotLawful,
  WeightUntrue,
  LineAfterLast,
}
use Rattle.entities.specs.declared.Triple.{Triple}
use Rattle.fields.specs.Decimal.{is_number, value}
use Rattle.fields.specs.Lines.{lines}
use Rattle.fields.specs.Fields.{fields}
use Rattle.terms.specs.Rules.{rule_number}
use Rattle.terms.specs.Job.{Job}
use Rattle.history.specs.Lawful.{three_open, paired}
use Rattle.history.specs.Choice.{weight_in}
use Rattle.obeying.specs.declared.merge_line.MergeLine.{MergeLine}
use Rattle.obeying.specs.LineForms.{header_of, merge_of_line}

-- A merge as its line has it after these merges, step and true weight filled in.
abbrev pub completed : Job → List Triple → Triple → MergeLine
completed job history triple = record { step = length history; triple = triple; weight = weight_in job history triple }

-- A merge by hand: three numbers, x, y and z.
unfoldable pub merge_by_hand : Job → List Triple → List ℕ → Option MergeLine
merge_by_hand job history line =
    cond (eqb (length (fields line)) 3 && every is_number (fields line))
    (Some
    (completed job history
    (record { x = value (get_or (fields line) 0 []); y = value (get_or (fields line) 1 []); z = value (get_or (fields line) 2 []) })))
    None

-- What a line says after these merges: a journal's by itself, one by hand as of here.
abbrev pub line_said : Bool → Job → List Triple → List ℕ → Option MergeLine
line_said by_hand job history line = cond by_hand (merge_by_hand job history line) (merge_of_line line)

-- Lines are "counted from 0": the header is line 0, and each line before this one has made a merge.
abbrev pub line_after : List Triple → ℕ
line_after history = suc (length history)

-- 8 "step isn't the next", 9 "a child isn't open", 10 "triple not lawful", 11 "weight untrue", in this order.
unfoldable pub judged_merge : Job → List Triple → MergeLine → Result MergeLine Refusal
judged_merge job history said =
    cond (not (eqb said.step (length history))) (Err (StepNotNext (line_after history)))
    (cond (not (three_open job.modes history said.triple)) (Err (ChildNotOpen (line_after history)))
    (cond (not (paired job.modes history said.triple)) (Err (NotLawful (line_after history)))
    (cond (not (eqb said.weight (weight_in job history said.triple))) (Err (WeightUntrue (line_after history)))
    (Ok said))))

-- 6 "line breaks the form".
unfoldable pub judged_form : Job → List Triple → Option MergeLine → Result MergeLine Refusal
judged_form job history (Some said) = judged_merge job history said
judged_form job history None = Err (LineForm (line_after history))

-- 12 "complete line after n merges", which "comes before 6 on its line".
unfoldable pub judged_line : Bool → Job → List Triple → List ℕ → Result MergeLine Refusal
judged_line by_hand job history bytes =
    cond (not (ltb (length history) job.modes)) (Err (LineAfterLast (line_after history)))
    (judged_form job history (line_said by_hand job history bytes))

-- What obeying comes to: the merges made, and where a line is refused, why.
pub data Obeyed : Type 0 where
  went : List Triple → Obeyed
  refused : List Triple → Refusal → Obeyed

-- A line obeyed as it was judged: its merge is made, or it is refused.
unfoldable pub obeyed_as : List Triple → Result MergeLine Refusal → Obeyed
obeyed_as history (Ok said) = went (said.triple ∷ history)
obeyed_as history (Err refusal) = refused history refusal

-- One line after what obeying came to before it: "the first bad journal line wins".
unfoldable pub obeyed_next : Bool → Job → List ℕ → Obeyed → Obeyed
obeyed_next by_hand job bytes (went history) = obeyed_as history (judged_line by_hand job history bytes)
obeyed_next by_hand job bytes (refused made refusal) = refused made refusal

-- The lines from here on.
unfoldable pub obeyed_lines : Bool → Job → Obeyed → List (List ℕ) → Obeyed
obeyed_lines by_hand job so_far [] = so_far
obeyed_lines by_hand job so_far (bytes ∷ rest) = obeyed_lines by_hand job (obeyed_next by_hand job bytes so_far) rest

-- 7 "header's n or T differ", and "a header with the other rule's word".
unfoldable pub obeyed_header : Job → Option HeaderLine → Obeyed
obeyed_header job (Some said) =
    cond (not (eqb (rule_number said.rule) (rule_number job.rule) && (eqb said.modes job.modes && eqb said.terms (length job.terms))))
    (refused [] OtherHeader)
    (went [])
obeyed_header job None = refused [] (LineForm 0)

-- The header is line 0, the merges follow; no complete line is nothing to obey.
unfoldable pub obeyed_texts : Job → List (List ℕ) → Obeyed
obeyed_texts job [] = went []
obeyed_texts job (first ∷ rest) = obeyed_lines false job (obeyed_header job (header_of first)) rest

-- A journal obeyed.
unfoldable pub obeyed : Job → List ℕ → Obeyed
obeyed job bytes = obeyed_texts job (lines bytes)

-- Lines by hand obeyed, which have no header.
unfoldable pub obeyed_by_hand : Job → List ℕ → Obeyed
obeyed_by_hand job bytes = obeyed_lines true job (went []) (lines bytes)
