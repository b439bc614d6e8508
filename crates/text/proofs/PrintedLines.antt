-- Parts written one behind the other as the lines that are printed.
use mathlib.Core.Path.{◌≡◌, refl, ap, ◌∙◌, sym}
use mathlib.Core.List.{List, [], ◌∷◌, ◌++◌, map, flat_map, append_assoc, append-nil}
use Prim.Native.Nat.{ℕ, suc, ◌+◌, ◌*◌, ◌/◌, ◌<◌, ◌≤◌}
use native.Mathlib.Omega.{arith}
use borrow.Author.Tests.{eq-eqb, ne_eqb}
use lib.ListN.{length, get_or, take, drop, replicate, length-replicate, take-append-drop, length-append}
use lib.Seq.{drop-append-le, length-take-le, take_at, drop_at}
use Rattle.lists.specs.Written.{written_at}
use Rattle.lists.proofs.Written.{length_written}
use Rattle.lists.proofs.Behind.{Wrote, wrote_none, then_wrote}
use Rattle.refusal.specs.declared.Refusal.{Refusal}
use Rattle.refusal.specs.Numbers.{number_of, place_of}
use Rattle.entities.specs.Codes.{absent}
use Rattle.fields.specs.Texts.{spelt}
use Rattle.fields.specs.Decimal.{decimal}
use Rattle.fields.specs.Fields.{tabbed}
use Rattle.terms.specs.Rows.{rows_of}
use Rattle.text.specs.code.Printing.{Puts}
use Rattle.text.specs.Output.{line_of, code_text, node_line, node_lines, refusal_text, done_text, PrintsIn}

-- What was written over the front, and fits, was put there.
pub wrote_puts : {text before after : List ℕ} {end : ℕ} → Wrote 0 text before after end → end ≤ length before → Puts text before after end
wrote_puts wrote room = record { count = omega (arith, wrote.behind); fits = omega (arith, wrote.behind); bytes = wrote.written }

-- Nothing printed leaves what is lent as it was.
pub puts_none : (before : List ℕ) → Puts [] before before 0
unfolding written_at
puts_none before = record { count = refl; fits = omega arith; bytes = refl }

-- Written over the front of a list's front, a part is written over the list's.
pub front_over : (part s : List ℕ) (room : ℕ) → length part ≤ room → room ≤ length s → written_at 0 part (take room s) ++ drop room s ≡ written_at 0 part s
unfolding written_at
front_over part s room h k =
    let end = 0 + length part in
    append_assoc part (drop end (take room s)) (drop room s)
    ∙ ap (λ l. part ++ l)
    (sym (drop-append-le end (take room s) (drop room s) (omega (arith, length-take-le room s k))) ∙ ap (drop end) (take-append-drop room s))

-- A code is `-` or its number.
pub code_absent : (code : ℕ) → code ≡ absent → code_text code ≡ 45 ∷ []
unfolding code_text
code_absent code e = rw (eq-eqb code absent e)

pub code_number : (code : ℕ) → (code ≡ absent → ⊥) → code_text code ≡ decimal code
unfolding code_text
code_number code e = rw (ne_eqb code absent e)

four : (row : List ℕ) → length row ≡ 4 → row ≡ get_or row 0 0 ∷ (get_or row 1 0 ∷ (get_or row 2 0 ∷ (get_or row 3 0 ∷ [])))
four [] e = absurd (omega arith)
four (a ∷ []) e = absurd (omega arith)
four (a ∷ (b ∷ [])) e = absurd (omega arith)
four (a ∷ (b ∷ (c ∷ []))) e = absurd (omega arith)
four (a ∷ (b ∷ (c ∷ (d ∷ [])))) e = refl
four (a ∷ (b ∷ (c ∷ (d ∷ (f ∷ rest))))) e = absurd (omega arith)

-- A row's line is its word and four codes, each with the byte behind it.
parts_joined : (word a b c d : List ℕ)
    → (((((word ++ (9 ∷ [])) ++ (a ++ (9 ∷ []))) ++ (b ++ (9 ∷ []))) ++ (c ++ (9 ∷ []))) ++ (d ++ (10 ∷ [])))
    ≡ line_of (word ∷ (a ∷ (b ∷ (c ∷ (d ∷ [])))))
unfolding line_of tabbed
parts_joined word a b c d = simp append_assoc

pub node_parts : (row : List ℕ) → length row ≡ 4
    → ((((spelt "node\t" ++ (code_text (get_or row 0 0) ++ (9 ∷ []))) ++ (code_text (get_or row 1 0) ++ (9 ∷ [])))
    ++ (code_text (get_or row 2 0) ++ (9 ∷ [])))
    ++ (code_text (get_or row 3 0) ++ (10 ∷ [])))
    ≡ node_line row
unfolding node_line
node_parts row e =
    parts_joined (spelt "node") (code_text (get_or row 0 0)) (code_text (get_or row 1 0)) (code_text (get_or row 2 0)) (code_text (get_or row 3 0))
    ∙ ap (λ l. line_of (spelt "node" ∷ map code_text l)) (sym (four row e))

-- A refusal's line: its word, number and place.
pub refusal_parts : (refusal : Refusal)
    → ((spelt "refused\t" ++ (decimal (number_of refusal) ++ (9 ∷ []))) ++ (decimal (place_of refusal) ++ (10 ∷ []))) ≡ refusal_text refusal
unfolding refusal_text line_of tabbed
refusal_parts refusal = simp append_assoc

-- What a run prints: two lines of one number each, and the lines of its rows.
pub values_joined : (word number other second rest : List ℕ)
    → ((((word ++ (9 ∷ [])) ++ (number ++ (10 ∷ []))) ++ ((other ++ (9 ∷ [])) ++ (second ++ (10 ∷ [])))) ++ rest)
    ≡ line_of (word ∷ (number ∷ [])) ++ (line_of (other ∷ (second ∷ [])) ++ rest)
unfolding line_of tabbed
values_joined word number other second rest = simp append_assoc

pub done_parts : (weight trials : ℕ) (rows : List ℕ)
    → (((spelt "weight\t" ++ (decimal weight ++ (10 ∷ []))) ++ (spelt "trials\t" ++ (decimal trials ++ (10 ∷ [])))) ++ node_lines rows)
    ≡ done_text weight trials rows
unfolding done_text
done_parts weight trials rows = values_joined (spelt "weight") (decimal weight) (spelt "trials") (decimal trials) (node_lines rows)

-- The lines of a row and of those behind it.
node_lines_more : (row rest : List ℕ) → length row ≡ 4 → node_lines (row ++ rest) ≡ node_line row ++ node_lines rest
unfolding node_lines rows_of flat_map
node_lines_more row rest size =
    let count : length (row ++ rest) / 4 ≡ suc (length rest / 4) = omega (arith, length-append row rest) in
    rw (count, take_at row rest 4 size, drop_at row rest 4 size)

-- The lines of the rows passed are written, and those of the rows ahead are the others.
pub record PuttingRows (start : ℕ) (rows before after : List ℕ) (at : ℕ) (ahead : List ℕ) : Type 0 where
  pub done : List ℕ
  pub wrote : Wrote start done before after at
  pub all : done ++ node_lines ahead ≡ node_lines rows
  pub near : at + 29 * (length ahead / 4) ≤ start + 29 * (length rows / 4)
  pub size : length after ≡ length before

module _ (start : ℕ) (rows before : List ℕ) where
  pub rows_start : PuttingRows start rows before before start rows
  rows_start = record { done = []; wrote = wrote_none start before; all = refl; near = omega arith; size = refl }

  module _ (after : List ℕ) (at : ℕ) where
    pub rows_go : (row rest : List ℕ) → PuttingRows start rows before after at (row ++ rest) → length row ≡ 4
        → start + 29 * (length rows / 4) ≤ length before → (next : List ℕ) (end : ℕ)
        → Wrote at (node_line row) after next end → end ≤ at + 29 → length next ≡ length after
        → PuttingRows start rows before next end rest
    rows_go row rest p size room next end w near same =
        let more : length (row ++ rest) / 4 ≡ suc (length rest / 4) = omega (arith, length-append row rest) in
        let lines : p.done ++ (node_line row ++ node_lines rest) ≡ node_lines rows = rw (← node_lines_more row rest size) p.all in
        record {
          done = p.done ++ node_line row;
          wrote = then_wrote p.wrote w (omega (arith, p.near));
          all = append_assoc p.done (node_line row) (node_lines rest) ∙ lines;
          near = omega (arith, p.near);
          size = same ∙ p.size;
        }

    pub rows_end : (ahead : List ℕ) → PuttingRows start rows before after at ahead → length ahead < 4 → Wrote start (node_lines rows) before after at
    unfolding node_lines rows_of flat_map
    rows_end ahead p h =
        let none : length ahead / 4 ≡ 0 = omega arith in
        let all : node_lines rows ≡ p.done = sym p.all ∙ rw none (append-nil p.done) in
        rw all p.wrote

-- A row's line, part by part.
module _ (row before : List ℕ) (at : ℕ) (size : length row ≡ 4) (room : at + 29 ≤ length before) where
  pub node_wrote : {s1 s2 s3 s4 s5 : List ℕ} {e1 e2 e3 e4 e5 : ℕ} → Wrote at (spelt "node\t") before s1 e1
      → Wrote e1 (code_text (get_or row 0 0) ++ (9 ∷ [])) s1 s2 e2 → Wrote e2 (code_text (get_or row 1 0) ++ (9 ∷ [])) s2 s3 e3
      → Wrote e3 (code_text (get_or row 2 0) ++ (9 ∷ [])) s3 s4 e4 → Wrote e4 (code_text (get_or row 3 0) ++ (10 ∷ [])) s4 s5 e5
      → e5 ≤ at + 29 → Wrote at (node_line row) before s5 e5
  node_wrote a b c d e h =
      rw (← node_parts row size)
      (then_wrote (then_wrote (then_wrote (then_wrote a b (omega (arith, b.behind, c.behind, d.behind, e.behind))) c (omega (arith, c.behind, d.behind, e.behind))) d (omega (arith, d.behind, e.behind))) e (omega (arith, e.behind)))

-- A refusal's line, part by part.
pub refusal_wrote : (refusal : Refusal) (number place : ℕ) → number ≡ number_of refusal → place ≡ place_of refusal
    → (before : List ℕ) → 50 ≤ length before → {s1 s2 s3 : List ℕ} {e1 e2 e3 : ℕ}
    → Wrote 0 (spelt "refused\t") before s1 e1 → Wrote e1 (decimal number ++ (9 ∷ [])) s1 s2 e2
    → Wrote e2 (decimal place ++ (10 ∷ [])) s2 s3 e3 → e3 ≤ 50 → Wrote 0 (refusal_text refusal) before s3 e3
refusal_wrote refusal number place n p before room a b c h =
    let parts : ((spelt "refused\t" ++ (decimal number ++ (9 ∷ []))) ++ (decimal place ++ (10 ∷ []))) ≡ refusal_text refusal =
    rw (n, p) (refusal_parts refusal) in
    rw (← parts) (then_wrote (then_wrote a b (omega (arith, b.behind, c.behind))) c (omega (arith, c.behind)))

-- What a run prints, part by part.
pub done_wrote : (weight trials : ℕ) (rows before : List ℕ) → {s1 s2 s3 : List ℕ} {e1 e2 e3 : ℕ}
    → Wrote 0 (spelt "weight\t" ++ (decimal weight ++ (10 ∷ []))) before s1 e1
    → Wrote e1 (spelt "trials\t" ++ (decimal trials ++ (10 ∷ []))) s1 s2 e2
    → Wrote e2 (node_lines rows) s2 s3 e3 → e2 ≤ length before → Wrote 0 (done_text weight trials rows) before s3 e3
done_wrote weight trials rows before a b c h =
    rw (← done_parts weight trials rows) (then_wrote (then_wrote a b (omega (arith, b.behind))) c h)

-- What a program prints stands within its bytes, and what was put over zeros is printed.
pub prints_within : {room : ℕ} {answer printed : List ℕ} {r : ℕ} → PrintsIn room answer printed r → r ≤ length printed
prints_within {room} {answer} p =
    let size = length-replicate {A = ℕ} room 0 in
    omega (arith, p.count, p.fits, ap length p.bytes, size, length_written 0 answer (replicate room 0) (omega (arith, p.fits, size)))

-- What was put over lent zeros is printed.
pub lent_prints : {room : ℕ} {answer before after printed : List ℕ} {r : ℕ} → before ≡ replicate room 0 → after ≡ printed
    → Puts answer before after r → PrintsIn room answer printed r
lent_prints {room} {answer} zeros left puts =
    record {
      count = puts.count;
      fits = omega (arith, puts.fits, ap length zeros, length-replicate {A = ℕ} room 0);
      bytes = sym left ∙ (puts.bytes ∙ ap (written_at 0 answer) zeros);
    }
