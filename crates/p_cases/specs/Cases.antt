-- "Marked P: proved of the definitions, one table, one claim."
use Rattle.std.specs.Prelude.{◌≡◌, Bool, true, ◌&&◌, List, [], ◌∷◌, ◌++◌, ℕ, ◌*◌, ◌/◌, length, replicate}
use Rattle.lists.specs.Members.{every, alike}
use Rattle.entities.specs.Codes.{absent}
use Rattle.entities.specs.Limits.{most_modes, row_width, work_width}
use Rattle.fields.specs.Texts.{spelt}
use Rattle.terms.specs.declared.rules.Rule.{Rule}
use Rattle.terms.specs.declared.rules.Rule.TheVariants.{Published, Keep}
use Rattle.terms.specs.Rules.{rule_number}
use Rattle.history.specs.Trials.{trial_total}
use Rattle.journal.specs.Resuming.{Outcome, resumed}
use Rattle.journal.specs.Promises.{numbers_of, returned, lent, lent_then}
use Rattle.tree_weight.specs.Weight.{tree_weighed, weight_numbers}
use Rattle.topphatt.specs.Answer.{asked, outcome}
use Rattle.topphatt.specs.Promises.{numbers_of as assign_numbers, returned as assigned, lent as assign_lent, lent_then as assign_left}
use Rattle.newick.specs.Writing.{newick_text}
use Rattle.terms_text.specs.Jobs.{request}
use Rattle.text.specs.Running.{program_rooms}
use Rattle.text.specs.Output.{answer_text}
use Rattle.steering.specs.Steering.{steer_text}
use Rattle.steering.specs.Reasons.{reason_text}
use Rattle.letters_text.specs.Lettering.{letters_text}
use Rattle.drops_text.specs.Dropping.{drops_text}
use Rattle.tree_text.specs.Answers.{weigh_text}
use Rattle.assign_text.specs.Assigning.{assign_text}
use Rattle.newick_line.specs.NewickLine.{newick_answer_text}
use Rattle.strings_text.specs.Printing.{hatt_strings_text, tree_strings_text}
use Rattle.daemon.specs.Calls.{lent as bytes_lent, hatt_called}
use Rattle.daemon.specs.Promises.{result_of, lent_then as bytes_left}

-- What a caller sees of a call: the numbers that it returns, refusal and place before the others; the rows or the table that it
-- wrote; the lines that it wrote.
pub record Seen : Type 0 where
  pub numbers : List ℕ
  pub rows : List ℕ
  pub lines : List ℕ

-- What the definitions say, and what document 01 shows.
pub record Case : Type 0 where
  pub says : Seen
  pub shown : Seen

abbrev pub shows : Seen → List ℕ → List ℕ → List ℕ → Case
shows says numbers rows lines = record { says = says; shown = record { numbers = numbers; rows = rows; lines = lines } }

-- The two are the same.
unfoldable pub holds : Case → Bool
holds case =
    alike case.says.numbers case.shown.numbers
    && (alike case.says.rows case.shown.rows && alike case.says.lines case.shown.lines)

-- Rows of one, two, three and four indices.
abbrev pub one : ℕ → List ℕ
one a = 1 ∷ a ∷ 0 ∷ 0 ∷ 0 ∷ 0 ∷ 0 ∷ 0 ∷ []

abbrev pub two : ℕ → ℕ → List ℕ
two a b = 2 ∷ a ∷ b ∷ 0 ∷ 0 ∷ 0 ∷ 0 ∷ 0 ∷ []

abbrev pub three : ℕ → ℕ → ℕ → List ℕ
three a b c = 3 ∷ a ∷ b ∷ c ∷ 0 ∷ 0 ∷ 0 ∷ 0 ∷ []

abbrev pub four : ℕ → ℕ → ℕ → ℕ → List ℕ
four a b c d = 4 ∷ a ∷ b ∷ c ∷ d ∷ 0 ∷ 0 ∷ 0 ∷ []

-- P3's terms: "rows 01, 23, 0123".
abbrev pub terms3 : List ℕ
terms3 = two 0 1 ++ (two 2 3 ++ four 0 1 2 3)

-- P3's terms as the programs read them.
abbrev pub input3 : List ℕ
input3 = spelt "modes\t2\nterm\t0\t1\nterm\t2\t3\nterm\t0\t1\t2\t3\n"

-- P3's tree: "(2,3,4; 0,5,-)".
abbrev pub tree3 : List ℕ
tree3 = 2 ∷ 3 ∷ 4 ∷ 0 ∷ 5 ∷ absent ∷ []

-- The same as `node` lines.
abbrev pub nodes3 : List ℕ
nodes3 = spelt "node\t1\t0\t5\t-\nnode\t0\t2\t3\t4\n"

-- The work that is asked for: "9T work numbers".
abbrev pub work_room : List ℕ → ℕ
work_room terms = work_width * (length terms / row_width)

-- What resuming by a rule means; the rooms for work, rows and drops are as 01 and 02 ask for.
unfoldable pub meant_by : Rule → ℕ → List ℕ → List ℕ → ℕ → Outcome
meant_by rule modes terms journal room =
    resumed (record { modes = most_modes; work = work_room terms; rows = 4 * modes; journal = room; drops = modes }) modes (rule_number rule) terms journal

-- The same by the published rule.
abbrev pub meant : ℕ → List ℕ → List ℕ → ℕ → Outcome
meant modes terms journal room = meant_by Published modes terms journal room

-- What resuming shows: refusal, place, weight, trials, kept and new bytes.
unfoldable pub resuming : Outcome → Seen
resuming outcome =
    let left = lent_then outcome (lent [] [] [] []) in
    record { numbers = numbers_of (returned outcome); rows = left.rows; lines = left.journal }

-- Nothing but numbers.
unfoldable pub told : List ℕ → Seen
told numbers = record { numbers = numbers; rows = []; lines = [] }

-- What the tree weight shows: refusal, place, weight.
unfoldable pub weighing : ℕ → List ℕ → List ℕ → Seen
weighing modes tree terms = told (weight_numbers (tree_weighed most_modes modes tree terms))

-- What assigning shows under `min_weight` and the published rule: refusal, place, weight.
unfoldable pub assigning : ℕ → List ℕ → List ℕ → Seen
assigning modes tree terms =
    let came = outcome (record { modes = most_modes; work = work_room terms; table = length tree }) (asked modes (rule_number Published) tree 0 terms) in
    record { numbers = assign_numbers (assigned came); rows = (assign_left came (assign_lent [] [])).table; lines = [] }

-- Nothing but lines.
unfoldable pub printed : List ℕ → Seen
printed lines = record { numbers = []; rows = []; lines = lines }

-- What a call from C shows: its result and the bytes of its answer, the bytes of its rows, the lines.
unfoldable pub calling : Outcome → Seen
calling outcome =
    let left = bytes_left outcome (bytes_lent [] [] []) in
    record { numbers = result_of outcome ∷ left.answer; rows = left.rows; lines = left.journal }

-- A number below 256 in eight bytes.
abbrev pub eight : ℕ → List ℕ
eight v = v ∷ 0 ∷ 0 ∷ 0 ∷ 0 ∷ 0 ∷ 0 ∷ 0 ∷ []

-- P1: n=1, row 0 1
abbrev pub p1 : Outcome
p1 = meant 1 (two 0 1) [] 37

-- P3: n=2, rows 01, 23, 0123; greedy and tree weight 4; trials 14
abbrev pub p3 : Outcome
p3 = meant 2 terms3 [] 58

-- P5: P3's terms, journal of its header and `0 0 1 4 2`
abbrev pub p5 : Outcome
p5 = meant 2 terms3 (spelt "hatt\t1\t2\t3\n0\t0\t1\t4\t2\n") 58

unfoldable pub cases : List Case
cases =
    shows (resuming p1) (0 ∷ 0 ∷ 1 ∷ 2 ∷ 0 ∷ 21 ∷ []) (0 ∷ 1 ∷ 2 ∷ absent ∷ []) (spelt "hatt\t1\t1\t1\n0\t0\t1\t2\t1\n")
    -- P2: that row twice
    ∷ shows (resuming (meant 1 (two 0 1 ++ two 0 1) [] 37)) (0 ∷ 0 ∷ 2 ∷ 2 ∷ 0 ∷ 21 ∷ []) (0 ∷ 1 ∷ 2 ∷ absent ∷ [])
    (spelt "hatt\t1\t1\t2\n0\t0\t1\t2\t2\n")
    ∷ shows (resuming p3) (0 ∷ 0 ∷ 4 ∷ 14 ∷ 0 ∷ 31 ∷ []) (1 ∷ 0 ∷ 5 ∷ absent ∷ 0 ∷ 2 ∷ 3 ∷ 4 ∷ [])
    (spelt "hatt\t1\t2\t3\n0\t0\t1\t2\t2\n1\t5\t3\t4\t2\n")
    ∷ shows (weighing 2 tree3 terms3) (0 ∷ 0 ∷ 4 ∷ []) [] []
    -- P4: n=2, the one-index row 2 listed twice; greedy 1, tree weight 1 ("P4's tree weight becomes 1")
    ∷ shows (resuming (meant 2 (one 2 ++ one 2) [] 58)) (0 ∷ 0 ∷ 1 ∷ 14 ∷ 0 ∷ 31 ∷ []) (1 ∷ 4 ∷ 0 ∷ absent ∷ 0 ∷ 2 ∷ 3 ∷ 5 ∷ [])
    (spelt "hatt\t1\t2\t2\n0\t0\t1\t3\t0\n1\t2\t5\t4\t1\n")
    ∷ shows (weighing 2 (2 ∷ 3 ∷ 5 ∷ 4 ∷ 0 ∷ absent ∷ []) (one 2 ++ one 2)) (0 ∷ 0 ∷ 1 ∷ []) [] []
    ∷ shows (resuming p5) (0 ∷ 0 ∷ 4 ∷ 2 ∷ 21 ∷ 10 ∷ []) (1 ∷ 4 ∷ 5 ∷ 0 ∷ 0 ∷ 2 ∷ 3 ∷ absent ∷ []) (spelt "1\t2\t3\t5\t2\n")
    -- P6: the same with weight 1
    ∷ shows (resuming (meant 2 terms3 (spelt "hatt\t1\t2\t3\n0\t0\t1\t4\t1\n") 58)) (11 ∷ 1 ∷ 0 ∷ 0 ∷ 0 ∷ 0 ∷ []) [] []
    -- P7: P3's lines in exchanged order
    ∷ shows (resuming (meant 2 terms3 (spelt "hatt\t1\t2\t3\n1\t5\t3\t4\t2\n0\t0\t1\t2\t2\n") 58)) (8 ∷ 1 ∷ 0 ∷ 0 ∷ 0 ∷ 0 ∷ []) [] []
    -- P8: assign P3's tree, row 1
    ∷ shows (assigning 2 tree3 (one 1)) (0 ∷ 0 ∷ 0 ∷ []) (4 ∷ 5 ∷ 2 ∷ 0 ∷ 3 ∷ absent ∷ []) []
    -- P9: the same tree, P3's terms
    ∷ shows (assigning 2 tree3 terms3) (0 ∷ 0 ∷ 2 ∷ []) tree3 []
    -- P10: trials for n=256
    ∷ shows (told (trial_total 256 ∷ [])) (22435072 ∷ []) [] []
    -- P3 as the program `hatt` prints it, as the program `newick` does, and as the Newick text of its tree
    ∷ shows (printed (answer_text program_rooms input3)) [] [] (spelt "weight\t4\ntrials\t14\nnode\t1\t0\t5\t-\nnode\t0\t2\t3\t4\n")
    ∷ shows (printed (newick_answer_text program_rooms input3)) [] [] (spelt "((m0,m1,m2)n0,m3,e)n1;\n")
    ∷ shows (printed (newick_text 2 tree3)) [] [] (spelt "((m0,m1,m2)n0,m3,e)n1;")
    -- and the strings of its tree, as `strings` prints them for the terms and for the tree
    ∷ shows (printed (hatt_strings_text program_rooms (request Published input3))) [] [] (spelt "0\tXX\n1\tYX\n2\tZX\n3\tIY\n")
    ∷ shows (printed (tree_strings_text most_modes nodes3)) [] [] (spelt "0\tXX\n1\tYX\n2\tZX\n3\tIY\n")
    -- P5's journal as the command `steer` makes it of one merge; what `reason` tells of P6's line
    ∷ shows (printed (steer_text program_rooms (request Published input3) (spelt "0\t1\t4\n"))) [] [] (spelt "hatt\t1\t2\t3\n0\t0\t1\t4\t2\n")
    ∷ shows (printed (reason_text program_rooms (request Published input3) (spelt "hatt\t1\t2\t3\n0\t0\t1\t4\t1\n"))) [] [] (spelt "weight\t2\n")
    -- P3's first step, of 0, 1 and 2, as `letters` tells it: all three stand in the third term, so it has none
    ∷ shows (printed (letters_text program_rooms (request Published input3) [] (spelt "0"))) [] [] (spelt "0\tZ\n1\tZ\n2\t-\n")
    -- P3's drops as `drops` prints them: its first merge leaves only the parent of the first term, its second of the other two
    ∷ shows (printed (drops_text program_rooms (request Published input3) [])) [] [] (spelt "0\t1\n1\t2\n")
    -- P3's tree as `weigh` reads and prints it, and P8 as `assign` does
    ∷ shows (printed (weigh_text program_rooms nodes3 input3)) [] [] (spelt "weight\t4\n")
    ∷ shows (printed (assign_text program_rooms nodes3 (spelt "min_weight") (request Published (spelt "modes\t2\nterm\t1\n")))) [] []
    (spelt "weight\t0\nnode\t1\t0\t3\t-\nnode\t0\t4\t5\t2\n")
    -- P1 called from C: 0, then weight 1, trials 2, nothing kept, 21 bytes new
    ∷ shows
    (calling
    (hatt_called most_modes 1 (2 ∷ 0 ∷ 0 ∷ 0 ∷ 1 ∷ 0 ∷ 0 ∷ 0 ∷ 0 ∷ 0 ∷ 0 ∷ 0 ∷ 0 ∷ 0 ∷ 0 ∷ 0 ∷ [])
    (bytes_lent (replicate 8 0) (replicate 37 0) (replicate 32 0))))
    (0 ∷ (eight 1 ++ (eight 2 ++ (eight 0 ++ eight 21)))) (0 ∷ 0 ∷ 1 ∷ 0 ∷ 2 ∷ 0 ∷ 255 ∷ 255 ∷ [])
    (spelt "hatt\t1\t1\t1\n0\t0\t1\t2\t1\n")
    -- n=2, the one row 0 1 2: the first merge leaves only its parent. Dropped, it weighs nothing; kept, it weighs 1 at the second.
    ∷ shows (resuming (meant 2 (three 0 1 2) [] 58)) (0 ∷ 0 ∷ 0 ∷ 14 ∷ 0 ∷ 31 ∷ []) (1 ∷ 0 ∷ 5 ∷ absent ∷ 0 ∷ 2 ∷ 3 ∷ 4 ∷ [])
    (spelt "hatt\t1\t2\t1\n0\t0\t1\t2\t0\n1\t5\t3\t4\t0\n")
    ∷ shows (resuming (meant_by Keep 2 (three 0 1 2) [] 58)) (0 ∷ 0 ∷ 1 ∷ 14 ∷ 0 ∷ 31 ∷ []) (1 ∷ 0 ∷ 5 ∷ absent ∷ 0 ∷ 2 ∷ 3 ∷ 4 ∷ [])
    (spelt "keep\t1\t2\t1\n0\t0\t1\t2\t0\n1\t5\t3\t4\t1\n")
    -- The journal of the one given to the other: 7
    ∷ shows (resuming (meant 2 (three 0 1 2) (spelt "keep\t1\t2\t1\n") 58)) (7 ∷ 0 ∷ 0 ∷ 0 ∷ 0 ∷ 0 ∷ []) [] []
    ∷ []

-- The claim: every case of the table holds.
abbrev pub CasesHold : Type 0
CasesHold = every holds cases ≡ true
