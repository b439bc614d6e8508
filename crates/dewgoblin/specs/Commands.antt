-- What a command prints for what is asked, a rule and the terms on standard input, and the file that it is given.
use Rattle.std.specs.Prelude.{cond, List, ℕ}
use Rattle.lists.specs.Members.{alike}
use Rattle.entities.specs.Limits.{most_modes, most_terms}
use Rattle.fields.specs.Texts.{spelt}
use Rattle.terms.specs.declared.rules.Rule.{Rule}
use Rattle.terms.specs.declared.rules.Rule.TheVariants.{Published, Keep}
use Rattle.terms_text.specs.Jobs.{Request}
use Rattle.text.specs.Running.{program_rooms}
use Rattle.text.specs.Output.{resume_text, continue_text}
use Rattle.best.specs.Call.{most_to_try}
use Rattle.best_text.specs.Printing.{best_text}
use Rattle.steering.specs.Steering.{steer_text}
use Rattle.steering.specs.Reasons.{reason_text}
use Rattle.letters_text.specs.Lettering.{letters_text}
use Rattle.drops_text.specs.Dropping.{drops_text}
use Rattle.tree_text.specs.Answers.{check_text, weigh_text}
use Rattle.assign_text.specs.Assigning.{assign_text}
use Rattle.strings_text.specs.Printing.{hatt_strings_text, tree_strings_text}

-- The rule that a command's last word names: `keep`, and any other word the published one.
unfoldable pub rule_named : List ℕ → Rule
rule_named word = cond (alike word (spelt "keep")) Keep Published

-- The commands whose file is a journal or merges by hand. `continue` has the new lines alone, and so has `journal`, for which an empty file is
-- read; the starter lets no other name through.
unfoldable pub journal_command : List ℕ → Request → List ℕ → List ℕ
journal_command name asks file =
    cond (alike name (spelt "resume")) (resume_text program_rooms asks file)
    (cond (alike name (spelt "steer")) (steer_text program_rooms asks file)
    (cond (alike name (spelt "reason")) (reason_text program_rooms asks file)
    (cond (alike name (spelt "drops")) (drops_text program_rooms asks file)
    (continue_text program_rooms asks file))))

-- Those whose file is a tree. `assign` has one more word, the heuristic's, and so has `letters`, whose file is a journal: the step's.
unfoldable pub command_text : List ℕ → List ℕ → Request → List ℕ → List ℕ
command_text name word asks file =
    cond (alike name (spelt "check")) (check_text most_modes file)
    (cond (alike name (spelt "weigh")) (weigh_text program_rooms file asks.text)
    (cond (alike name (spelt "assign")) (assign_text program_rooms file word asks)
    (cond (alike name (spelt "letters")) (letters_text program_rooms asks file word)
    (journal_command name asks file))))

-- `best` is for the terms alone: no file is read, and no rule is in it.
unfoldable pub terms_command : List ℕ → List ℕ → Request → List ℕ → List ℕ
terms_command name word asks file =
    cond (alike name (spelt "best")) (best_text most_to_try most_terms asks.text) (command_text name word asks file)

-- Those whose answers are longer: `strings` has the strings of the tree that its file is, and `hatt_strings`, for which no file is read, of
-- the tree that HATT builds.
unfoldable pub strings_command : List ℕ → Request → List ℕ → List ℕ
strings_command name asks file =
    cond (alike name (spelt "strings")) (tree_strings_text most_modes file) (hatt_strings_text program_rooms asks)
