-- Document 01's P cases, all of them: the definitions say what it shows.
use mathlib.Core.Path.{refl}
use mathlib.Core.List.{flat_map}
use Rattle.lists.specs.Members.{every, keep, leading, some_of, alike, firsts, firsts_after}
use Rattle.lists.specs.Counting.{sum, same, occurrences}
use Rattle.lists.specs.Renewed.{renewed_after, renewed}
use Rattle.lists.specs.Ranges.{listed, ascends, ascends_from}
use Rattle.lists.specs.Least.{best_after, best_of, lighter, least, least_of}
use Rattle.lists.specs.Written.{written_at}
use Rattle.refusal.specs.Numbers.{refused_numbers, done_numbers}
use Rattle.entities.specs.Codes.{child_code}
use Rattle.fields.specs.Decimal.{is_digit, value_after, value, leads_well, is_number, digits, decimal}
use Rattle.fields.specs.Fields.{fields_after, fields, tabbed}
use Rattle.fields.specs.Lines.{lines_after, lines, kept_of}
use Rattle.terms.specs.Rules.{rule_good, rule_of}
use Rattle.terms.specs.Rows.{rows_of, term, terms_of}
use Rattle.terms.specs.Counted.{each_once, terms_in, counted as rows_counted}
use Rattle.terms.specs.Good.{modes_good, good_indices, good_row, good_rows, checked}
use Rattle.terms.specs.Letters.{letter_of, counted_letter}
use Rattle.terms.specs.Weight.{weight_of, term_weight, term_letter}
use Rattle.reduction.specs.Reduction.{reduction, rewriting, sorted, put_in, replacement, dropped, stays, settled, reduced_row, is_there}
use Rattle.reduction.specs.Counts.{gone, added, put_behind, rewritten, reduced_behind, counted_reduction, dropped_count}
use Rattle.history.specs.History.{merge_of, next_parent, among, is_open, z_end, rows_after}
use Rattle.history.specs.Lawful.{three_open, paired}
use Rattle.history.specs.Choice.{weight_in}
use Rattle.history.specs.Run.{run_weight}
use Rattle.history.specs.Drops.{counted_after, drop_in, drops}
use Rattle.history.specs.computed.Pairs.{holder, is_lawful, named, entities, pairs_with, lawful_pairs}
use Rattle.history.specs.computed.Choosing.{candidates, chosen}
use Rattle.history.specs.computed.Greedy.{greedy, finished, trials}
use Rattle.history.specs.Flatpack.{absent_leaf, children, walk, rows_for, flatpack}
use Rattle.history.specs.Trials.{trial_total}
use Rattle.obeying.specs.LineForms.{rule_word, header_good, header_by, header_of, merge_good, merge_of_line, header_text, merge_text}
use Rattle.obeying.specs.Obeying.{
  merge_by_hand,
  judged_merge,
  judged_form,
  judged_line,
  obeyed_as,
  obeyed_next,
  obeyed_lines,
  obeyed_header,
  obeyed_texts,
  obeyed,
  obeyed_by_hand,
}
use Rattle.journal.specs.Writing.{line_of, header_behind, lines_of, journal_text}
use Rattle.journal.specs.computed.NewText.{greedy_lines, new_text}
use Rattle.journal.specs.Resuming.{ending, with_journal, roomy, with_terms, resumed}
use Rattle.journal.specs.Promises.{numbers_of, returned, lent_then}
use Rattle.tree.specs.Table.{nodes, child, place_of_code, parent_of, climb}
use Rattle.tree.specs.OneTree.{root_of, leaves_once, absent_once, nodes_once, all_reached, one_tree}
use Rattle.tree.specs.Pairs.{chain_end, pair_under, pair_right, pairs_right}
use Rattle.tree.specs.Check.{codes_good, tree_checked}
use Rattle.tree_weight.specs.Operators.{surviving, operators}
use Rattle.tree_weight.specs.Weight.{edge_under, edges, node_letter, node_weight, row_weight, tree_weight, weighed_terms, weighed_tree, tree_weighed, weight_numbers}
use Rattle.tree.specs.Laying.{row_over, laid_over, laid, modes_in}
use Rattle.tree.specs.Writing.{written_as, tree_written}
use Rattle.slots.specs.Slots.{pair_of, parity_of, leaf_slot, slot_of, slot, unfixed, is_fixed, leaf_of, stands_as, slots}
use Rattle.slots.specs.Nodes.{distance, complete, remaining, largest, farthest, narrowed, active}
use Rattle.choice.specs.Choices.{unassigned, without, numbers, with_z, choices, choices_at}
use Rattle.choice.specs.Choice.{candidates as topphatt_candidates}
use Rattle.choice.specs.computed.Choosing.{larger, better, chosen as topphatt_chosen}
use Rattle.topphatt.specs.Rounds.{before, fixed, fixed_by, after}
use Rattle.topphatt.specs.computed.Rounding.{next, rounds, ended}
use Rattle.topphatt.specs.Answer.{answer_table, done_by, with_room, with_terms as topphatt_with_terms, with_tree, outcome}
use Rattle.topphatt.specs.Promises.{numbers_of as topphatt_numbers, returned as topphatt_returned, lent_then as topphatt_left}
use Rattle.newick.specs.Grammar.{spelled}
use Rattle.newick.specs.Writing.{end_shape, shape_under, newick_text}
use Rattle.terms_text.specs.Input.{modes_line, term_line, well_formed, formed_from, formed, term_row, whole, said}
use Rattle.terms_text.specs.Jobs.{counted, job_with, job_by, job_said}
use Rattle.text.specs.Running.{ran_by, ran}
use Rattle.text.specs.Output.{
  line_of as text_line,
  code_text,
  node_line,
  node_lines,
  done_text,
  printed as run_printed,
  resume_text,
  answer_text,
}
use Rattle.steering.specs.Steering.{steered_as, steered_by, steered, steer_printed, steer_text}
use Rattle.steering.specs.Reasons.{first_closed, reason_of, reason_said, reason_in, reason_by, reason_text}
use Rattle.letters_text.specs.Lettering.{
  letter_sign,
  letter_line,
  letter_lines,
  step_lines,
  asked,
  lettered_at,
  lettered_after,
  lettered_by,
  lettered,
  letters_printed,
  letters_text,
}
use Rattle.nodes_text.specs.TreeInput.{is_code, code_said, says_node, node_row, nodes_formed, tree_whole, tree_said}
use Rattle.drops_text.specs.Dropping.{drop_line, drop_lines, drops_printed, drops_text}
use Rattle.tree_text.specs.Answers.{weighed_with, weighed_as, weight_line, weigh_printed, weigh_text}
use Rattle.assign_text.specs.Assigning.{heuristic_of, assigned_with, row_in, assigned_rows, assign_printed, assign_as, assign_text}
use Rattle.ran_tree.specs.Printing.{written_printed, tree_printed}
use Rattle.strings.specs.Strings.{edge_letter, majorana_letter, string}
use Rattle.strings.specs.Text.{string_sign, string_bytes, string_line, majoranas, strings_text, strings_written}
use Rattle.strings_text.specs.Printing.{table_strings, hatt_strings_text, strings_as, tree_strings_text}
use Rattle.newick_line.specs.NewickLine.{newick_line, newick_printed, newick_answer_text}
use Rattle.call_bytes.specs.Bytes.{word_at, words, two_bytes, eight_bytes}
use Rattle.daemon.specs.Calls.{roomy as bytes_roomy, with_terms as with_bytes, resume_called, hatt_called}
use Rattle.daemon.specs.Promises.{result_of, answer_bytes, lent_then as bytes_left}
use Rattle.p_cases.specs.Cases.{
  holds,
  meant_by,
  resuming,
  told,
  weighing,
  assigning,
  printed,
  calling,
  cases,
  CasesHold,
}

pub cases_hold : CasesHold
unfolding cases holds meant_by rule_good rule_of rule_word header_by resuming told weighing assigning flat_map every keep leading some_of alike firsts firsts_after sum same occurrences listed ascends ascends_from least lighter written_at rows_of term terms_of modes_good good_indices good_row good_rows checked weight_of term_weight term_letter counted_letter letter_of reduction rewriting sorted put_in replacement dropped next_parent among is_open z_end holder rows_after is_lawful three_open paired named entities pairs_with lawful_pairs weight_in candidates least_of chosen greedy finished run_weight trials merge_of child_code absent_leaf children walk rows_for flatpack is_digit value_after value leads_well is_number digits decimal fields_after fields header_good header_of merge_good merge_of_line tabbed header_text merge_text lines_after lines kept_of obeyed_next obeyed_lines obeyed_header obeyed_texts obeyed line_of greedy_lines new_text ending with_journal roomy with_terms resumed returned nodes child place_of_code parent_of climb root_of leaves_once absent_once nodes_once all_reached one_tree chain_end pair_under pair_right pairs_right codes_good tree_checked edge_under edges node_letter node_weight row_weight surviving operators tree_weight weighed_terms tree_weighed pair_of parity_of leaf_slot slot_of slot slots unfixed leaf_of distance complete remaining largest farthest narrowed active unassigned without numbers with_z choices choices_at topphatt_candidates topphatt_chosen before fixed fixed_by after next rounds ended answer_table with_room topphatt_with_terms with_tree outcome topphatt_returned trial_total row_over laid_over laid modes_in spelled end_shape shape_under newick_text written_as tree_written modes_line term_line well_formed formed_from formed term_row whole said resume_text ran_by ran text_line code_text node_line node_lines done_text run_printed answer_text written_printed tree_printed newick_line newick_printed newick_answer_text edge_letter majorana_letter string string_sign string_bytes string_line majoranas strings_text strings_written table_strings hatt_strings_text strings_as tree_strings_text word_at words two_bytes eight_bytes resume_called hatt_called result_of answer_bytes printed calling judged_merge judged_form judged_line obeyed_as header_behind numbers_of lent_then renewed_after renewed stays settled reduced_row refused_numbers done_numbers done_by topphatt_numbers topphatt_left bytes_left best_after best_of weighed_tree weight_numbers stands_as is_fixed larger better bytes_roomy with_bytes merge_by_hand obeyed_by_hand lines_of journal_text steered_as counted job_with job_by job_said steered_by steered steer_printed steer_text first_closed reason_of reason_said reason_in reason_by reason_text is_there letter_sign letter_line letter_lines step_lines asked lettered_at lettered_after lettered_by lettered letters_printed letters_text is_code code_said says_node node_row nodes_formed tree_whole tree_said weighed_with weighed_as weight_line weigh_printed weigh_text heuristic_of assigned_with row_in assigned_rows assign_printed assign_as assign_text each_once terms_in rows_counted gone added put_behind rewritten reduced_behind counted_reduction dropped_count counted_after drop_in drops drop_line drop_lines drops_printed drops_text
cases_hold = refl
