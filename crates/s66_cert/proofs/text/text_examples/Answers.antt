use Rattle.std.specs.Fmt.{digits}
use Rattle.std.proofs.Common.{rules}
use Rattle.s66_line.proofs.InstructionTexts.{instruction}
use Rattle.s66_cert.proofs.Texts.{only-nothing, other-version, unfinished-line}
use Rattle.s66_cert.proofs.text.text_examples.Goals as goal

pub returns : goal.returns
unfolding digits
returns c = record {
  three_multiplies_text = search rules;
  three_multiplies_is_read = search (rules, instruction);
  store_then_load_text = search rules;
  store_then_load_is_read = search (rules, instruction);
  one_load_text = search rules;
  one_load_is_read = search (rules, instruction);
  two_booleans_text = search rules;
  two_booleans_is_read = search (rules, instruction);
  zero_register_text = search rules;
  zero_register_is_read = search (rules, instruction);
  extremes_text = search rules;
  extremes_is_read = search (rules, instruction);
  late_reader_text = search rules;
  late_reader_is_read = search (rules, instruction);
  standing_nodes_text = search rules;
  standing_nodes_are_read = search (rules, instruction);
  by_facts_text = search rules;
  by_facts_is_read = search (rules, instruction);
  by_supposition_text = search rules;
  by_supposition_is_read = search (rules, instruction);
  load_text = search rules;
  each_unit_load = search rules;
  standard_profile = search rules;
  uneven_profile = search rules;
  two_documents = search (rules, instruction);
  no_document = search rules;
  nothing_is_read_of_no_text = only-nothing;
  other_version = other-version;
  unfinished_line = unfinished-line;
  text_goes_on = search (rules, instruction);
  no_document_alone = search rules;
  no_document_behind_one = search rules;
}
