pub mod Altered
pub mod Documents
pub mod Examples
pub mod Faults
pub mod Fine
pub mod Lines
pub mod NodePlaces
pub mod DocumentParts
pub mod Evidence
pub mod DocumentReader
pub mod Reading
pub mod Reads
pub mod Said
pub mod Versions
pub mod Refusals
pub use Altered.{replaced, with_line, with_late_line, with_factual_line, with_fact_line, with_step_lines, with_split_of, are_truncated}
pub use Documents.{fact_line, Document, AreIn, AreNumbers, IsLeafLine, SiblingsFit, TreeFits, IsFactLine, IsFactStep, AreFactSteps, AreFacts, has_dominated, names_nodes, is_factual, has_factual}
pub use Documents.{HasItsLeaves, siblings_placed, tree_placed, AreInstructions, IsDocumentWithin, IsDocument, leaf_line, vertex_line, moment_text, step_line, tree_lines, instructions_text, step_lines}
pub use Documents.{facts_text, head_lines, claim_lines, text_headed, document_text, documents_text, AreDocumentsWithin, IsTextWithin, IsText}
pub use Examples.{standard_numbers, after_one, three_multiplies, three_multiplies_text, one_load, one_load_text, late_reader, late_reader_text, by_facts, with_facts, with_load, with_leaf}
pub use Examples.{by_supposition, with_steps, with_profile, with_block, with_times, with_order, with_tree, with_chain, with_name, wholes, with_split, with_split_child, unit_loads, long_text}
pub use Faults.{IsLine, HaveNoNewline, LacksSupposition, MayHead, IsOpenWithin, BeginsWithin, Begins, HasLine, IsBadLine, IsSplitTooMany, IsCut, IsFault}
pub use Fine.{Leave, split_count, AreOfVersion, HasProfile, HasTree, IsPart, IsFine}
pub use Lines.{DocumentLine, Header, Profile, Block, Instruction, Time, Bound, Order, OfFact, OfTree, End, line_bytes, IsVertex, IsLineInRange, first_word, after_first_word, word_in, rest_in}
pub use Lines.{put_front, words_of, words_in, value_after, has_no_leading_zero, is_number, number_in, consed, consed_if, numbers_in, if_count, block_numbers, profile_in, one_number, two_numbers}
pub use Lines.{pair_with, stage_in, front_in, back_in, load_with, load_after, load_in, load_from_with, load_from_in, is_instruction_text, instruction_in, kind_in, alone, header_in, line_with}
pub use Lines.{line_read}
pub use NodePlaces.{trees_from, IsEnd, AreTreeEnds, end_behind, sibling_count, tree_at, IsChildAt, placed_at, IsBelow, IsLineAt}
pub use DocumentParts.{facts_in, Parts, tree_of_lines, document_of, AreWhole}
pub use Evidence.{EvidenceOf, IsEvidence}
pub use DocumentReader.{state, Gives, Steps, StepsEnd}
pub use Reading.{nothing, first_facts, headed, DocumentState, first_state, place_of_instruction, place_of_tree, with_vertex, may_dominate, is_allowed, is_leaf_of, vertex_step, has_room, steps}
pub use Reading.{takes_fact, is_step_of, step, takes_step, with_fact, fact_step, wants_dominated, wants_supposition, is_wanting, end_step, step_at, step_if, and_then, whole_lines, last_bytes}
pub use Reading.{is_header, ended, read_within, read_of}
pub use Reads.{RefusesText}
pub use Said.{said}
pub use Versions.{version, has_suppositions, version_number, version_rule, has_facts, may_suppose}
pub use Refusals.{document_refusal_line}
pub use declared.document_place.DocumentPlace.{DocumentPlace}
pub use declared.document_place.DocumentPlace.TheVariants.{AtBlock, AtBound, AtEnd, AtHeader, AtInstruction, AtOrder, AtProfile, AtTime, AtTree}
pub use declared.error.CertError.{CertError}
pub use declared.error.CertError.TheVariants.{BadLine, OutOfMemory, TooManyNodes, Truncated}
pub use declared.limits.TheConstants.{FACT_LIMIT, LINE_LIMIT, SPLIT_LIMIT, TIME_LIMIT}
pub use declared.version.Version.{Version}
pub use declared.version.Version.TheVariants.{BoundsAlone, EarlierNodes, FactLines, StandingNodes, Suppositions}
