pub mod Fields
pub mod Operand
pub mod Choices
pub mod Spelling
pub mod Terms
pub mod InstructionText
pub mod Characters
pub mod Classes
pub mod Blocks
pub use Fields.{last_line, lines_from, lines_of, is_blank, is_return, is_trailing, upper, upper_byte, trim, blanks, body, skip_blanks, word, after_word, is_comment, location, from_location, operation}
pub use Fields.{from_operation, operand, from_operand, continues, label_bytes, is_newline, with_newlines, AreLines, HasFields}
pub use Operand.{is_octal, is_letter_or_digit, digit_of, x_digit, b_digit, is_near, near_front, may_stand, is_constant_from, register_of, is_symbol, is_filled, is_constant, is_sign, terms_from}
pub use Operand.{terms_of, is_expression, boolean_operator, two_x, boolean, b_and_x, shift, normalise, mask, arithmetic_code, arithmetic, population, with_sign, registers_of, are_terms, some_constant}
pub use Operand.{with_constant, without_constant, set_form_of, set, set_code, syntax_of, decode, operation_of, instr_of, constant_of}
pub use Choices.{at_most_one, choices, IsOfTheTable}
pub use Spelling.{operations, CanMean, spellings, all_codes}
pub use Terms.{gather, terms_in, with_register, with_term}
pub use InstructionText.{spelling, operation_in, operand_in, Spells, instr_in_text, IsTextOf, IsInstruction}
pub use Characters.{is_decimal, justifies, ends_term, after_in_term, after_at_term, after_in_count, after_byte_at, place_after, through, still_taken, begins_blank, rest_in, taken_in, is_cut, runs_on}
pub use Characters.{cut, characters_in}
pub use Classes.{class_of_operand, is_pad, is_located, whole_instr, by_operation, class_of, is_instruction, is_code, begins_run, ends_run, instr_in, IsSpelled}
pub use Blocks.{Entry, Block, instrs_of, entry_at, line_of, bytes_of, text_of, whole_text_of, constants_in, entries_of_texts, block_of_texts}
pub use declared.characters.Place.{Place}
pub use declared.characters.Place.TheVariants.{AtEquals, AtLetter, AtTerm, InCharacters, InCount, InSlashes, InStars, InTerm}
pub use declared.class.Class.{Class}
pub use declared.class.Class.TheVariants.{Comment, Instruction, Other, Pad, Refused}
pub use declared.limits.TheConstants.{LINE_BYTES_LIMIT, TEXT_LIMIT}
pub use declared.operand.operation.Syntax.{Syntax}
pub use declared.operand.operation.Syntax.TheVariants.{Arithmetic, Boolean, Mask, Normalise, Population, Set, Shift}
