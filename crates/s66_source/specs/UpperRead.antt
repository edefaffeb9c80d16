-- To be believed: what is read of a source, but for the case of letters: labels and bytes in upper case, instructions and lines as they are.
use Rattle.std.specs.Prelude.{List, map, Result, Ok, Err}
use Rattle.s66_line.specs.{upper, Entry, Block}
use Rattle.s66_source.specs.declared.error.SourceError.{SourceError}

abbrev pub upper_entry : Entry → Entry
upper_entry e = record { instr = e.instr; line = e.line; bytes = upper e.bytes }

abbrev pub upper_block : Block → Block
upper_block b = record { label = upper b.label; entries = map upper_entry b.entries }

abbrev pub upper_read : Result (List Block) SourceError → Result (List Block) SourceError
upper_read (Ok blocks) = Ok (map upper_block blocks)
upper_read (Err e) = Err e
