use Rattle.std.proofs.Common.{ap, sym, ◌∙◌, arith, option_map}
use Rattle.s66_isa.specs.{BLOCK_LIMIT}
use Rattle.s66_cert.specs.{state, said}
use Rattle.s66_cert.proofs.LineTexts.{line-is}
use Rattle.s66_cert.proofs.ReaderSteps.{count-kept, fine-kept}
use Rattle.s66_cert.proofs.reader.Reader.take_line.Goals as goal

pub take-requires-clause-range : goal.take-requires-clause-range
take-requires-clause-range c =
    (line-is BLOCK_LIMIT c.args.bytes.now (said c.in-Some.line) (omega arith) (sym c.line_of.ensures ∙ ap (option_map said) c.in-Some.is)).1

pub returns-in-Some-clause-lines : goal.returns-in-Some-clause-lines
returns-in-Some-clause-lines c = count-kept (state c.args.self.now) (state c.take.new.self) c.take.result (said c.in-Some.line) c.take.ensures

pub returns-in-Some-clause-fine : goal.returns-in-Some-clause-fine
returns-in-Some-clause-fine c =
    fine-kept (state c.args.self.now) (state c.take.new.self) c.take.result (said c.in-Some.line)
    (line-is BLOCK_LIMIT c.args.bytes.now (said c.in-Some.line) (omega arith) (sym c.line_of.ensures ∙ ap (option_map said) c.in-Some.is)).1
    c.requires.fine c.take.ensures
