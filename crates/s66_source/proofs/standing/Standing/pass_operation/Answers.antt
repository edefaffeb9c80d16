use Rattle.std.proofs.Common.{arith, ap, ap₂, length, sym, ◌∙◌}
use Rattle.s66_line.specs.{upper, word}
use Rattle.s66_line.proofs.LineFields.{from_operation_within}
use Rattle.s66_source.specs.{after_operation}
use Rattle.s66_source.proofs.Counted.{counting_text-length}
use Rattle.s66_source.proofs.Standings.{upper-same}
use Rattle.s66_source.proofs.standing.Standing.pass_operation.Goals as goal

pub upper_case-requires : goal.upper_case-requires
upper_case-requires c =
    let few = from_operation_within c.args.body.now in
    let same = ap length c.requires.bytes in
    let within = c.split_word.ensures.word_within in
    omega (arith, few, same, within, c.requires.few)

pub upper_case-requires-else-is_upper_case : goal.upper_case-requires-else-is_upper_case
upper_case-requires-else-is_upper_case c =
    let same = ap length c.counting_text-text.ensures in
    let few = counting_text-length c.args.body.now in
    omega (arith, same, few, c.requires.few)

pub returns-then-is_upper_case-2 : goal.returns-then-is_upper_case-2
returns-then-is_upper_case-2 c =
    let name = sym (upper-same c.split_word.result.0.now (sym c.is_upper_case.ensures ∙ c.if-is_upper_case.true)) ∙ ap upper (c.split_word.ensures.word ∙ ap word c.requires.bytes) in
    let operand = sym (upper-same c.counting_text-text.result.now (sym c.is_upper_case-then-is_upper_case.ensures ∙ c.if-is_upper_case-2.true)) ∙ ap upper c.counting_text-text.ensures in
    c.pass_named.ensures ∙ ap₂ (after_operation c.args.self.now) name operand
