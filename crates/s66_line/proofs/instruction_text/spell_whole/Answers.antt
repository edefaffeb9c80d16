use Rattle.std.proofs.Common.{ℕ, List, ap, arith, length}
use Rattle.s66_line.proofs.InstructionTexts.{characters_fit}
use Rattle.s66_line.proofs.UpperCase.{length-upper}
use Rattle.s66_line.proofs.instruction_text.spell_whole.Goals as goal

pub push_upper_case-requires : goal.push_upper_case-requires
push_upper_case-requires c =
    let fits = characters_fit c.args.bytes.now in
    let same = length-upper c.characters_in.result.now in
    let spelled = ap (λ (bytes : List ℕ). length bytes) c.spell-letters.ensures in
    let rest = ap (λ (bytes : List ℕ). length bytes) c.characters_in.ensures in
    let few = c.requires in
    omega (arith, fits, same, spelled, rest, few)
