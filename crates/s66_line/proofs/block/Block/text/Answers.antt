use Rattle.s66_line.proofs.InstructionTexts.{text-of_bytes}
use Rattle.s66_line.proofs.block.Block.text.Goals as goal

pub returns-clause-is_text : goal.returns-clause-is_text
returns-clause-is_text c = rw c.spell.ensures (text-of_bytes c.bytes.result.now _ c.bytes.ensures.spells c.bytes.ensures.few)
