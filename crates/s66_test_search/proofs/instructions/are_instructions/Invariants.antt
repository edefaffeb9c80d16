use Rattle.std.proofs.Common.{drop}
use Rattle.s66_test_search.proofs.InstructionTexts.{AreInstructions}
use Rattle.s66_test_search.proofs.instructions.are_instructions.Given as goal

abbrev pub invariant-loop-text : goal.invariant-loop-text
invariant-loop-text l = AreInstructions (drop l.text-index l.texts) → AreInstructions l.texts
