use Rattle.std.proofs.Common.{length, ap, ◌∙◌}
use Rattle.s66_line.specs.{Block, instrs_of}
use Rattle.s66_node.proofs.Standing.{walked-either}
use Rattle.s66_node.proofs.walk.Walk.is_complete.Goals as goal

pub returns-clause-incomplete : goal.returns-clause-incomplete
returns-clause-incomplete c =
    walked-either c.self.inside.clock _ _ _ _ _ c.args.self.now c.self.invariant c.self.view_is c.len.result c.count.result c.len.ensures.value (c.count.ensures.value ∙ ap (λ (x : Block). length (instrs_of x)) c.block.ensures)
