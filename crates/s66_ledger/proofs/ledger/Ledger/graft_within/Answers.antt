use Rattle.std.proofs.Common.{subst}
use Rattle.s66_ledger.specs.{GraftError, IsRefusedGraft}
use Rattle.s66_ledger.proofs.Rounds.{graft-taken, taken-leads, never-too_large}
use Rattle.s66_ledger.proofs.ledger.Ledger.graft_within.Goals as goal

pub unreachable-requires-in-Err-OverAllowance : goal.unreachable-requires-in-Err-OverAllowance
unreachable-requires-in-Err-OverAllowance c =
    let refused = subst (λ (e : GraftError). IsRefusedGraft c.args.self.now 1 c.args.node c.args.piece.now e c.graft_if.new.self) c.in-Err-OverAllowance.field-0-is c.in-Err-OverAllowance.ensures.refused in
    never-too_large c.args.self.now c.graft_if.new.self c.args.node c.args.piece.now c.requires.within refused

pub returns-in-Ok-clause-leads : goal.returns-in-Ok-clause-leads
returns-in-Ok-clause-leads c =
    taken-leads c.args.self.now c.graft_if.new.self c.args.node c.args.piece.now (graft-taken c.args.self.now c.graft_if.new.self c.args.node c.args.piece.now c.in-Ok.ensures.ok)
