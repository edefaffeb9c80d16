use Rattle.std.proofs.Common.{◌≡◌, drop}
use Rattle.s66_model.specs.{share}
use Rattle.s66_checker.proofs.replay.needs.share.Given as goal

abbrev pub invariant-loop-register : goal.invariant-loop-register
invariant-loop-register l = share (drop l.register-index l.registers) l.others ≡ share l.registers l.others
