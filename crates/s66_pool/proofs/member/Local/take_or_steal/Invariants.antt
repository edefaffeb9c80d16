use Rattle.std.proofs.Common.{◌≡◌, vec_len}
use Rattle.s66_pool.specs.{IsSameLocal}
use Rattle.s66_pool.proofs.member.Local.take_or_steal.Given as goal

abbrev pub invariant-loop-i : goal.invariant-loop-i
invariant-loop-i l = record { same : IsSameLocal l.fn.self l.self; count : vec_len l.self.victims ≡ vec_len l.initial.self.victims }
