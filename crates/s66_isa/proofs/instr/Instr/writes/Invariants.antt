use Rattle.std.proofs.Common.{◌≡◌, map, take}
use Rattle.s66_isa.specs.{register_latency}
use Rattle.s66_isa.proofs.instr.Instr.writes.Given as goal

abbrev pub invariant-loop-write : goal.invariant-loop-write
invariant-loop-write l = l.pairs.items ≡ map register_latency (take l.write-index l.write-items)
