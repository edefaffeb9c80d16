use Rattle.std.proofs.Common.{◌≡◌, drop}
use Rattle.s66_isa.specs.{every}
use Rattle.s66_checker.specs.{is_reader_no_later, are_readers_no_later}
use Rattle.s66_checker.proofs.replay.dominance.are_readers_no_later.Given as goal

-- all depends on the writes that are left
abbrev pub invariant-loop-write : goal.invariant-loop-write
invariant-loop-write l =
    every (is_reader_no_later l.start l.own l.other) (drop l.write-index l.writes) ≡ are_readers_no_later l.start l.own l.other l.writes
