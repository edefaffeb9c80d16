use Rattle.std.proofs.Common.{◌≡◌, length}
use Rattle.s66_isa.specs.{numbers}
use Rattle.s66_moments.specs.{moments_among}
use Rattle.s66_cert.specs.{document_of}
use Rattle.s66_checker.specs.{problem_of}
use Rattle.s66_reasons.specs.{first_hop}
use Rattle.s66_reasons.proofs.Hops.{hop_past}
use Rattle.s66_reasons.proofs.known_paths.KnownPaths.hop_among.Given as goal

-- the numbers so far have no such moment
abbrev pub invariant-loop-position : goal.invariant-loop-position
invariant-loop-position l =
    hop_past (document_of l.self) l.left l.from (length (problem_of (document_of l.self)).block) l.position
    ≡ first_hop (document_of l.self) l.left l.from (moments_among (problem_of (document_of l.self)) (numbers (problem_of (document_of l.self)).block))
