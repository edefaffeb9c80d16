use Rattle.std.proofs.Common.{◌≡◌, ◌-◌, None, drop, get_or}
use Rattle.s66_cert.specs.{document_of}
use Rattle.s66_reasons.specs.{each_left, pair_left, pairs_left}
use Rattle.s66_reasons.proofs.known_paths.KnownPaths.second_of.Given as goal

-- so many lines are still before it
abbrev pub invariant-loop-line : goal.invariant-loop-line
invariant-loop-line l =
    get_or (each_left pair_left l.to_show (drop l.line-index l.lines)) l.before None ≡ get_or (pairs_left (document_of l.self)) (l.fn.number - 1) None
