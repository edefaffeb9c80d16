use Rattle.std.proofs.Common.{◌≡◌, ◌+◌, ◌-◌, ◌++◌, length, map, filter}
use Rattle.s66_isa.specs.{rising}
use Rattle.s66_model.specs.{is_remaining, remaining}
use Rattle.s66_cert.specs.{document_of}
use Rattle.s66_reasons.specs.{rows_text, last_row}
use Rattle.s66_reasons.proofs.parcels.push_parcels.Given as goal

abbrev pub invariant-loop-position : goal.invariant-loop-position
invariant-loop-position l =
    l.out.items ++ rows_text (map (last_row (document_of l.document) l.prefix.numbers)
    (filter (is_remaining l.prefix.problem.block l.prefix.numbers) (rising (length l.prefix.problem.block - l.position) (l.position + 1))))
    ≡ l.fn.out.items ++ rows_text (map (last_row (document_of l.document) l.prefix.numbers) (remaining l.prefix.problem.block l.prefix.numbers))
