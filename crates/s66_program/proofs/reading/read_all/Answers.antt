use Rattle.std.proofs.Common.{refl, arith}
use Rattle.s66_program.proofs.Calls.{no-call, wants-memory}
use Rattle.s66_program.proofs.reading.read_all.Goals as goal

pub returns-in_err-buffer-clause-err : goal.returns-in_err-buffer-clause-err
returns-in_err-buffer-clause-err g c =
    let reader = g.F.Feed.seen c.args.reader.now in
    wants-memory 0 reader reader c.from_residual.result c.from_residual.ensures refl (grind arith) (no-call reader)
