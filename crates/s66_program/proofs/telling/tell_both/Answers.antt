use Rattle.std.proofs.Common.{subst}
use Rattle.s66_device.specs.{Written}
use Rattle.s66_program.proofs.Told.{told-both, told-first}
use Rattle.s66_program.proofs.telling.tell_both.Goals as goal

pub returns-in-Ok : goal.returns-in-Ok
returns-in-Ok g c =
    told-both _ _ _ c.args.first.now c.args.second.now
    (subst (Written (g.S.Sink.seen c.args.errors.now) (g.S.Sink.seen c.write_all.new.writer) c.args.first.now) c.in-Ok.is c.write_all.ensures) c.tell.ensures

pub returns-in-Err : goal.returns-in-Err
returns-in-Err g c =
    told-first _ _ c.args.first.now c.args.second.now
    (subst (Written (g.S.Sink.seen c.args.errors.now) (g.S.Sink.seen c.write_all.new.writer) c.args.first.now) c.in-Err.is c.write_all.ensures)
