use Rattle.std.specs.Io.KnownBytes.{Appends}
use Rattle.std.proofs.Common.{arith, rules, take, drop}
use Rattle.std.proofs.lemmas.List.{take_rest}
use Rattle.s66_device.proofs.Bytes.{Appends-more}
use Rattle.s66_device.proofs.device.write_all.Goals as goal

pub loop-at-preserved : goal.loop-at-preserved
loop-at-preserved g c =
    let text = c.args.text.now in
    let stated : Appends (g.S.Sink.seen c.loop-at.writer).bytes (g.S.Sink.seen c.sink.new.self).bytes (take c.in-Ok.count (drop c.loop-at.at text)) =
    rw (← take_rest text c.loop-at.at) c.in-Ok.ensures.bytes in
    record {
      within = grind arith;
      taken = Appends-more (g.S.Sink.seen c.args.writer.now).bytes (g.S.Sink.seen c.loop-at.writer).bytes (g.S.Sink.seen c.sink.new.self).bytes text c.loop-at.at c.in-Ok.count c.loop-at.invariant.taken stated;
      same = search rules;
    }
