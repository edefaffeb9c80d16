use Rattle.std.specs.Io.KnownBytes.{Appends}
use Rattle.std.proofs.Common.{◌≡◌, ◌≤◌, ◌-◌, take, length}
use Rattle.s66_device.proofs.device.write_all.Given as goal

abbrev pub invariant-loop-at : goal.invariant-loop-at
invariant-loop-at g l = record {
  within : l.at ≤ length l.text;
  taken : Appends (g.S.Sink.seen l.fn.writer).bytes (g.S.Sink.seen l.writer).bytes (take l.at l.text);
  same : (g.S.Sink.seen l.writer).failures ≡ (g.S.Sink.seen l.fn.writer).failures;
}

abbrev pub decreases-loop-at : goal.decreases-loop-at
decreases-loop-at g l = length l.text - l.at
