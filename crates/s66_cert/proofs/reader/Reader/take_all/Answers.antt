use Rattle.std.proofs.Common.{arith, take, drop, ◌-◌, ◌∙◌, ap, sym}
use Rattle.s66_isa.specs.{BLOCK_LIMIT}
use Rattle.s66_cert.specs.{SPLIT_LIMIT, steps, state}
use Rattle.s66_cert.proofs.ReaderSteps.{steps-newline, last-newline, cut-more}
use Rattle.s66_cert.proofs.reader.Reader.take_all.Goals.{then-byte-eq10+in_ok-take_line, else-byte-eq10}
use Rattle.s66_cert.proofs.reader.Reader.take_all.Goals as goal

pub loop-i-preserved : goal.loop-i-preserved
loop-i-preserved c =
    let text = c.args.text.now in
    let l = c.loop-i in
    let line = take (l.i - l.begin) (drop l.begin text) in
    elim c.if-byte-eq10.branch [
      | then-byte-eq10+in_ok-take_line w ↦ record {
        begun = rw w.begin-is (omega arith);
        rest = rw (w.self-is, w.begin-is) (steps-newline (state l.self) (state w.take_line.new.self) line text l.i _ c.loop-i-test.true w.if-byte-eq10.true w.in_ok-take_line.ensures.step l.invariant.rest);
        last = rw w.begin-is (last-newline line text l.i _ c.loop-i-test.true w.if-byte-eq10.true l.invariant.last);
        fine = rw w.self-is w.in_ok-take_line.ensures.fine;
        lines = rw w.self-is (omega (arith, w.in_ok-take_line.ensures.lines));
      }
      | else-byte-eq10 w ↦
          let more = cut-more text l.begin l.i l.invariant.begun c.loop-i-test.true w.if-byte-eq10.false in
          record {
            begun = rw w.begin-is (omega arith);
            rest = rw (w.self-is, w.begin-is) (ap (steps BLOCK_LIMIT SPLIT_LIMIT (state l.self)) (sym more.0) ∙ l.invariant.rest);
            last = rw w.begin-is (sym more.1 ∙ l.invariant.last);
            fine = rw w.self-is l.invariant.fine;
            lines = rw w.self-is (omega arith);
          }
    ]
