use Rattle.std.proofs.Common.{◌+◌, ◌∙◌, ◌++◌, take, rules, arith, length-append}
use Rattle.s66_program.proofs.Calls.{consumes-more, one-read, wants-memory}
use Rattle.s66_program.proofs.ReadInput.{kept-more}
use Rattle.s66_program.proofs.reading.read_through.Goals as goal

pub returns-in_err-put-in-Ok-clause-err : goal.returns-in_err-put-in-Ok-clause-err
returns-in_err-put-in-Ok-clause-err g c =
    let made = one-read c.calls.counter _ c.in-Ok.count (g.F.Feed.seen c.args.reader.now) (g.F.Feed.seen c.calls.reader) (g.F.Feed.seen c.feed.new.self) (search rules) (grind arith) c.calls.invariant.made c.in-Ok.ensures.ok in
    let same = c.in-Ok.ensures.ok.4 ∙ c.calls.invariant.same in
    wants-memory (c.calls.counter + 1) (g.F.Feed.seen c.args.reader.now) (g.F.Feed.seen c.feed.new.self) c.from_residual.result c.from_residual.ensures same (grind arith) made

pub calls-preserved : goal.calls-preserved
calls-preserved g c =
    let (input, taken, some, kept) = c.calls.invariant.taken in
    let bytes = take c.in-Ok.count c.feed.new.buffer in
    record {
      taken = (
        input ++ bytes,
        consumes-more (g.F.Feed.seen c.args.reader.now).bytes (g.F.Feed.seen c.calls.reader).bytes (g.F.Feed.seen c.feed.new.self).bytes input bytes taken c.in-Ok.ensures.bytes.0,
        grind (arith, length-append input bytes),
        kept-more c.args.most input bytes c.calls.held.items c.put.new.held.items kept (search rules),
      );
      same = c.in-Ok.ensures.ok.4 ∙ c.calls.invariant.same;
      made = one-read c.calls.counter _ c.in-Ok.count (g.F.Feed.seen c.args.reader.now) (g.F.Feed.seen c.calls.reader) (g.F.Feed.seen c.feed.new.self) (search rules) (grind arith) c.calls.invariant.made c.in-Ok.ensures.ok;
    }
