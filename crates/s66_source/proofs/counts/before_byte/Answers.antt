use Rattle.std.proofs.Common.{subst, sym}
use Rattle.memchr.specs.Find.{IsFirstByte, is_byte}
use Rattle.s66_source.proofs.Counted.{before_byte-found, before_byte-none}
use Rattle.s66_source.proofs.counts.before_byte.Goals as goal

pub returns-in-Some-clause-value : goal.returns-in-Some-clause-value
returns-in-Some-clause-value c =
    let bytes = c.args.bytes.now in
    sym (before_byte-found c.args.delimiter bytes c.in-Some.at (subst (IsFirstByte (is_byte c.args.delimiter) bytes) c.in-Some.is c.memchr.ensures))

pub returns-in-None-clause-value : goal.returns-in-None-clause-value
returns-in-None-clause-value c =
    let bytes = c.args.bytes.now in
    sym (before_byte-none c.args.delimiter bytes (subst (IsFirstByte (is_byte c.args.delimiter) bytes) c.in-None.is c.memchr.ensures))
