use Rattle.std.proofs.Common.{◌+◌, subst, sym}
use Rattle.std.proofs.lemmas.List.{take_rest}
use Rattle.memchr.specs.Find.{IsFirstByte, is_byte}
use Rattle.s66_source.proofs.Counted.{after_byte-found, after_byte-none}
use Rattle.s66_source.proofs.counts.after_byte.Goals as goal

pub returns-in_err-at : goal.returns-in_err-at
returns-in_err-at c =
    let bytes = c.args.bytes.now in
    rw c.from_residual.ensures (sym (after_byte-none c.args.delimiter bytes (subst (IsFirstByte (is_byte c.args.delimiter) bytes) c.in_err-at.was c.memchr.ensures)))

pub returns : goal.returns
returns c =
    let bytes = c.args.bytes.now in
    rw (take_rest bytes (c.in_ok-at.at + 1)) (sym (after_byte-found c.args.delimiter bytes c.in_ok-at.at (subst (IsFirstByte (is_byte c.args.delimiter) bytes) c.in_ok-at.was c.memchr.ensures)))
