use Rattle.std.proofs.Common.{sym, ap, ◌∙◌, arith}
use Rattle.std.proofs.lemmas.Result.{err_from_is_err_and}
use Rattle.s66_source.specs.{flagged_from, put_lines, lines_step, state}
use Rattle.s66_source.proofs.FlaggedLines.{flagged-found}
use Rattle.s66_source.proofs.ReaderLines.{lines_step-found, Steps-found}
use Rattle.s66_source.proofs.reader.Reader.take_all.Goals as goal

pub loop-line-preserved : goal.loop-line-preserved
loop-line-preserved c =
    let self = c.loop-line.self in
    let rest = c.loop-line.rest.now in
    let line = c.in-Some.line.now in
    let more = c.in-Some.more.now in
    let cut = c.in-Some.ensures.line in
    let taken = c.in_ok-take_line.ensures in
    let next = c.is_continued-continued.ensures in
    record {
      rest = rw (taken.cut, taken.standing) (lines_step-found self.cut self.standing (state self) (state c.take_line.new.self) rest line more c.is_continued-continued.result _ cut next taken.step c.loop-line.invariant.rest);
      kept = rw (taken.kept, taken.after_code, taken.cut, taken.standing)
          (sym (ap (put_lines self.after_code self.kept) (flagged-found self.cut self.standing rest line more c.is_continued-continued.result cut next)) ∙ c.loop-line.invariant.kept);
      few = taken.few;
      lines = taken.lines;
      bodies = taken.bodies;
      continued = rw taken.cut next;
      within = (let within = c.loop-line.invariant.within in omega (arith, within, c.in-Some.ensures.shorter));
    }

pub returns-in_err-take_line-clause-step : goal.returns-in_err-take_line-clause-step
returns-in_err-take_line-clause-step c =
    let self = c.loop-line.self in
    let p = err_from_is_err_and c.from_residual.result c.from_residual.ensures.1 in
    rw (p.1, p.2)
    (Steps-found self.cut self.standing c.in_err-take_line.field-0.0 (state self) (state c.take_line.new.self) (state c.take_line.new.self) c.loop-line.rest.now c.in-Some.line.now c.in-Some.more.now c.is_continued-continued.result _ c.in-Some.ensures.line c.is_continued-continued.ensures
    c.in_err-take_line.ensures.step c.loop-line.invariant.rest)

pub returns-clause-kept : goal.returns-clause-kept
returns-clause-kept c =
    let self = c.loop-line.self in
    sym (ap (λ lines. put_lines self.after_code self.kept (flagged_from self.cut self.standing lines)) c.in_default.ensures.none) ∙ c.loop-line.invariant.kept

pub returns-clause-step : goal.returns-clause-step
returns-clause-step c =
    let self = c.loop-line.self in
    sym c.loop-line.invariant.rest ∙ ap (λ lines. lines_step (state self) (flagged_from self.cut self.standing lines)) c.in_default.ensures.none
