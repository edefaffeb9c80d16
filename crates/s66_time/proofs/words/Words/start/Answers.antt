use Rattle.std.proofs.Common.{ap, ◌∙◌, max}
use Rattle.s66_isa.specs.{greatest, Row}
use Rattle.s66_model.specs.{done_of}
use Rattle.s66_time.specs.{wait_of}
use Rattle.s66_time.proofs.ClockPoints.{start-words}
use Rattle.s66_time.proofs.words.Words.start.Goals as goal

pub returns : goal.returns
returns c = λ p s is turn issued.
    c.max-2.ensures ∙ ap (max c.args.issue) c.max.ensures
    ∙ start-words p s c.args.self.now c.args.row.now c.args.issue c.greatest-done.result c.memory_wait.result is turn issued
    (c.greatest-done.ensures (done_of s) is.done ∙ ap (greatest (done_of s)) c.as_slice.ensures.value ∙ ap (λ (x : Row). greatest (done_of s) x.reads) c.row.view_is)
    (c.memory_wait.ensures ∙ ap (λ (x : Row). wait_of x.memory c.args.self.now.progress.refs c.args.self.now.progress.stores) c.row.view_is)
