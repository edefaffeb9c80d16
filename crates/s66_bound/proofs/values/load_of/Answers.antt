use Rattle.std.proofs.Common.{◌+◌, ap, ◌∙◌}
use Rattle.s66_isa.specs.{Profile, copies_of}
use Rattle.s66_time.specs.{problem_of}
use Rattle.s66_bound.proofs.RemainingSums.{load-is}
use Rattle.s66_bound.proofs.values.load_of.Goals as goal

pub returns : goal.returns
returns c =
    let t = c.args.clock.now in
    ap (λ k. k + c.next-2.result) c.over-2.ensures.value
    ∙ load-is (problem_of t) t.numbers c.args.kind c.remaining_work-work.result c.busy-2.result c.copies-copies.result c.next-2.result
    c.remaining_work-work.ensures.value c.busy-2.ensures.value (c.copies-copies.ensures.value ∙ ap (λ (p : Profile). copies_of p c.args.kind) c.profile.ensures) c.next-2.ensures.value
