use Rattle.std.proofs.Common.{◌++◌, ◌+◌, ◌∙◌, ap, ap₂}
use Rattle.std.proofs.lemmas.Result.{IfOk-equal}
use Rattle.s66_compare.specs.{broken_at, broken_text, place_of}
use Rattle.s66_compare.proofs.broken.push_broken.Goals as goal

pub returns : goal.returns
returns c =
    let out = c.args.out.now.items in
    let new = c.args.new.now in
    let order = c.args.order.now in
    let count = c.count-count.ensures.value in
    let early = c.place_of-early.ensures.place ∙ ap (λ k. place_of k order c.args.number) count in
    let late = c.place_of-late.ensures.place ∙ ap (λ k. place_of k order c.args.missing) count in
    IfOk-equal c.push_broken_at.result c.push_broken_at.new.out.items (out ++ broken_at new (c.place_of-early.result + 1) (c.place_of-late.result + 1)) (out ++ broken_text new order c.args.number c.args.missing) c.push_broken_at.ensures
    (ap₂ (λ e l. out ++ broken_at new (e + 1) (l + 1)) early late)
