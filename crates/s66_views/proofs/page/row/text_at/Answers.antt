use Rattle.std.proofs.Common.{ℕ, List, ap, get_or, sym, ◌∙◌}
use Rattle.s66_line.specs.{bytes_of}
use Rattle.s66_time.specs.Ordered.{Ordered}
use Rattle.s66_time.proofs.Positions.{number-at}
use Rattle.s66_views.proofs.page.row.text_at.Goals as goal

pub returns : goal.returns
returns c =
    let t = c.args.timed.now in
    let i = c.args.position in
    c.bytes.ensures.value ∙ ap (bytes_of c.args.block.now) (ap (λ (ns : List ℕ). get_or ns i 0) (c.numbers.ensures.value ∙ ap (λ (o : Ordered). o.numbers) c.order.ensures.value) ∙ sym (number-at t i c.requires.position))
