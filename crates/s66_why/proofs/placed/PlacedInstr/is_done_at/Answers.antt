use Rattle.std.proofs.Common.{◌≡◌, ◌∙◌, ap, arith, sym, ne_eqb}
use Rattle.std.proofs.lemmas.Bool.{lt-leb}
use Rattle.s66_isa.specs.{greatest}
use Rattle.s66_model.specs.{Point, ResultAt, done_at}
use Rattle.s66_why.proofs.Last.{done-le-last}
use Rattle.s66_why.proofs.placed.PlacedInstr.is_done_at.Goals as goal

pub returns-else-time-self : goal.returns-else-time-self
returns-else-time-self c =
    let last : c.self.inside.last ≡ greatest (λ (d : ResultAt). d.time) c.args.self.now.results =
    c.self.invariant.last_is ∙ ap (λ (p : Point). greatest (λ (d : ResultAt). d.time) p.results) c.self.view_is in
    lt-leb c.args.time c.self.inside.last (omega (arith, c.if-time-self.false))
    ∙ sym (ne_eqb (done_at c.args.self.now c.args.register) c.args.time (λ e. omega (arith, c.if-time-self.false, e, last, done-le-last c.args.register c.args.self.now)))
