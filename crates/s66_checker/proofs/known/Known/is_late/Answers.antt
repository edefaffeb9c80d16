use Rattle.std.proofs.Common.{◌≡◌, ◌∙◌, true, leb, refl, ap, sym, subst}
use Rattle.s66_isa.specs.{Row}
use Rattle.s66_model.specs.{Problem, row_at, point_of, points_of, is_remaining}
use Rattle.s66_moments.specs.{next_value}
use Rattle.s66_facts.specs.{Ground, known_of as known_in}
use Rattle.s66_checker.proofs.KnownTails.{late-is}
use Rattle.s66_checker.proofs.known.Known.is_late.Goals as goal

pub returns : goal.returns
returns c =
    let g : Ground = c.self.inside.facts in
    let q = c.args.prefix.now in
    let n = c.args.n in
    let same : q.problem ≡ g.problem = c.requires.problem ∙ sym (ap (λ (h : Ground). h.problem) c.self.view_is) in
    let remains : is_remaining g.problem.block q.numbers n ≡ true = subst (λ (p : Problem). is_remaining p.block q.numbers n ≡ true) same c.requires.number in
    c.is_point_late.ensures
    ∙ late-is g c.self.invariant.0 c.self.inside.tails c.self.invariant.1 q.numbers n c.args.bound remains _ _ _
    (c.next_point-point.ensures.value ∙ ap (λ (p : Problem). point_of p (points_of p q.numbers) n) same)
    (c.as_slice-writes.ensures.value ∙ ap (λ (r : Row). r.writes) (c.behind-prefix.view_is ∙ c.row.ensures ∙ ap (λ (p : Problem). row_at p n) same))
    refl
    ∙ ap (λ (h : Ground). leb c.args.bound (next_value h.problem (known_in h) q.numbers n)) c.self.view_is
