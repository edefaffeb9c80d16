use Rattle.std.proofs.Common.{◌∙◌, Some, ap, sym, subst}
use Rattle.s66_moments.specs.{Issue, Start, At, IsNumber, tail, arcs_of}
use Rattle.s66_facts.specs.{Times, Ground, known_of as known_in}
use Rattle.s66_checker.proofs.KnownTails.{issue-tail, start-tail}
use Rattle.s66_checker.proofs.known.Known.tails.Goals as goal

pub returns : goal.returns
returns c =
    let g : Ground = c.self.inside.facts in
    let n = c.args.n in
    let is_n : IsNumber g.problem n = subst (λ (h : Ground). IsNumber h.problem n) (sym c.self.view_is) c.requires in
    record {
      issue =
          ap (λ (t : Times). t.issue) c.times_at.ensures
          ∙ issue-tail g c.self.invariant.0 c.self.inside.tails c.self.invariant.1 n is_n
          ∙ ap (λ (h : Ground). Some (tail h.problem (arcs_of h.problem (known_in h)) (At n Issue))) c.self.view_is;
      start =
          ap (λ (t : Times). t.start) c.times_at.ensures
          ∙ start-tail g c.self.invariant.0 c.self.inside.tails c.self.invariant.1 n is_n
          ∙ ap (λ (h : Ground). Some (tail h.problem (arcs_of h.problem (known_in h)) (At n Start))) c.self.view_is;
    }
