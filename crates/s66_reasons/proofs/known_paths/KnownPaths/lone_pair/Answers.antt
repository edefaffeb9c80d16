use Rattle.std.proofs.Common.{◌∙◌, ap}
use Rattle.s66_moments.specs.{Known, precedes}
use Rattle.s66_cert.specs.{Document, Parts, document_of}
use Rattle.s66_checker.specs.{problem_of}
use Rattle.s66_reasons.specs.{pair_by}
use Rattle.s66_reasons.proofs.known_paths.KnownPaths.lone_pair.Goals as goal

pub returns : goal.returns
returns c =
    let d : Document = document_of c.args.self.now in
    c.pair_by.ensures ∙ ap (λ (known : Known). pair_by d known.before c.args.m c.args.n) c.self.invariant.first.known
    ∙ ap (λ (p : Parts). pair_by d (precedes (problem_of (document_of p)).block) c.args.m c.args.n) c.self.view_is
