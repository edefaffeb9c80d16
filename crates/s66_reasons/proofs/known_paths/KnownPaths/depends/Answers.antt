use Rattle.std.proofs.Common.{◌∙◌, ap}
use Rattle.s66_moments.specs.{Known, precedes}
use Rattle.s66_cert.specs.{Parts, document_of}
use Rattle.s66_checker.specs.{problem_of}
use Rattle.s66_reasons.specs.{up_to}
use Rattle.s66_reasons.proofs.known_paths.KnownPaths.depends.Goals as goal

pub returns : goal.returns
returns c =
    c.is_up_to.ensures ∙ ap (λ (known : Known). up_to known.before c.args.m c.args.n) c.self.invariant.first.known
    ∙ ap (λ (p : Parts). up_to (precedes (problem_of (document_of p)).block) c.args.m c.args.n) c.self.view_is
