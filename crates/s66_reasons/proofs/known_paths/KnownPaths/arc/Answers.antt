use Rattle.std.proofs.Common.{◌∙◌, None, List, ap, sym}
use Rattle.s66_model.specs.{Problem}
use Rattle.s66_moments.specs.{FactStep, Known, network}
use Rattle.s66_facts.specs.{before_in}
use Rattle.s66_cert.specs.{Parts, document_of}
use Rattle.s66_checker.specs.{known_of, problem_of}
use Rattle.s66_reasons.specs.{arcs, each_left, load_left, with_loads}
use Rattle.s66_reasons.proofs.KnownArcs.{arcs-lines}
use Rattle.s66_reasons.proofs.known_paths.KnownPaths.arc.Goals as goal

pub returns : goal.returns
returns c =
    let d = document_of c.self.inside.document.now in
    let e = c.args.from.now in
    let f = c.args.to.now in
    let lines = c.fact_lines-lines.result.now in
    c.arc_by_lines.ensures
    ∙ ap (λ (q : Problem). with_loads e f (each_left load_left None lines) (network q (before_in c.self.inside.by_lines.now.marks) e f)) c.self.invariant.first.problem
    ∙ ap (λ (known : Known). with_loads e f (each_left load_left None lines) (network (problem_of d) known.before e f)) c.self.invariant.all.known
    ∙ ap (λ (ls : List FactStep). with_loads e f (each_left load_left None ls) (network (problem_of d) (known_of d).before e f)) c.fact_lines-lines.ensures.value
    ∙ sym (arcs-lines d c.self.invariant.first.taken e f)
    ∙ ap (λ (p : Parts). arcs (document_of p) e f) c.self.view_is
