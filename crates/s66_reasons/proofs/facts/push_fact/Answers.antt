use Rattle.std.proofs.Common.{◌++◌, ap, sym}
use Rattle.std.proofs.lemmas.Result.{IfOk-equal}
use Rattle.s66_moments.specs.{FactLine}
use Rattle.s66_facts.specs.{known_of as known_in}
use Rattle.s66_cert.specs.{document_of}
use Rattle.s66_reasons.specs.{fact_sentence}
use Rattle.s66_reasons.proofs.facts.push_fact.Goals as goal

pub returns-in-Pair : goal.returns-in-Pair
returns-in-Pair c =
    IfOk-equal c.push_pair.result _ _ _ c.push_pair.ensures
    (ap (λ (l : FactLine). c.args.out.now.items ++ fact_sentence (document_of c.args.document.now) (known_in c.args.facts.now) l) (sym c.in-Pair.is))
