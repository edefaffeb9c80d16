use Rattle.std.proofs.Common.{sym, subst}
use Rattle.s66_cert.specs.{document_of}
use Rattle.s66_checker.specs.{HasTails}
use Rattle.s66_checker.proofs.KnownTails.{has-tails}
use Rattle.s66_checker.proofs.known.Known.after.Goals as goal

pub invariant_of-result : goal.invariant_of-result
invariant_of-result c = (
  subst (λ g. HasTails g) (sym c.into_facts-facts.ensures) (has-tails (document_of c.args.document.now) c.first_untaken.new.supposing.ground c.in_default.ensures.known c.in_default.ensures.taken),
  c.tails-tails.ensures,
)
