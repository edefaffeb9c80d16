use Rattle.std.proofs.Common.{subst, sym, ◌∙◌}
use Rattle.s66_isa.specs.{IsProfile}
use Rattle.s66_cert.specs.{document_of}
use Rattle.s66_checker.proofs.KeptProfile.{profile-kept}
use Rattle.s66_checker.proofs.check.profile_of.Goals as goal

pub unreachable-requires-in_default-of : goal.unreachable-requires-in_default-of
unreachable-requires-in_default-of c =
    let kept = profile-kept (document_of c.args.document.now) c.profile.ensures.whole.document in
    c.in_default-of.ensures.none (subst IsProfile (sym c.profile.ensures.value ∙ sym c.in-Ok.ensures.1.same) kept)
