use Rattle.std.proofs.Common.{◌≡◌, Bool, true, false, true≢false, [], List, ◌∷◌, refl, sym, subst, inl, inr, if◌then◌else◌}
use Rattle.s66_isa.specs.{Among, BLOCK_LIMIT}
use Rattle.s66_isa.proofs.Lists.{every-each}
use Rattle.s66_model.specs.{IsBound}
use Rattle.s66_cert.specs.{SPLIT_LIMIT, Document, AreDocumentsWithin, IsDocumentWithin}
use Rattle.s66_checker.specs.declared.verdict.Verdict.{Verdict}
use Rattle.s66_checker.specs.{Yes, No, IsTrueClaim, problem_of, verdict}
use Rattle.s66_checker.proofs.GrantedClaims.{verdict-claims, claim-bound}
use Rattle.s66_answer.specs.{Done, Denied}
use Rattle.s66_program.specs.{is_yes}
use Rattle.s66_program.proofs.laws.done_law.Goals as goal

of-them : (ds : List Document) (d : Document) → AreDocumentsWithin BLOCK_LIMIT SPLIT_LIMIT ds → Among d ds → IsDocumentWithin BLOCK_LIMIT SPLIT_LIMIT d
of-them [] d are among = absurd among
of-them (e ∷ ds) d are (inl same) = subst (IsDocumentWithin BLOCK_LIMIT SPLIT_LIMIT) (sym same) are.0
of-them (e ∷ ds) d are (inr later) = of-them ds d are.1 later

yes-claims : (d : Document) (v : Verdict) → v ≡ verdict d → IsDocumentWithin BLOCK_LIMIT SPLIT_LIMIT d → is_yes v ≡ true → IsTrueClaim d
yes-claims d (Yes time bound) is document granted = (verdict-claims BLOCK_LIMIT d time bound document (sym is)).2
yes-claims d (No line reason) is document granted = absurd (true≢false (sym granted))

done-all : (all : Bool) → Done ≡ (if all then Done else Denied) → all ≡ true
done-all true h = refl
done-all false h = absurd (cc)

pub returns : goal.returns
returns c = record {
  done = λ texts input text (ds, read, is, ends). (
    ds,
    read,
    λ d among.
        let granted = every-each (λ e. is_yes (verdict e)) d ds (done-all _ ends) among in
        let claim : IsTrueClaim d = yes-claims d (verdict d) refl (of-them ds d read.0 among) granted in
        (claim, claim-bound d claim),
  );
  each = λ texts input text status (ds, read, is, ends). (
    ds,
    read,
    is,
    λ d time bound among yes.
        let stated = verdict-claims BLOCK_LIMIT d time bound (of-them ds d read.0 among) yes in
        (stated.2, stated.0, subst (IsBound (problem_of d)) (sym stated.1) (claim-bound d stated.2)),
  );
}
