use Rattle.std.proofs.Common.{◌≡◌, ◌++◌, [], codes, refl, inl, subst, sym, arith, leb-true}
use Rattle.s66_isa.specs.{Among}
use Rattle.s66_model.specs.{value, Tree, AtTerminal, Ending, Bounding, Factual, Next, Turned, LoadFrom}
use Rattle.s66_model.proofs.Remaining.{legal-parts, remaining-parts}
use Rattle.s66_model.proofs.Trees.{leaf-sound}
use Rattle.s66_moments.specs.{arcs_of, next_value}
use Rattle.s66_cert.specs.{tree_placed}
use Rattle.s66_checker.specs.{known_of, problem_of}
use Rattle.s66_checker.proofs.GrantedClaims.{granted}
use Rattle.s66_reasons.specs.{leaf_rows, end_by, lines_before, pair_words, refuted_sentence, too_late_words, IsThroughShown}
use Rattle.s66_reasons.proofs.Claimed.{claimed-leaf, faultless, granted-each, granted-next, granted-turned, right-each}
use Rattle.s66_reasons.proofs.EndLines.{end-named}
use Rattle.s66_reasons.proofs.PathEnds.{has-none_sooner, load-shown, path-shown}
use Rattle.s66_reasons.proofs.Rows.{rows-end}
use Rattle.s66_reasons.proofs.Sentences.{pair-shown, through-shown}
use Rattle.s66_reasons.proofs.SupposedHolds.{holds-in, refuted-in}
use Rattle.s66_reasons.proofs.laws.reasons_law.Goals as goal

pub returns : goal.returns
returns c = record {
  bounding = λ limit d time bound at leaf is holds among.
      let b = problem_of d in
      let bound_is = ((granted d time bound).0 holds).1 in
      let (may, reaches) = claimed-leaf d at leaf (faultless limit d time bound is holds).1 among in
      let ends : end_by leaf (leaf_rows d at (Bounding leaf)) ≡ value b at leaf = rows-end d at leaf may in (
        omega (arith, ends, reaches, bound_is),
        λ rest legal.
            let (begins, completes) = legal-parts b.block at rest legal in
            omega (arith, ends, leaf-sound b at rest leaf begins completes may),
      );
  next = λ limit d time bound n is holds alone.
      let all = faultless limit d time bound is holds in
      let among : Among ([], AtTerminal (Factual (Next n))) (tree_placed [] d.tree) = subst (λ (t : Tree Ending). Among ([], AtTerminal (Factual (Next n))) (tree_placed [] t)) (sym alone) (inl refl) in
      let granted_here = granted-next d [] n (right-each d [] (Factual (Next n)) all.1 among).1 in
      let (low, high, new) = remaining-parts (problem_of d).block [] n granted_here.0 in
      path-shown d all.0 n (low, high) bound (omega (arith, ((granted d time bound).0 holds).1, leb-true d.bound (next_value (problem_of d) (known_of d) [] n) granted_here.1));
  supposed = holds-in;
  refuted = refuted-in;
  pair = λ d premises number m n taken. pair-shown d m n premises.known taken;
  through = λ d premises number m n k shows late. subst (λ o. IsThroughShown d (arcs_of (problem_of d) premises.known) m n k (refuted_sentence d (arcs_of (problem_of d) premises.known) (lines_before d number) o)) (sym shows)
      (subst (λ o. IsThroughShown d (arcs_of (problem_of d) premises.known) m n k (pair_words d m n ++ (codes "if not, " ++ too_late_words (problem_of d) (arcs_of (problem_of d) premises.known) d.bound (lines_before d number) o))) (sym late)
      (through-shown d m n (arcs_of (problem_of d) premises.known) k late));
  ended = λ d front m taken refuted none. end-named (problem_of d) d.bound front m taken refuted none;
  no_sooner = λ d n taken is_n. has-none_sooner d taken n is_n;
  left = λ limit d time bound at after ns is holds among.
      let all = faultless limit d time bound is holds in
      load-shown d all.0 at bound after ns (granted-each d at after ns (right-each d at (Factual (LoadFrom after ns)) all.1 among).1) (omega (arith, ((granted d time bound).0 holds).1));
  turned = λ limit d time bound at m n is holds among.
      granted-turned d at m n (right-each d at (Factual (Turned m n)) (faultless limit d time bound is holds).1 among).1;
}
