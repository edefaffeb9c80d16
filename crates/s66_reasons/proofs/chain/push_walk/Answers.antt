use Rattle.std.proofs.Common.{rules, ◌≡◌, ◌+◌, ◌*◌, ◌^◌, ◌≤◌, ◌∙◌, ap, get_or}
use Rattle.s66_model.specs.{Problem, row_at, link}
use Rattle.s66_cert.specs.{document_of}
use Rattle.s66_checker.specs.{problem_of}
use Rattle.s66_reasons.proofs.Texts.{walk-more}
use Rattle.s66_reasons.proofs.chain.push_walk.Goals as goal

pub loop-n-preserved : goal.loop-n-preserved
loop-n-preserved c =
    let d = document_of c.args.document.now in
    let i = c.loop-n.n-index in
    let last = c.loop-n.last in
    let n = get_or c.args.later.now i 0 in
    let wait : c.wait_between-wait.result ≡ link (row_at (problem_of d) last) (row_at (problem_of d) n) =
    c.wait_between-wait.ensures ∙ ap (λ (q : Problem). link (row_at q last) (row_at q n)) c.requires.problem in
    let small : c.loop-n.time + c.wait_between-wait.result ≤ 2 ^ 32 * (i + 1 + 1) = search rules in
    record {
      text = walk-more d c.loop-n.time last c.args.later.now i c.wait_between-wait.result _ _ c.loop-n-test.true wait c.in_ok-push_link.ensures ∙ c.loop-n.invariant.text;
      within = c.requires.within i c.loop-n-test.true;
      small = small;
    }
