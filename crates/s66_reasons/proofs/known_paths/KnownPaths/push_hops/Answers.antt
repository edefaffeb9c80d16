use Rattle.std.proofs.Common.{rules, ℕ, ◌≡◌, ◌≤◌, ◌∙◌, ◌+◌, ◌-◌, ◌*◌, ◌^◌, ◌++◌, List, ap, arith, sym, append-nil}
use Rattle.s66_cert.specs.{document_of}
use Rattle.s66_reasons.specs.{Hop, rows_text, hops_from, path_rows}
use Rattle.s66_reasons.proofs.Hops.{hops-at, none-at}
use Rattle.s66_reasons.proofs.known_paths.KnownPaths.push_hops.Goals as goal

pub returns-in_default : goal.returns-in_default
returns-in_default c =
    let l = c.loop-step in
    none-at (document_of c.args.self.now) c.args.most l.step l.number l.left l.from l.out.items c.loop-step-test.true (sym c.next_hop.ensures ∙ c.in_default.is) ∙ l.invariant.text

pub loop-step-preserved : goal.loop-step-preserved
loop-step-preserved c =
    let d = document_of c.args.self.now in
    let l = c.loop-step in
    let hop : Hop = c.in-Some.hop in
    let k = c.args.most - (l.step + 1) in
    let new : List ℕ = c.push_hop.new.out.items in
    let small : l.number + hop.wait ≤ 2 ^ 32 * (l.step + 1) = search rules in
    record {
      text = ap (λ left. new ++ rows_text (path_rows d (l.number + hop.wait) hop.to (hops_from d k left hop.to))) c.saturating_sub-left.ensures
          ∙ hops-at d c.args.most l.step l.number l.left l.from hop l.out.items _ c.loop-step-test.true (sym c.next_hop.ensures ∙ c.in-Some.is) c.in_ok-push_hop.ensures
          ∙ l.invariant.text;
      small = small;
    }

pub returns : goal.returns
returns c =
    let d = document_of c.args.self.now in
    let l = c.loop-step in
    let none : c.args.most - l.step ≡ 0 = omega (arith, c.loop-step-test.false) in
    sym (append-nil l.out.items) ∙ sym (ap (λ k. l.out.items ++ rows_text (path_rows d l.number l.from (hops_from d k l.left l.from))) none) ∙ l.invariant.text
