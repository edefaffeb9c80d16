use Rattle.std.proofs.Common.{◌++◌, ◌∷◌, [], ℕ, List, Some, None, ◌≡◌, ap, sym, subst, arith, ◌∙◌}
use Rattle.s66_model.specs.{Problem, later, IsNextReady}
use Rattle.s66_model.proofs.Later.{next-ready, replaced, dropped}
use Rattle.s66_node.specs.Walked.{Walked}
use Rattle.s66_node.specs.{Node}
use Rattle.s66_ledger.specs.{AreOneTree, StandsAt, no_stored, stored_at}
use Rattle.s66_ledger.proofs.NodePrefixes.{get_or-any}
use Rattle.s66_ledger.proofs.AnswerLines.{parent-split, up-stands, root-stands}
use Rattle.s66_ledger.proofs.lines.go_on.Goals as goal

pub go_down-requires-clause-split : goal.go_down-requires-clause-split
go_down-requires-clause-split c =
    let l = c.loop-node in
    let up = c.undo.new.self in
    let xs = c.args.nodes.now in
    let n = (stored_at xs l.node).number in
    let problem : up.problem ≡ c.args.walk.now.problem = ap (λ (v : Walked). v.problem) c.undo.ensures ∙ l.invariant.problem in
    let (last, stands) = up-stands xs l.node c.up.result n l.walk.numbers up.numbers l.invariant.stands c.up.ensures.before c.up.ensures.prefix (ap (λ (v : Walked). v.numbers) c.undo.ensures) in
    parent-split up.problem xs (subst (λ (p : Problem). AreOneTree p xs) (sym problem) c.requires.tree) l.node n up.numbers (subst (StandsAt xs l.node) last l.invariant.stands)

pub go_down-requires-clause-ready : goal.go_down-requires-clause-ready
go_down-requires-clause-ready c = next-ready _ _ _ c.in-Some.next c.in-Some.ensures

pub returns-in-Some-clause-next : goal.returns-in-Some-clause-next
returns-in-Some-clause-next c =
    let l = c.loop-node in
    let b = c.args.walk.now.problem in
    let up = c.undo.new.self in
    let xs = c.args.nodes.now in
    let n = (stored_at xs l.node).number in
    let m : ℕ = c.in-Some.next in
    let problem : up.problem ≡ b = ap (λ (v : Walked). v.problem) c.undo.ensures ∙ l.invariant.problem in
    let (last, stands) = up-stands xs l.node c.up.result n l.walk.numbers up.numbers l.invariant.stands c.up.ensures.before c.up.ensures.prefix (ap (λ (v : Walked). v.numbers) c.undo.ensures) in
    let next : IsNextReady b.block up.numbers n (Some m) = subst (λ (p : Problem). IsNextReady p.block up.numbers n (Some m)) problem (subst (λ k. IsNextReady up.problem.block up.numbers k (Some m)) (get_or-any xs l.node _ no_stored (λ (x : Node). x.number) l.invariant.stands.within) c.in-Some.ensures) in
    let is : c.go_down.new.walk.numbers ≡ up.numbers ++ m ∷ [] = ap (λ (v : Walked). v.numbers) c.go_down.ensures.walk in
    ap (λ (at : List ℕ). at ∷ later b.block [] at) is
    ∙ (replaced b.block up.numbers n m next
    ∙ (ap (λ (at : List ℕ). later b.block [] at) (sym last) ∙ l.invariant.same))

pub loop-node-preserved : goal.loop-node-preserved
loop-node-preserved c =
    let l = c.loop-node in
    let b = c.args.walk.now.problem in
    let up = c.undo.new.self in
    let xs = c.args.nodes.now in
    let n = (stored_at xs l.node).number in
    let problem : up.problem ≡ b = ap (λ (v : Walked). v.problem) c.undo.ensures ∙ l.invariant.problem in
    let (last, stands) = up-stands xs l.node c.up.result n l.walk.numbers up.numbers l.invariant.stands c.up.ensures.before c.up.ensures.prefix (ap (λ (v : Walked). v.numbers) c.undo.ensures) in
    let next : IsNextReady b.block up.numbers n None = subst (λ (p : Problem). IsNextReady p.block up.numbers n None) problem (subst (λ k. IsNextReady up.problem.block up.numbers k None) (get_or-any xs l.node _ no_stored (λ (x : Node). x.number) l.invariant.stands.within) c.in_default.ensures) in
    record {
      problem = problem;
      same = sym (dropped b.block up.numbers n next) ∙ (ap (λ (at : List ℕ). later b.block [] at) (sym last) ∙ l.invariant.same);
      stands = stands;
    }

pub returns-clause-next : goal.returns-clause-next
returns-clause-next c =
    let l = c.loop-node in
    let empty : l.walk.numbers ≡ [] = root-stands c.args.nodes.now l.node l.walk.numbers l.invariant.stands (omega (arith, c.loop-node-test.false)) in
    ap (λ (at : List ℕ). later c.args.walk.now.problem.block [] at) (sym empty) ∙ l.invariant.same
