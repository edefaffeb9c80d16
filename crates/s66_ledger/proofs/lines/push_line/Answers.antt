use Rattle.std.proofs.Common.{◌≡◌, ◌++◌, ◌∷◌, [], ℕ, List, ap, subst, ◌∙◌}
use Rattle.s66_isa.specs.{numbers_in}
use Rattle.s66_model.specs.{Ending, children, coming, later, Vertex, AtSplit}
use Rattle.s66_node.specs.{Node}
use Rattle.s66_node.specs.Walked.{Walked}
use Rattle.s66_ledger.specs.{no_stored}
use Rattle.s66_ledger.proofs.AnswerLines.{split-here, split-line, terminal-line, line-appended, one-longer}
use Rattle.s66_ledger.proofs.NodePrefixes.{get_or-any}
use Rattle.s66_ledger.proofs.lines.push_line.Goals as goal

pub go_below-requires-clause-split : goal.go_below-requires-clause-split
go_below-requires-clause-split c =
    let w = c.args.walk.now in
    let stands = c.requires.stands in
    rw c.ready-numbers.ensures.same
    (split-here w.problem c.args.nodes.now c.requires.tree c.args.node.now w.numbers stands (get_or-any c.args.nodes.now c.args.node.now no_stored _ (λ (x : Node). x.state) stands.within ∙ c.in-Split.is))

split-pushed : (old new : List (Vertex Ending)) (said ns : List ℕ) → new ≡ old ++ AtSplit said ∷ [] → said ≡ ns → new ≡ old ++ AtSplit ns ∷ []
split-pushed old new said ns pushed is = pushed ∙ ap (λ (numbers : List ℕ). old ++ AtSplit numbers ∷ []) is

pub returns-in-Split-clause-one : goal.returns-in-Split-clause-one
returns-in-Split-clause-one c = one-longer _ _ _ (split-pushed _ _ _ _ c.in_ok-push.ensures.pushed (c.as_slice.ensures.value ∙ c.numbers.ensures))

pub returns-in-Split-clause-rest : goal.returns-in-Split-clause-rest
returns-in-Split-clause-rest c =
    let w = c.args.walk.now in
    let stands = c.requires.stands in
    let next : coming w.problem.block c.go_below.result c.go_below.new.walk.numbers ≡ children w.numbers (numbers_in c.ready-numbers.result) ++ later w.problem.block [] w.numbers =
    subst
    (λ (x : Walked). coming x.problem.block c.go_below.result c.go_below.new.walk.numbers ≡ children x.numbers (numbers_in c.ready-numbers.result) ++ later x.problem.block [] x.numbers)
    c.ready-numbers.ensures.same c.go_below.ensures.next in
    line-appended _ _ _ _ _ (split-pushed _ _ _ _ c.in_ok-push.ensures.pushed (c.as_slice.ensures.value ∙ c.numbers.ensures))
    (split-line w.problem c.args.nodes.now c.requires.tree c.args.node.now w.numbers stands _ _ (get_or-any c.args.nodes.now c.args.node.now no_stored _ (λ (x : Node). x.state) stands.within ∙ c.in-Split.is) c.ready-numbers.ensures.ready next)

pub push_terminal-requires-clause-unsplit : goal.push_terminal-requires-clause-unsplit
push_terminal-requires-clause-unsplit c split =
    let stands = c.requires.stands in
    c.in_default.not-Split (get_or-any c.args.nodes.now c.args.node.now _ no_stored (λ (x : Node). x.state) stands.within ∙ split)

pub returns-clause-one : goal.returns-clause-one
returns-clause-one c = one-longer _ _ _ c.in_ok-push_terminal.ensures

pub returns-clause-rest : goal.returns-clause-rest
returns-clause-rest c =
    let w = c.args.walk.now in
    let stands = c.requires.stands in
    line-appended _ _ _ _ _ c.in_ok-push_terminal.ensures
    (terminal-line w.problem c.args.nodes.now c.requires.tree c.args.node.now w.numbers stands _
    (λ split. c.in_default.not-Split (get_or-any c.args.nodes.now c.args.node.now _ no_stored (λ (x : Node). x.state) stands.within ∙ split)) c.go_on.ensures.next)
