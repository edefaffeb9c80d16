use Rattle.std.proofs.Common.{◌≡◌, ◌∙◌, [], ◌∷◌, ◌++◌, ℕ, List, arith, ap, sym, subst, length}
use Rattle.s66_isa.specs.{Instr, Profile}
use Rattle.s66_model.specs.{Problem, Ending, Vertex, flat, later, node_tree}
use Rattle.s66_line.specs.{instrs_of}
use Rattle.s66_node.specs.Walked.{Walked}
use Rattle.s66_node.specs.{Node}
use Rattle.s66_ledger.specs.{AnswerOf, answer_of, AreOneTree, StandsAt, lines_from, lines_left, nodes_of, HaveFloors}
use Rattle.s66_ledger.proofs.AnswerLines.{fewer-left, one-tree, root-there, lines-whole}
use Rattle.s66_ledger.proofs.SeenNodes.{length-nodes}
use Rattle.s66_ledger.proofs.answer.Answer.tree.Goals as goal

-- a new walk over an answer's block under its profile is over its problem
walks-over : (w : Walked) (b : Problem) (block : List Instr) (profile : Profile) → w ≡ record { problem = record { block = block; profile = profile }; numbers = [] } → block ≡ b.block → profile ≡ b.profile → w.problem ≡ b
walks-over w b block profile is own under =
    ap (λ (v : Walked). v.problem) is ∙ (ap (λ (x : List Instr). record { block = x; profile = profile }) own ∙ ap (λ (p : Profile). record { block = b.block; profile = p }) under)

-- a table of the walk's problem
walked-tree : (b walked : Problem) (xs ys : List Node) → walked ≡ b → xs ≡ ys → AreOneTree b ys → AreOneTree walked xs
walked-tree b walked xs ys problem same kept =
    subst (λ (p : Problem). AreOneTree p xs) (sym problem) (subst (λ (zs : List Node). AreOneTree b zs) (sym same) kept)

pub of-requires : goal.of-requires
of-requires c =
    let s = c.self.inside in
    omega (arith, c.self.invariant.room, length-nodes s.best.problem s.nodes.items, ap (λ (xs : List Node). length xs) c.as_slice-nodes.ensures.value)

pub loop-more-init : goal.loop-more-init
loop-more-init c =
    let s = c.self.inside in
    let b = s.best.problem in
    let walked = c.new-walk.result in
    let xs = c.as_slice-nodes.result.now in
    let block : instrs_of c.args.block.now ≡ b.block = c.requires ∙ sym (ap (λ (a : AnswerOf). a.problem.block) c.self.view_is) in
    let problem : walked.problem ≡ b = walks-over walked b _ _ c.new-walk.ensures block c.profile.ensures in
    let numbers : walked.numbers ≡ [] = ap (λ (w : Walked). w.numbers) c.new-walk.ensures in
    let kept = walked-tree b walked.problem xs s.nodes.items problem c.as_slice-nodes.ensures.value
    (one-tree b s.nodes.items s.best.numbers s.splits c.self.invariant.table c.self.invariant.begins) in
    record {
      problem = problem ∙ ap (λ (a : AnswerOf). a.problem) c.self.view_is;
      stands = λ more. subst (λ (at : List ℕ). StandsAt xs 0 at) (sym numbers) (root-there walked.problem xs kept);
      rest =
          ap (λ (vertices : List (Vertex Ending)). vertices ++ lines_from walked.problem xs (walked.numbers ∷ later walked.problem.block [] walked.numbers)) c.new-tree.ensures
          ∙ (ap (λ (at : List ℕ). lines_from walked.problem xs (at ∷ later walked.problem.block [] at)) numbers
          ∙ (lines-whole walked.problem xs
          ∙ (ap (λ (p : Problem). flat (node_tree p (nodes_of p xs))) problem
          ∙ (ap (λ (ys : List Node). flat (node_tree b (nodes_of b ys))) c.as_slice-nodes.ensures.value
          ∙ ap (λ (a : AnswerOf). flat (answer_of a).tree) c.self.view_is))));
    }

-- as many as there were, for another problem that is the same
left-now : (c : goal.In_ok-more) → c.push_line.new.tree ++ lines_left c.push_line.new.walk.problem c.as_slice-nodes.result.now c.in_ok-more.more c.push_line.new.walk.numbers
    ≡ c.loop-more.tree ++ lines_left c.loop-more.walk.problem c.as_slice-nodes.result.now c.loop-more.more c.loop-more.walk.numbers
left-now c =
    let l = c.loop-more in
    let xs = c.as_slice-nodes.result.now in
    ap (λ (p : Problem). c.push_line.new.tree ++ lines_left p xs c.in_ok-more.more c.push_line.new.walk.numbers) c.push_line.ensures.problem
    ∙ (c.in_ok-more.ensures.rest ∙ ap (λ more. l.tree ++ lines_left l.walk.problem xs more l.walk.numbers) (sym c.loop-more-test.true))

pub loop-more-preserved : goal.loop-more-preserved
loop-more-preserved c = record {
  problem = c.push_line.ensures.problem ∙ c.loop-more.invariant.problem;
  stands = c.in_ok-more.ensures.stands;
  rest = left-now c ∙ c.loop-more.invariant.rest;
}

pub loop-more-smaller : goal.loop-more-smaller
loop-more-smaller c = fewer-left _ _ _ _ c.in_ok-more.ensures.one (left-now c)

pub push_line-requires-clause-tree : goal.push_line-requires-clause-tree
push_line-requires-clause-tree c =
    let s = c.self.inside in
    let problem : c.loop-more.walk.problem ≡ s.best.problem = c.loop-more.invariant.problem ∙ sym (ap (λ (a : AnswerOf). a.problem) c.self.view_is) in
    walked-tree s.best.problem c.loop-more.walk.problem c.as_slice-nodes.result.now s.nodes.items problem c.as_slice-nodes.ensures.value
    (one-tree s.best.problem s.nodes.items s.best.numbers s.splits c.self.invariant.table c.self.invariant.begins)

pub push_line-requires-clause-floors : goal.push_line-requires-clause-floors
push_line-requires-clause-floors c =
    let s = c.self.inside in
    let problem : c.loop-more.walk.problem ≡ s.best.problem = c.loop-more.invariant.problem ∙ sym (ap (λ (a : AnswerOf). a.problem) c.self.view_is) in
    subst (λ (p : Problem). HaveFloors p c.as_slice-nodes.result.now) (sym problem)
    (subst (λ (ys : List Node). HaveFloors s.best.problem ys) (sym c.as_slice-nodes.ensures.value) c.self.invariant.floors)
