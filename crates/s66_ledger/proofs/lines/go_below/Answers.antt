use Rattle.std.proofs.Common.{◌++◌, ◌∷◌, [], ℕ, List, ◌≡◌, refl, ap, sym, subst, inl, ◌∙◌}
use Rattle.s66_isa.specs.{Among, numbers_in}
use Rattle.s66_model.specs.{ready, children, later}
use Rattle.s66_model.proofs.Remaining.{ready-among}
use Rattle.s66_model.proofs.Later.{split-first}
use Rattle.s66_node.specs.Walked.{Walked}
use Rattle.s66_ledger.proofs.lines.go_below.Goals as goal

pub go_down-requires-clause-ready : goal.go_down-requires-clause-ready
go_down-requires-clause-ready c =
    let w = c.args.walk.now in
    let n : ℕ = c.in-Some.first in
    let all : n ∷ numbers_in c.pop_first.new.self ≡ ready w.problem.block w.numbers = sym c.in-Some.ensures.some ∙ c.requires.numbers in
    let first : Among n (n ∷ numbers_in c.pop_first.new.self) = inl refl in
    ready-among w.problem.block w.numbers n (subst (λ (ns : List ℕ). Among n ns) all first)

pub returns-in-Some-clause-next : goal.returns-in-Some-clause-next
returns-in-Some-clause-next c =
    let w = c.args.walk.now in
    let n : ℕ = c.in-Some.first in
    let rest = numbers_in c.pop_first.new.self in
    let is : c.go_down.new.walk.numbers ≡ w.numbers ++ n ∷ [] = ap (λ (v : Walked). v.numbers) c.go_down.ensures.walk in
    ap (λ (at : List ℕ). at ∷ later w.problem.block [] at) is
    ∙ (split-first w.problem.block w.numbers n rest (sym c.requires.numbers ∙ c.in-Some.ensures.some)
    ∙ ap (λ (ns : List ℕ). children w.numbers ns ++ later w.problem.block [] w.numbers) (sym c.in-Some.ensures.some))
