use Rattle.std.proofs.Common.{◌≡◌, ◌++◌, ◌∷◌, [], List, ap, sym, arith, ◌∙◌}
use Rattle.std.proofs.lemmas.Result.{on_ok_weaker}
use Rattle.s66_model.specs.{Ending, Bounding, Dominated, Vertex, AtTerminal}
use Rattle.s66_node.specs.{Node}
use Rattle.s66_ledger.specs.{no_stored}
use Rattle.s66_ledger.proofs.AnswerLines.{floor-here, name-here, name-short}
use Rattle.s66_ledger.proofs.NodePrefixes.{get_or-any}
use Rattle.s66_ledger.proofs.lines.push_terminal.Goals as goal

pub name_of-name-requires-clause-few : goal.name_of-name-requires-clause-few
name_of-name-requires-clause-few c =
    omega (arith, name-short c.args.walk.now.problem c.args.nodes.now c.requires.tree c.args.node c.requires.stands.within, c.numbers-few.ensures.few)

-- what is appended is what the prefix has
ending-pushed : (old new : List (Vertex Ending)) (said is : Ending) → said ≡ is → new ≡ old ++ AtTerminal said ∷ [] → new ≡ old ++ AtTerminal is ∷ []
ending-pushed old new said is same pushed = pushed ∙ ap (λ (ending : Ending). old ++ AtTerminal ending ∷ []) same

pub returns-in-Dominated : goal.returns-in-Dominated
returns-in-Dominated c =
    let w = c.args.walk.now in
    let xs = c.args.nodes.now in
    let stands = c.requires.stands in
    let is = get_or-any xs c.args.node no_stored _ (λ (x : Node). x.state) stands.within ∙ c.in-Dominated.is in
    on_ok_weaker c.push.result
    (ending-pushed c.args.tree.now c.push.new.self (Dominated c.as_slice.result.now) _ (ap Dominated (c.as_slice.ensures.value ∙ c.name_of-name.ensures) ∙ sym (name-here w.problem xs c.requires.tree c.args.node w.numbers stands is)))
    c.push.ensures.pushed

pub returns : goal.returns
returns c =
    let w = c.args.walk.now in
    let xs = c.args.nodes.now in
    let stands = c.requires.stands in
    on_ok_weaker c.push_leaf.result
    (ending-pushed c.args.tree.now c.push_leaf.new.tree _ _
    (ap Bounding c.floor_of_value.ensures.leaf
    ∙ sym (floor-here w.problem xs c.requires.tree c.args.node w.numbers stands (λ dominated. c.in_default.not-Dominated (get_or-any xs c.args.node _ no_stored (λ (x : Node). x.state) stands.within ∙ dominated)))))
    c.push_leaf.ensures
