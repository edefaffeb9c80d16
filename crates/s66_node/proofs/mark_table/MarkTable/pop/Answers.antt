use Rattle.std.proofs.Common.{◌≡◌, ◌∙◌, ◌++◌, ◌∷◌, [], sym, ap, map, subst}
use Rattle.s66_node.specs.{MarkTable, IsEntry, numbers_of}
use Rattle.s66_node.proofs.Earlier.{entries-pop, names-pop}
use Rattle.s66_node.proofs.mark_table.MarkTable.pop.Goals.{then-is_empty, else-is_empty}
use Rattle.s66_node.proofs.mark_table.MarkTable.pop.Goals as goal

pub invariant_of-self-else-is_empty : goal.invariant_of-self-else-is_empty
invariant_of-self-else-is_empty c = (entries-pop _ _ _ _ c.in_ok-entry.ensures.items c.self.invariant).0

pub returns-clause-some : goal.returns-clause-some
returns-clause-some c =
    let entry = c.in_ok-entry.entry in
    let left : c.if-is_empty.self.names ≡ map numbers_of c.pop.new.self.items = elim c.if-is_empty.branch [
      | then-is_empty w ↦ ap (λ (m : MarkTable). m.names) w.self-is
      | else-is_empty w ↦ ap (λ (m : MarkTable). m.names) w.self-is
    ] in
    let was : map numbers_of c.self.inside.entries.items ≡ c.if-is_empty.self.names ++ numbers_of entry ∷ [] =
    ap (map numbers_of) c.in_ok-entry.ensures.items ∙ (names-pop c.pop.new.self.items entry ∙ ap (λ names. names ++ numbers_of entry ∷ []) (sym left)) in
    subst (λ (m : MarkTable). IsEntry m.problem entry × (m.names ≡ c.if-is_empty.self.names ++ numbers_of entry ∷ [])) c.self.view_is
    ((entries-pop _ _ _ _ c.in_ok-entry.ensures.items c.self.invariant).1, was)
