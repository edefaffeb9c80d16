use Rattle.std.proofs.Common.{◌≡◌, ◌⊎◌, ◌∙◌, inl, inr, subst}
use Rattle.s66_isa.specs.{Among}
use Rattle.s66_node.specs.{MarkTable}
use Rattle.s66_pool.proofs.known_nodes.KnownNodesNaming.find_or_keep.Goals as goal

pub returns-clause-kept : goal.returns-clause-kept
returns-clause-kept g c =
    λ name among.
    subst (λ (m : MarkTable). (name ≡ c.args.walk.now.numbers) ⊎ Among name m.names) c.self.view_is
    (elim (c.put_line.ensures.known name among) [ inl is ↦ inl (is ∙ c.of-entry.ensures.numbers) | inr before ↦ inr before ])
