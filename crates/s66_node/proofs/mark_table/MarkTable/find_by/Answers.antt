use Rattle.std.proofs.Common.{◌≡◌, length, ◌<◌, get_or, map, rules, arith, sym, subst}
use Rattle.s66_isa.specs.{Among}
use Rattle.s66_node.specs.{MarkEntry, MarkTable, numbers_of}
use Rattle.s66_node.proofs.Earlier.{names-at}
use Rattle.s66_node.proofs.mark_table.MarkTable.find_by.Goals as goal

pub returns-then-is_dominating-clause-known : goal.returns-then-is_dominating-clause-known
returns-then-is_dominating-clause-known c =
    let entries = c.self.inside.entries.items in
    let i = c.loop.place in
    let within : i < length entries = omega (arith, c.if-index-len.false, c.len.ensures) in
    let at : c.index-entry.result.now ≡ get_or entries i c.index-entry.result.now = search rules in
    let here : Among (numbers_of c.index-entry.result.now) (map numbers_of entries) = subst (λ (e : MarkEntry). Among (numbers_of e) (map numbers_of entries)) (sym at) (names-at entries i c.index-entry.result.now within) in
    subst (λ xs. Among xs c.args.self.now.names) (sym c.as_slice-then-is_dominating.ensures.value) (subst (λ (m : MarkTable). Among (numbers_of c.index-entry.result.now) m.names) c.self.view_is here)
