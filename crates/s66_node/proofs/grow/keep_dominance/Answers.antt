use Rattle.std.proofs.Common.{◌≡◌, ◌∙◌, ◌++◌, ◌∷◌, [], ap, arith, get_or, length, map, length-append}
use Rattle.std.proofs.lemmas.List.{length-map, map-append}
use Rattle.s66_node.specs.{named, no_named, Dominance}
use Rattle.s66_node.proofs.Nodes.{get_or-last}
use Rattle.s66_node.proofs.grow.keep_dominance.Goals as goal

pub returns-in_ok-push-in-Dominated : goal.returns-in_ok-push-in-Dominated
returns-in_ok-push-in-Dominated c =
    let old = c.args.dominances.now.items in
    let d : Dominance = record { floor = c.in-Dominated.value; name = c.in-Dominated.name } in
    let all : map named c.push.new.self.items ≡ map named old ++ named d ∷ [] = ap (map named) c.in_ok-push-in-Dominated.ensures.items ∙ map-append named old (d ∷ []) in
    let place : c.in_ok-place-in-Dominated.place ≡ length (map named old) = omega (arith, c.in_ok-place-in-Dominated.ensures, c.len.ensures, length-map old named) in
    rw c.in-Dominated.is
    (record {
      more = named d ∷ [];
      names = all;
      valued =
          (omega (arith, place, ap length all, length-append (map named old) (named d ∷ [])), ap (λ ns. get_or ns c.in_ok-place-in-Dominated.place no_named) all ∙ (ap (λ i. get_or (map named old ++ named d ∷ []) i no_named) place ∙ get_or-last (map named old) (named d) no_named));
    })
