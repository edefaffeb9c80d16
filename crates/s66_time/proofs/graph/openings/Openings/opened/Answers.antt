use Rattle.std.proofs.Common.{ℕ, ◌-◌, ◌∙◌, List, [], length, get_or, sym, ap, arith}
use Rattle.std.proofs.lemmas.List.{get_or-map}
use Rattle.s66_isa.specs.{Set, numbers_in, no_set}
use Rattle.s66_time.specs.{all_opens}
use Rattle.s66_time.proofs.Opened.{opens-at, count-opens}
use Rattle.s66_time.proofs.graph.openings.Openings.opened.Goals as goal

pub bounds-deref-n : goal.bounds-deref-n
bounds-deref-n c =
    let count = count-opens c.self.inside.opened.items c.self.inside.dependences c.self.invariant.opened in
    omega (arith, c.requires, count, ap (λ (ns : List (List ℕ)). length ns) c.self.view_is, ap (λ (sets : List Set). length sets) c.deref.ensures.0)

pub returns-clause-opened : goal.returns-clause-opened
returns-clause-opened c =
    let sets = c.self.inside.opened.items in
    let all = c.args.self.now in
    let n : ℕ = c.args.n in
    let count = count-opens sets c.self.inside.dependences c.self.invariant.opened in
    ap (λ (xs : List Set). numbers_in (get_or xs (n - 1) no_set)) c.deref.ensures.0
    ∙ (sym (get_or-map numbers_in sets (n - 1) no_set [] (omega (arith, c.requires, count, ap (λ (ns : List (List ℕ)). length ns) c.self.view_is)))
    ∙ (ap (λ ns. get_or ns (n - 1) []) (c.self.invariant.opened ∙ ap all_opens c.self.view_is)
    ∙ opens-at all n c.requires.0 c.requires.1))

pub returns-clause-few : goal.returns-clause-few
returns-clause-few c = omega (arith, c.self.invariant.few, ap (λ (ns : List (List ℕ)). length ns) c.self.view_is)
