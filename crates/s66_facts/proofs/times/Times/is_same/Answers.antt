use Rattle.std.proofs.Common.{◌≡◌, true, sym, subst, ◌∙◌}
use Rattle.s66_facts.proofs.SameTimes.{all_same, times-same, times-self}
use Rattle.s66_facts.proofs.times.Times.is_same.Goals as goal

pub returns : goal.returns
returns c =
    let s = c.args.self.now in
    (λ is. times-same s c.args.other.now (sym c.eq.ensures ∙ is), λ same. c.eq.ensures ∙ subst (λ t. all_same s t ≡ true) same (times-self s))
