use Rattle.std.proofs.Common.{◌≡◌, true, refl, sym, subst, ◌∙◌}
use Rattle.s66_moments.specs.{Origin, End, Pair, IsNumber, with_line}
use Rattle.s66_facts.specs.{Forward, Backward, before_in, Ground, known_of}
use Rattle.s66_facts.proofs.Settled.{settled-with_pair}
use Rattle.s66_facts.proofs.PairTaken.{known-pair}
use Rattle.s66_facts.proofs.facts.Facts.add_pair.Goals as goal

pub find_again-requires-clause-settled : goal.find_again-requires-clause-settled
find_again-requires-clause-settled c =
    let g : Ground = c.self.inside.graph in
    let is_m : IsNumber g.problem c.args.m = subst (λ (k : Ground). IsNumber k.problem c.args.m) (sym c.self.view_is) c.requires.m in
    let is_n : IsNumber g.problem c.args.n = subst (λ (k : Ground). IsNumber k.problem c.args.n) (sym c.self.view_is) c.requires.n in
    settled-with_pair Forward g c.add_pair.new.self c.count-count.ensures.ordered c.count-count-2.ensures.ordered c.add_pair.ensures.problem Origin refl c.self.inside.heads c.self.invariant.0 c.all_kept-same_before.result c.args.m c.args.n is_m is_n c.add_pair.ensures.known c.all_kept-same_before.ensures

pub find_again-requires-2-clause-settled : goal.find_again-requires-2-clause-settled
find_again-requires-2-clause-settled c =
    let g : Ground = c.self.inside.graph in
    let is_m : IsNumber g.problem c.args.m = subst (λ (k : Ground). IsNumber k.problem c.args.m) (sym c.self.view_is) c.requires.m in
    let is_n : IsNumber g.problem c.args.n = subst (λ (k : Ground). IsNumber k.problem c.args.n) (sym c.self.view_is) c.requires.n in
    settled-with_pair Backward g c.add_pair.new.self c.count-count.ensures.ordered c.count-count-2.ensures.ordered c.add_pair.ensures.problem End refl c.self.inside.tails c.self.invariant.1 c.all_kept-same_after.result c.args.m c.args.n is_m is_n c.add_pair.ensures.known c.all_kept-same_after.ensures

pub returns-then-is_before-clause-known : goal.returns-then-is_before-clause-known
returns-then-is_before-clause-known c =
    let g : Ground = c.self.inside.graph in
    let is_m : IsNumber g.problem c.args.m = subst (λ (k : Ground). IsNumber k.problem c.args.m) (sym c.self.view_is) c.requires.m in
    let is_n : IsNumber g.problem c.args.n = subst (λ (k : Ground). IsNumber k.problem c.args.n) (sym c.self.view_is) c.requires.n in
    subst (λ (k : Ground). known_of k ≡ with_line (known_of k) (Pair c.args.m c.args.n)) c.self.view_is
    (known-pair g c.count-count.ensures.ordered c.args.m c.args.n is_m is_n (subst (λ (k : Ground). before_in k.marks c.args.m c.args.n ≡ true) (sym c.self.view_is) (sym c.is_before.ensures ∙ c.if-is_before.true)))
