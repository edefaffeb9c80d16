use Rattle.std.proofs.Common.{true≢false, sym, ap, ◌∙◌}
use Rattle.s66_isa.specs.{has}
use Rattle.s66_facts.proofs.again.find_all.Goals as goal

pub find_again-requires-clause-settled : goal.find_again-requires-clause-settled
find_again-requires-clause-settled c = λ n is_n marked. absurd (true≢false (sym marked ∙ ap (has n) c.empty.ensures))
