use Rattle.std.proofs.Common.{ℕ, ◌≡◌, ◌≢◌, true, false, sym, ◌∙◌}
use Rattle.s66_moments.specs.{is_pair_taken, IsNumber}
use Rattle.s66_moments.proofs.KnownLines.{pair-tests}
use Rattle.s66_facts.specs.{before_in, Ground, known_of}
use Rattle.s66_facts.proofs.facts.Facts.take_pair.Goals as goal

-- what its test says
parts : (g : Ground) (bound m n : ℕ) → is_pair_taken g.problem bound (known_of g) m n ≡ true → (m ≢ n) × IsNumber g.problem m × IsNumber g.problem n × (before_in g.marks n m ≡ false)
parts g bound m n taken = (let (differ, is_m, is_n, off, late) = pair-tests g.problem bound (known_of g) m n taken in (differ, is_m, is_n, off))

pub add_pair-requires : goal.add_pair-requires
add_pair-requires c = record {
  differ = (parts c.args.self.now c.args.bound c.args.m c.args.n (sym c.is_forced.ensures ∙ c.if-not-is_forced.false)).0;
  m = (parts c.args.self.now c.args.bound c.args.m c.args.n (sym c.is_forced.ensures ∙ c.if-not-is_forced.false)).1;
  n = (parts c.args.self.now c.args.bound c.args.m c.args.n (sym c.is_forced.ensures ∙ c.if-not-is_forced.false)).2;
  turned = (parts c.args.self.now c.args.bound c.args.m c.args.n (sym c.is_forced.ensures ∙ c.if-not-is_forced.false)).3;
}
