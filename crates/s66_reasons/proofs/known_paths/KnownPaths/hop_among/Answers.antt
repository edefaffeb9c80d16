use Rattle.std.proofs.Common.{ℕ, ◌≡◌, ◌∙◌, ◌<◌, ap, arith, length, sym}
use Rattle.s66_model.specs.{Problem}
use Rattle.s66_cert.specs.{Parts, document_of}
use Rattle.s66_checker.specs.{problem_of}
use Rattle.s66_reasons.proofs.Hops.{or-nothing, or-some, past-more}
use Rattle.s66_reasons.proofs.known_paths.KnownPaths.hop_among.Goals as goal

abbrev count-of : Parts → ℕ
count-of p = length (problem_of (document_of p)).block

-- a position is one of the block
of-block : (position end : ℕ) (b : Problem) (inside seen : Parts) → position < end → end ≡ length b.block → b ≡ problem_of (document_of inside) → inside ≡ seen → position < count-of seen
of-block position end b inside seen within is same same_seen = omega (arith, within, is, ap (λ (q : Problem). length q.block) same, ap (λ (p : Parts). length (problem_of (document_of p)).block) same_seen)

pub returns-then-is_some : goal.returns-then-is_some
returns-then-is_some c =
    let within = of-block _ _ _ _ c.args.self.now c.loop-position-test.true c.count-position-end.ensures.value c.self.invariant.first.problem c.self.view_is in
    or-some _ _ _ c.hop_to_moment_of-hop.ensures (sym c.is_some.ensures ∙ c.if-is_some.true)
    ∙ sym (past-more (document_of c.args.self.now) c.args.left c.args.from.now (count-of c.args.self.now) c.loop-position.position within) ∙ c.loop-position.invariant

pub loop-position-preserved : goal.loop-position-preserved
loop-position-preserved c =
    let within = of-block _ _ _ _ c.args.self.now c.loop-position-test.true c.count-position-end.ensures.value c.self.invariant.first.problem c.self.view_is in
    or-nothing _ _ _ c.hop_to_moment_of-hop.ensures (sym c.is_some.ensures ∙ c.if-is_some.false)
    ∙ sym (past-more (document_of c.args.self.now) c.args.left c.args.from.now (count-of c.args.self.now) c.loop-position.position within) ∙ c.loop-position.invariant
