use Rattle.std.proofs.Common.{ℕ, List, ◌∙◌, ◌++◌, ap, append_assoc, arith, flat_map, inl, inr, length, refl, subst, sym}
use Rattle.s66_isa.specs.{Among, numbers, numbers_in}
use Rattle.s66_isa.proofs.Lists.{among-rising, filter-among}
use Rattle.s66_model.specs.{depends, needs}
use Rattle.s66_line.specs.{Block, instrs_of}
use Rattle.s66_why.specs.{IsOf}
use Rattle.s66_program.specs.{pair_line}
use Rattle.s66_program.proofs.deps_text.push_pairs_of.Goals as goal

needed-within : (block : Block) (n m : ℕ) → Among m (needs (instrs_of block) n) → IsOf block m
needed-within block n m among =
    let (low, high) = among-rising (length (instrs_of block)) 1 m (filter-among (λ k. depends (instrs_of block) k n) m (numbers (instrs_of block)) among).0 in
    (low, omega (arith, high))

pub loop-earlier-init : goal.loop-earlier-init
loop-earlier-init c =
    let block = c.args.block.now in
    record {
      text = ap (λ ms. c.args.out.now.items ++ flat_map (pair_line block c.args.later) ms) c.requires.needs;
      within = λ m among. needed-within block c.args.later m (subst (λ ms. Among m ms) c.requires.needs among);
    }

pub push_pair_line-requires-clause-earlier : goal.push_pair_line-requires-clause-earlier
push_pair_line-requires-clause-earlier c = c.loop-earlier.invariant.within c.in-Some.earlier (subst (λ ms. Among c.in-Some.earlier ms) (sym c.in-Some.ensures.some) (inl refl))

pub loop-earlier-preserved : goal.loop-earlier-preserved
loop-earlier-preserved c =
    let line : ℕ → List ℕ = pair_line c.args.block.now c.args.later in
    let out = c.loop-earlier.out.items in
    let rest = numbers_in c.pop_first.new.self in
    record {
      text = ap (λ xs. xs ++ flat_map line rest) c.in_ok-push_pair_line.ensures ∙ append_assoc out (line c.in-Some.earlier) (flat_map line rest)
          ∙ ap (λ ms. out ++ flat_map line ms) (sym c.in-Some.ensures.some) ∙ c.loop-earlier.invariant.text;
      within = λ m among. c.loop-earlier.invariant.within m (subst (λ ms. Among m ms) (sym c.in-Some.ensures.some) (inr among));
    }
