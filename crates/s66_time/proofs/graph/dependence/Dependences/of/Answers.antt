use Rattle.std.proofs.Common.{◌≡◌, ◌∙◌, ◌+◌, ◌++◌, ◌∷◌, [], List, sym, ap, subst, arith, map, length}
use Rattle.std.proofs.lemmas.List.{map-append}
use Rattle.s66_isa.specs.{rising, instr_at, numbers_in}
use Rattle.s66_model.specs.{needs}
use Rattle.s66_line.specs.{instrs_of}
use Rattle.s66_time.specs.declared.graph.effects.Effects.{Effects}
use Rattle.s66_time.specs.{AreEffects, AreEffectsOf}
use Rattle.s66_time.proofs.Conflicts.{effects-push}
use Rattle.s66_time.proofs.OrderNumbers.{rising-more}
use Rattle.s66_time.proofs.graph.dependence.Dependences.of.Goals as goal

pub loop-position-preserved : goal.loop-position-preserved
loop-position-preserved c =
    let block = instrs_of c.args.block.now in
    let i = c.loop-position.position in
    let kept = c.loop-position.effects.items in
    let read : c.as_slice.result.now ≡ kept = c.as_slice.ensures.value in
    let count : length c.as_slice.result.now ≡ i = ap (λ (es : List Effects). length es) read ∙ c.loop-position.invariant.kept in
    let last : AreEffects c.of-later.result (instr_at block (i + 1)) = subst (AreEffects c.of-later.result) c.instr.ensures c.of-later.ensures in
    let found : numbers_in c.needs.result ≡ needs block (i + 1) =
    c.needs.ensures block (omega (arith, count)) (omega arith)
    (subst (λ (es : List Effects). AreEffectsOf es block) (sym read) c.loop-position.invariant.effects)
    (subst (λ n. AreEffects c.of-later.result (instr_at block (n + 1))) (sym count) last)
    ∙ ap (λ n. needs block (n + 1)) count in
    record {
      effects =
          subst (λ (es : List Effects). AreEffectsOf es block) (sym c.push-in-loop-position.ensures.items)
          (effects-push block kept c.of-later.result c.loop-position.invariant.effects
          (subst (λ n. AreEffects c.of-later.result (instr_at block (n + 1))) (sym c.loop-position.invariant.kept) last));
      needs =
          ap (map numbers_in) c.push.ensures.items
          ∙ (map-append numbers_in c.loop-position.needs_of_all.items (c.needs.result ∷ [])
          ∙ (ap (λ xs. xs ++ numbers_in c.needs.result ∷ []) c.loop-position.invariant.needs
          ∙ (ap (λ ns. map (needs block) (rising i 1) ++ ns ∷ []) found
          ∙ (sym (map-append (needs block) (rising i 1) ((i + 1) ∷ []))
          ∙ ap (map (needs block)) (sym (rising-more i))))));
      kept = omega arith;
      count = omega arith;
    }
