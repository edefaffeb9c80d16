-- Two instructions conflict by the words of their registers exactly if one depends on the other.
use Rattle.std.specs.Cmp.{both_ways}
use Rattle.std.proofs.Common.{◌+◌, ◌≡◌, true, ◌++◌, ◌∷◌, [], List, subst, inl, inr, length-append, sym, ◌∙◌, length, get_or, arith, refl}
use Rattle.std.proofs.lemmas.Bool.{cases_lt}
use Rattle.std.proofs.lemmas.List.{get_or_append_left}
use Rattle.std.proofs.Math.Seq.{get_or-append_seam}
use Rattle.s66_isa.specs.Table.{Reg, Instr}
use Rattle.s66_isa.specs.{has_reg, reads_of, results_of, instr_at, registers_in}
use Rattle.s66_isa.proofs.RegisterBits.{some-has, some-found}
use Rattle.s66_model.specs.{share, conflict}
use Rattle.s66_time.specs.declared.graph.effects.Effects.{Effects}
use Rattle.s66_time.specs.{AreEffects, AreEffectsOf, effects_conflict}

-- whether two lists share a register rests on which registers are in them
share-from : (rs ts ss us : List Reg) → ((r : Reg) → has_reg r rs ≡ has_reg r ts) → ((r : Reg) → has_reg r ss ≡ has_reg r us) → share rs ss ≡ true → share ts us ≡ true
share-from rs ts ss us first second h =
    let (r, prefix, other) = some-found (λ r. has_reg r ss) rs h in
    some-has (λ r. has_reg r us) r ts (sym (first r) ∙ prefix) (sym (second r) ∙ other)

share-same : (rs ts ss us : List Reg) → ((r : Reg) → has_reg r rs ≡ has_reg r ts) → ((r : Reg) → has_reg r ss ≡ has_reg r us) → share rs ss ≡ share ts us
share-same rs ts ss us first second =
    both_ways (share rs ss) (share ts us) (share-from rs ts ss us first second) (share-from ts rs us ss (λ r. sym (first r)) (λ r. sym (second r)))

pub conflict-is : (e f : Effects) (m n : Instr) → AreEffects e m → AreEffects f n → effects_conflict e f ≡ conflict m n
unfolding conflict
conflict-is e f m n of_m of_n =
    rw (
      share-same (registers_in e.results) (results_of m) (registers_in f.reads) (reads_of n) of_m.results of_n.reads,
      share-same (registers_in e.reads) (reads_of m) (registers_in f.results) (results_of n) of_m.reads of_n.results,
      share-same (registers_in e.results) (results_of m) (registers_in f.results) (results_of n) of_m.results of_n.results,
      of_m.memory,
      of_n.memory,
    ) refl

-- with those of the next instruction
pub effects-push : (block : List Instr) (es : List Effects) (e : Effects) → AreEffectsOf es block → AreEffects e (instr_at block (length es + 1)) → AreEffectsOf (es ++ e ∷ []) block
effects-push block es e kept last i d below =
    elim (cases_lt i (length es)) [
      | inl before ↦ subst (λ (x : Effects). AreEffects x (instr_at block (i + 1))) (sym (get_or_append_left es (e ∷ []) d i before)) (kept i d before)
      | inr past ↦
          let here : i ≡ length es = omega (arith, below, length-append es (e ∷ [])) in
          subst (λ j. AreEffects (get_or (es ++ e ∷ []) j d) (instr_at block (j + 1))) (sym here)
          (subst (λ (x : Effects). AreEffects x (instr_at block (length es + 1))) (sym (get_or-append_seam es e [] d)) last)
    ]
