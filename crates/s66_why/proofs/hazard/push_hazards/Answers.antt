use Rattle.std.proofs.Common.{List, ◌≡◌, ◌∙◌, ◌++◌, ap, ap₂, append_assoc, map}
use Rattle.std.proofs.lemmas.Result.{IfOk-equal}
use Rattle.s66_isa.specs.Table.{Reg}
use Rattle.s66_why.specs.{Access, ReadAfterWrite, WriteAfterRead, WriteAfterWrite, Hazard, Register, common, memory_hazards, register_hazards}
use Rattle.s66_why.proofs.hazard.push_hazards.Goals as goal

-- those in registers that both lists have
abbrev between : Access → List Reg → List Reg → List Hazard
between access rs ss = map (λ (r : Reg). record { place = Register r; access = access }) (common rs ss)

pub returns : goal.returns
returns c =
    let m = c.args.earlier.now in
    let n = c.args.later.now in
    let out = c.args.out.now.items in
    let raw = register_hazards ReadAfterWrite m n in
    let war = register_hazards WriteAfterRead m n in
    let waw = register_hazards WriteAfterWrite m n in
    let memory = memory_hazards m n in
    let first : c.push_common.new.out.items ≡ out ++ raw =
    c.in_ok-push_common.ensures
    ∙ ap₂ (λ rs ss. out ++ between ReadAfterWrite rs ss) (c.as_slice.ensures.value ∙ c.results-written.ensures) (c.as_slice-2.ensures.value ∙ c.reads-reads.ensures)
    in
    let second : c.push_common-2.new.out.items ≡ out ++ raw ++ war =
    c.in_ok-push_common-2.ensures
    ∙ ap₂ (λ rs ss. c.push_common.new.out.items ++ between WriteAfterRead rs ss) (c.as_slice-3.ensures.value ∙ c.reads-read.ensures) (c.as_slice-4.ensures.value ∙ c.results-writes.ensures)
    ∙ ap (λ hs. hs ++ war) first in
    let third : c.push_common-3.new.out.items ≡ out ++ raw ++ war ++ waw =
    c.in_ok-push_common-3.ensures
    ∙ ap₂ (λ rs ss. c.push_common-2.new.out.items ++ between WriteAfterWrite rs ss) (c.as_slice-5.ensures.value ∙ c.results-written.ensures) (c.as_slice-6.ensures.value ∙ c.results-writes.ensures)
    ∙ ap (λ hs. hs ++ waw) second in
    IfOk-equal c.push_memory_hazard.result _ _ _ c.push_memory_hazard.ensures
    (ap (λ hs. hs ++ memory) (third ∙ ap (λ hs. hs ++ waw) (append_assoc out raw war) ∙ append_assoc out (raw ++ war) waw) ∙ append_assoc out (raw ++ war ++ waw) memory)
