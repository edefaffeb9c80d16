-- Two instructions must keep their order exactly when there is a hazard between them.
use Rattle.std.proofs.Common.{◌≡◌, ◌∙◌, ◌||◌, Bool, true, false, List, [], ◌∷◌, ◌++◌, ap, ap₂, arith, length, map, nat_lt, refl, sym, lt-ltb}
use Rattle.std.proofs.lemmas.Bool.{cond_both}
use Rattle.s66_isa.specs.{Memory, has_reg, memory_of, memory_pair, reads_of, results_of}
use Rattle.s66_isa.specs.declared.instr.Memory.TheVariants as memory
use Rattle.s66_isa.specs.Table.{Instr, Reg}
use Rattle.s66_model.specs.{conflict, share}
use Rattle.s66_why.specs.{Access, ReadAfterWrite, WriteAfterRead, WriteAfterWrite, accesses_of_memory, common, hazards, memory_hazards, register_hazards, registers_between}

-- there is something in the list
abbrev some : {X : Type 0} → List X → Bool
some [] = false
some (x ∷ xs) = true

positive : {X : Type 0} (xs : List X) → nat_lt 0 (length xs) ≡ some xs
positive [] = refl
positive (x ∷ xs) = lt-ltb 0 (length (x ∷ xs)) (omega arith)

some-append : {X : Type 0} (xs ys : List X) → some (xs ++ ys) ≡ (some xs || some ys)
some-append [] ys = refl
some-append (x ∷ xs) ys = refl

some-map : {X Y : Type 0} (f : X → Y) (xs : List X) → some (map f xs) ≡ some xs
some-map f [] = refl
some-map f (x ∷ xs) = refl

some-common : (rs ss : List Reg) → some (common rs ss) ≡ share rs ss
some-common [] ss = refl
some-common (r ∷ rs) ss =
    cond_both (has_reg r ss) (r ∷ common rs ss) (common rs ss) (λ zs. some zs ≡ (has_reg r ss || share rs ss))
    (λ there. sym (ap (λ b. b || share rs ss) there))
    (λ not_there. some-common rs ss ∙ sym (ap (λ b. b || share rs ss) not_there))

some-accesses : (m n : Memory) → some (accesses_of_memory m n) ≡ memory_pair m n
some-accesses memory.None memory.None = refl
some-accesses memory.None memory.Load = refl
some-accesses memory.None memory.Store = refl
some-accesses memory.Load memory.None = refl
some-accesses memory.Load memory.Load = refl
some-accesses memory.Load memory.Store = refl
some-accesses memory.Store memory.None = refl
some-accesses memory.Store memory.Load = refl
some-accesses memory.Store memory.Store = refl

some-registers : (access : Access) (m n : Instr) (rs ss : List Reg) → registers_between access m n ≡ common rs ss → some (register_hazards access m n) ≡ share rs ss
some-registers access m n rs ss are = some-map _ (registers_between access m n) ∙ ap some are ∙ some-common rs ss

pub hazard-found : (m n : Instr) → nat_lt 0 (length (hazards m n)) ≡ conflict m n
unfolding conflict
hazard-found m n =
    let a = register_hazards ReadAfterWrite m n in
    let b = register_hazards WriteAfterRead m n in
    let c = register_hazards WriteAfterWrite m n in
    let d = memory_hazards m n in
    positive (hazards m n) ∙ some-append (a ++ b ++ c) d
    ∙ ap₂ (λ x y. x || y)
    (some-append (a ++ b) c
    ∙ ap₂ (λ x y. x || y)
    (some-append a b
    ∙ ap₂ (λ x y. x || y) (some-registers ReadAfterWrite m n (results_of m) (reads_of n) refl) (some-registers WriteAfterRead m n (reads_of m) (results_of n) refl))
    (some-registers WriteAfterWrite m n (results_of m) (results_of n) refl))
    (some-map _ (accesses_of_memory (memory_of m) (memory_of n)) ∙ some-accesses (memory_of m) (memory_of n))
