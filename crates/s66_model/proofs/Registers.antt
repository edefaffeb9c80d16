-- Registers: which are the same, which are in a set, and which keep their values as an instruction is done; for the exchange of two
-- neighbours.
use Rattle.std.proofs.Common.{ℕ, suc, ◌≡◌, true, false, true≢false, List, [], ◌∷◌, ◌++◌, map, refl, ap, sym, ◌∙◌, inl, inr}
use Rattle.std.proofs.lemmas.Bool.{cases_Bool, or_parts, or_left, or_right, false_from_ne_true, cond-false}
use Rattle.std.proofs.lemmas.List.{map-append}
use Rattle.s66_isa.specs.{Instr, Memory, Reg, same_reg, is_b0, has_reg, held_registers, loaded_registers, results_of, memory_of}
use Rattle.s66_isa.proofs.SameRegister.{same_reg-self, same_reg-sym, has_reg-at}
use Rattle.s66_model.specs.{share, Term, Terms, Storage, Loaded, Operation, register_value, values_of, results_computed, words_loaded, writes, after_writes, address_of}

-- WHICH STAND IN TWO SETS

-- of two sets that share nothing, no register of one is in the other
pub share-none : (rs ss : List Reg) → share rs ss ≡ false → (q : Reg) → has_reg q rs ≡ true → has_reg q ss ≡ false
share-none [] ss h q is = absurd (true≢false (sym is))
share-none (r ∷ rs) ss h q is =
    let parts = or_parts (has_reg r ss) (share rs ss) h in
    elim (cases_Bool (same_reg q r)) [
      | inl here ↦ has_reg-at q r here ss ∙ parts.0
      | inr past ↦ share-none rs ss parts.1 q (rw past at is)
    ]

pub share-none_back : (rs ss : List Reg) → share rs ss ≡ false → (q : Reg) → has_reg q ss ≡ true → has_reg q rs ≡ false
share-none_back rs ss h q is = false_from_ne_true (has_reg q rs) (λ prefix. true≢false (sym is ∙ share-none rs ss h q prefix))

-- WHICH KEEP THEIR VALUES

after_writes-other : (ws : List (Reg × Term)) (registers : Reg → Term) (q : Reg) → has_reg q (map (λ w. w.0) ws) ≡ false → after_writes ws registers q ≡ registers q
after_writes-other [] registers q h = refl
after_writes-other (w ∷ ws) registers q h =
    let parts = or_parts (same_reg q w.0) (has_reg q (map (λ v. v.0) ws)) h in
    cond-false (same_reg w.0 q) w.1 (after_writes ws registers q) (same_reg-sym w.0 q ∙ parts.0) ∙ after_writes-other ws registers q parts.1

results_computed-registers : (o : Operation) (operands : Terms) (which : ℕ) (rs : List Reg) → map (λ (w : Reg × Term). w.0) (results_computed o operands which rs) ≡ rs
results_computed-registers o operands which [] = refl
results_computed-registers o operands which (r ∷ rs) = ap (λ t. r ∷ t) (results_computed-registers o operands (suc which) rs)

words_loaded-registers : (u : Memory) (n : Instr) (storage : Storage) (address : Term) → map (λ (w : Reg × Term). w.0) (words_loaded u n storage address) ≡ loaded_registers u n
words_loaded-registers u n storage address = names (loaded_registers u n)
  where
    names : (rs : List Reg) → map (λ (w : Reg × Term). w.0) (map (λ r. (r, Loaded storage address)) rs) ≡ rs
    names [] = refl
    names (r ∷ rs) = ap (λ t. r ∷ t) (names rs)

writes-registers : (o : Operation) (operands : Terms) (storage : Storage) → map (λ (w : Reg × Term). w.0) (writes o operands storage) ≡ results_of o.instr
writes-registers o operands storage =
    let held = results_computed o operands 0 (held_registers o.instr) in
    let loaded = words_loaded (memory_of o.instr) o.instr storage (address_of o operands) in
    map-append (λ (w : Reg × Term). w.0) held loaded
    ∙ (ap (λ t. t ++ map (λ (w : Reg × Term). w.0) loaded) (results_computed-registers o operands 0 (held_registers o.instr))
    ∙ ap (λ t. held_registers o.instr ++ t) (words_loaded-registers (memory_of o.instr) o.instr storage (address_of o operands)))

-- an instruction leaves what is none of its results
pub writes-other : (o : Operation) (operands : Terms) (storage : Storage) (registers : Reg → Term) (q : Reg) → has_reg q (results_of o.instr) ≡ false →
    after_writes (writes o operands storage) registers q ≡ registers q
writes-other o operands storage registers q h =
    after_writes-other (writes o operands storage) registers q (ap (λ t. has_reg q t) (writes-registers o operands storage) ∙ h)

pub value-other : (o : Operation) (operands : Terms) (storage : Storage) (registers : Reg → Term) (q : Reg) → has_reg q (results_of o.instr) ≡ false →
    register_value (after_writes (writes o operands storage) registers) q ≡ register_value registers q
value-other o operands storage registers q h = rw (writes-other o operands storage registers q h) refl

-- operands that it does not write have the values that they had, and B0 is zero
pub values-other : (o : Operation) (operands : Terms) (storage : Storage) (registers : Reg → Term) (rs : List Reg) →
    ((q : Reg) → is_b0 q ≡ false → has_reg q rs ≡ true → has_reg q (results_of o.instr) ≡ false) →
    values_of (after_writes (writes o operands storage) registers) rs ≡ values_of registers rs
values-other o operands storage registers [] h = refl
values-other o operands storage registers (r ∷ rs) h =
    let rest = values-other o operands storage registers rs (λ q named is. h q named (or_right (same_reg q r) (has_reg q rs) is)) in
    elim (cases_Bool (is_b0 r)) [
      | inl b0 ↦ rw (b0, rest) refl
      | inr named ↦ rw (value-other o operands storage registers r (h r named (or_left (same_reg r r) (has_reg r rs) (same_reg-self r))), rest) refl
    ]
