-- A legal order means what the source order means.
use Rattle.std.proofs.Common.{ℕ, zero, suc, ◌+◌, ◌≤◌, ◌<◌, ◌≡◌, ◌≢◌, true, false, true≢false, cond, List, [], ◌∷◌, ◌++◌, length, refl, ap, sym, subst, ◌∙◌, arith, inl, inr, ltb, append_assoc, lt-ltb}
use Rattle.std.proofs.Common.{append-nil}
use Rattle.std.proofs.lemmas.Bool.{cases_Bool, cases_eq, cond-true, cond-false, false_from_ne_true, and_from}
use Rattle.s66_isa.specs.{Instr, weigh, has, rising, instr_at, numbers}
use Rattle.s66_model.specs.{conflict, IsLegal, IsOrder, GoesOn, is_ready, Contents, operation_at, after, at_start, run, meaning, KeepsMeaning}
use Rattle.s66_model.proofs.LegalOrders.{has_push-same, has_push-other, ready-parts, needs-each, sum_remaining-of_order, legal-order}
use Rattle.s66_model.proofs.Exchange.{exchange}

-- THE RUN OF THE NUMBERS THAT ARE NOT THERE YET

abbrev rest_run : List Instr → (ℕ → List ℕ) → List ℕ → Contents → List ℕ → Contents
rest_run block constants prefix c [] = c
rest_run block constants prefix c (n ∷ ns) = rest_run block constants prefix (cond (has n prefix) c (after c (operation_at block constants n))) ns

-- all run if none is placed
rest_run-all : (block : List Instr) (constants : ℕ → List ℕ) (c : Contents) (ns : List ℕ) → rest_run block constants [] c ns ≡ run block constants c ns
rest_run-all block constants c [] = refl
rest_run-all block constants c (n ∷ ns) = rest_run-all block constants (after c (operation_at block constants n)) ns

-- a first number that is placed is passed over, another one runs
rest_run-pass : (block : List Instr) (constants : ℕ → List ℕ) (prefix : List ℕ) (c : Contents) (n : ℕ) (ns : List ℕ) → has n prefix ≡ true →
    rest_run block constants prefix c (n ∷ ns) ≡ rest_run block constants prefix c ns
rest_run-pass block constants prefix c n ns h = ap (λ t. rest_run block constants prefix (cond t c (after c (operation_at block constants n))) ns) h

rest_run-take : (block : List Instr) (constants : ℕ → List ℕ) (prefix : List ℕ) (c : Contents) (n : ℕ) (ns : List ℕ) → has n prefix ≡ false →
    rest_run block constants prefix c (n ∷ ns) ≡ rest_run block constants prefix (after c (operation_at block constants n)) ns
rest_run-take block constants prefix c n ns h = ap (λ t. rest_run block constants prefix (cond t c (after c (operation_at block constants n))) ns) h

-- none runs if all are placed
rest_run-none : (block : List Instr) (constants : ℕ → List ℕ) (prefix : List ℕ) (c : Contents) (ns : List ℕ) → weigh (λ n. cond (has n prefix) 0 1) ns ≡ 0 →
    rest_run block constants prefix c ns ≡ c
rest_run-none block constants prefix c [] h = refl
rest_run-none block constants prefix c (n ∷ ns) h =
    elim (cases_Bool (has n prefix)) [
      | inl is ↦ rest_run-pass block constants prefix c n ns is ∙ rest_run-none block constants prefix c ns (omega (arith, cond-true {A = ℕ} (has n prefix) 0 1 is))
      | inr is ↦ absurd (omega (arith, cond-false {A = ℕ} (has n prefix) 0 1 is))
    ]

rest_run-outside : (block : List Instr) (constants : ℕ → List ℕ) (prefix : List ℕ) (n : ℕ) (c : Contents) (k low : ℕ) → n < low →
    rest_run block constants (prefix ++ n ∷ []) c (rising k low) ≡ rest_run block constants prefix c (rising k low)
rest_run-outside block constants prefix n c zero low h = refl
rest_run-outside block constants prefix n c (suc k) low h =
    let past : low ≢ n = omega arith in
    ap (λ t. rest_run block constants (prefix ++ n ∷ []) (cond t c (after c (operation_at block constants low))) (rising k (suc low))) (has_push-other low n prefix past)
    ∙ rest_run-outside block constants prefix n (cond (has low prefix) c (after c (operation_at block constants low))) k (suc low) (omega arith)

-- WHAT IS READY MAY RUN FIRST

-- a number runs first as well if it conflicts with none before it that isn't placed
runs-first : (block : List Instr) (constants : ℕ → List ℕ) (prefix : List ℕ) (n : ℕ) → has n prefix ≡ false → (c : Contents) (k low : ℕ) → low ≤ n → n < low + k →
    ((m : ℕ) → low ≤ m → m < n → has m prefix ≡ false → conflict (instr_at block m) (instr_at block n) ≡ false) →
    rest_run block constants prefix c (rising k low) ≡ rest_run block constants (prefix ++ n ∷ []) (after c (operation_at block constants n)) (rising k low)
runs-first block constants prefix n new c zero low h1 h2 free = absurd (omega arith)
runs-first block constants prefix n new c (suc k) low h1 h2 free =
    elim (cases_eq low n) [
      | inl here ↦
          let first = after c (operation_at block constants n) in
          let e : rest_run block constants prefix c (rising (suc k) n) ≡ rest_run block constants (prefix ++ n ∷ []) first (rising (suc k) n) =
          rest_run-take block constants prefix c n (rising k (suc n)) new
          ∙ (sym (rest_run-outside block constants prefix n first k (suc n) (omega arith))
          ∙ sym (rest_run-pass block constants (prefix ++ n ∷ []) first n (rising k (suc n)) (has_push-same n prefix)))
          in
          subst (λ l. rest_run block constants prefix c (rising (suc k) l) ≡ rest_run block constants (prefix ++ n ∷ []) first (rising (suc k) l)) (sym here) e
      | inr past ↦
          let first = after c (operation_at block constants n) in
          let free_later = (λ (m : ℕ) (h : suc low ≤ m). free m (omega arith)) in
          let same = has_push-other low n prefix past in
          elim (cases_Bool (has low prefix)) [
            | inl is ↦
                rest_run-pass block constants prefix c low (rising k (suc low)) is
                ∙ (runs-first block constants prefix n new c k (suc low) (omega arith) (omega arith) free_later
                ∙ sym (rest_run-pass block constants (prefix ++ n ∷ []) first low (rising k (suc low)) (same ∙ is)))
            | inr is ↦
                rest_run-take block constants prefix c low (rising k (suc low)) is
                ∙ (runs-first block constants prefix n new (after c (operation_at block constants low)) k (suc low) (omega arith) (omega arith) free_later
                ∙ (ap (λ t. rest_run block constants (prefix ++ n ∷ []) t (rising k (suc low))) (exchange c (operation_at block constants low) (operation_at block constants n) (free low (omega arith) (omega arith) is))
                ∙ sym (rest_run-take block constants (prefix ++ n ∷ []) first low (rising k (suc low)) (same ∙ is))))
          ]
    ]

ready-free : (block : List Instr) (prefix : List ℕ) (n : ℕ) → is_ready block prefix n ≡ true → (m : ℕ) → 1 ≤ m → m < n → has m prefix ≡ false → conflict (instr_at block m) (instr_at block n) ≡ false
ready-free block prefix n h m low high new =
    false_from_ne_true (conflict (instr_at block m) (instr_at block n))
    (λ is.
    true≢false
    (sym (needs-each block prefix n n (ready-parts block prefix n h).3 m low (omega arith) (and_from (ltb m n) (conflict (instr_at block m) (instr_at block n)) (lt-ltb m n high) is))
    ∙ new))

-- WHOLE ORDERS

goes-runs : (block : List Instr) (constants : ℕ → List ℕ) (order prefix : List ℕ) (c : Contents) → GoesOn block prefix order →
    rest_run block constants prefix c (numbers block) ≡ rest_run block constants (prefix ++ order) (run block constants c order) (numbers block)
goes-runs block constants [] prefix c h = ap (λ t. rest_run block constants t c (numbers block)) (sym (append-nil prefix))
goes-runs block constants (n ∷ ns) prefix c h =
    let (low, high, new, met) = ready-parts block prefix n h.0 in
    let first = after c (operation_at block constants n) in
    runs-first block constants prefix n new c (length block) 1 low (omega (arith, high)) (ready-free block prefix n h.0)
    ∙ (goes-runs block constants ns (prefix ++ n ∷ []) first h.1
    ∙ ap (λ t. rest_run block constants t (run block constants first ns) (numbers block)) (append_assoc prefix (n ∷ []) ns))

order-meaning : (block : List Instr) (constants : ℕ → List ℕ) (order : List ℕ) → IsOrder block order → meaning block constants order ≡ meaning block constants (numbers block)
order-meaning block constants order h =
    sym (rest_run-none block constants order (meaning block constants order) (numbers block) (sum_remaining-of_order block (λ _. 1) order h))
    ∙ (sym (goes-runs block constants order [] at_start h.0)
    ∙ rest_run-all block constants at_start (numbers block))

pub legal-meaning : (block : List Instr) (order : List ℕ) → IsLegal block order → KeepsMeaning block order
legal-meaning block order h constants = order-meaning block constants order (legal-order block order h)
