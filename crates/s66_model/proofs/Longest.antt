-- The longest tail of a number that remains is the same after every beginning.
use Rattle.std.proofs.Common.{ℕ, zero, suc, ◌+◌, ◌<◌, ◌≡◌, Bool, true, false, true≢false, ◌&&◌, max, List, [], ◌∷◌, ◌++◌, length, refl, sym, subst, ap, arith, inl, inr, ltb, eqb, append_assoc, ◌∙◌}
use Rattle.std.proofs.Common.{eqb-true, ltb-true, append-nil, filter}
use Rattle.std.proofs.lemmas.Bool.{and_parts, and_from, or_cases, or_right, cases_Bool}
use Rattle.s66_isa.specs.{Instr, greatest, has, instr_at, numbers}
use Rattle.s66_isa.proofs.Lists.{greatest-same, filter-filter, filter-same, filter-among}
use Rattle.s66_model.specs.{depends, conflict, Problem, row_at, points_of, is_remaining, remaining, is_ready, GoesOn, IsBeginning, tail, link, is_linked, links_from, longest, head, chain}
use Rattle.s66_model.specs.{longest_tail}
use Rattle.s66_model.proofs.LegalOrders.{has-push, ready-parts, needs-each, depends-lt, depends-from}
use Rattle.s66_model.proofs.Remaining.{remaining-parts, remaining-among, all-remain}
use Rattle.s66_model.proofs.ChainBound.{link-conflict}

-- WHAT DEPENDS ON A NUMBER THAT REMAINS, REMAINS

-- what any of these numbers depends on is placed
abbrev AreMet : List Instr → List ℕ → Type 0
AreMet block prefix = (m a : ℕ) → has m prefix ≡ true → depends block a m ≡ true → has a prefix ≡ true

met-push : (block : List Instr) (prefix : List ℕ) (n : ℕ) → AreMet block prefix → is_ready block prefix n ≡ true → AreMet block (prefix ++ n ∷ [])
met-push block prefix n met ready m a h dep =
    let stays : has a prefix ≡ true → has a (prefix ++ n ∷ []) ≡ true = λ is. has-push a n prefix ∙ or_right (eqb a n) (has a prefix) is in
    elim (or_cases (eqb m n) (has m prefix) (sym (has-push m n prefix) ∙ h)) [
      | inl here ↦
          let (low, high, new, needs) = ready-parts block prefix n ready in
          let dep2 : depends block a n ≡ true = subst (λ x. depends block a x ≡ true) (eqb-true m n here) dep in
          let lt : a < n = depends-lt block a n dep2 in
          stays (needs-each block prefix n n needs a (depends-from block a n dep2) (omega (arith, lt)) dep2)
      | inr past ↦ stays (met m a past dep)
    ]

met-run : (block : List Instr) (prefix ns : List ℕ) → AreMet block prefix → GoesOn block prefix ns → AreMet block (prefix ++ ns)
met-run block prefix [] met goes = subst (λ xs. AreMet block xs) (sym (append-nil prefix)) met
met-run block prefix (n ∷ ns) met goes =
    subst (λ xs. AreMet block xs) (append_assoc prefix (n ∷ []) ns) (met-run block (prefix ++ n ∷ []) ns (met-push block prefix n met goes.0) goes.1)

beginning-met : (block : List Instr) (prefix : List ℕ) → IsBeginning block prefix → AreMet block prefix
beginning-met block prefix begins = met-run block [] prefix (λ m a h dep. absurd (true≢false (sym h))) begins

linked-depends : (b : Problem) (n m : ℕ) → is_linked b n m ≡ true → depends b.block n m ≡ true
linked-depends b n m is =
    let both = and_parts (ltb n m) (ltb 0 (link (row_at b n) (row_at b m))) is in
    let some : 0 < link (row_at b n) (row_at b m) = ltb-true 0 (link (row_at b n) (row_at b m)) both.1 in
    and_from (ltb n m) (conflict (instr_at b.block n) (instr_at b.block m)) both.0 (link-conflict b.profile (instr_at b.block n) (instr_at b.block m) (omega (arith, some)))

-- what a number that remains has a link to isn't placed
linked-new : (b : Problem) (prefix : List ℕ) (n m : ℕ) → IsBeginning b.block prefix → is_remaining b.block prefix n ≡ true → is_linked b n m ≡ true → has m prefix ≡ false
linked-new b prefix n m begins stays is =
    elim (cases_Bool (has m prefix)) [
      | inl placed ↦
          let (low, high, new) = remaining-parts b.block prefix n stays in
          absurd (true≢false (sym (beginning-met b.block prefix begins m n placed (linked-depends b n m is)) ∙ new))
      | inr new ↦ new
    ]

-- so a number that remains keeps all its links
pub links_from-same : (b : Problem) (prefix : List ℕ) (n : ℕ) → IsBeginning b.block prefix → is_remaining b.block prefix n ≡ true → links_from b prefix n ≡ links_from b [] n
links_from-same b prefix n begins stays =
    filter-filter (is_linked b n) (is_remaining b.block prefix) (numbers b.block)
    ∙ filter-same (λ m. is_remaining b.block prefix m && is_linked b n m) (λ m. is_remaining b.block [] m && is_linked b n m) (numbers b.block) (λ m among. same m)
    ∙ sym (filter-filter (is_linked b n) (is_remaining b.block []) (numbers b.block))
  where
    and-off : (x y z : Bool) → z ≡ false → (x && z) ≡ (y && z)
    and-off true true z e = refl
    and-off true false z e = e
    and-off false true z e = sym e
    and-off false false z e = refl

    same : (m : ℕ) → (is_remaining b.block prefix m && is_linked b n m) ≡ (is_remaining b.block [] m && is_linked b n m)
    same m =
        elim (cases_Bool (is_linked b n m)) [
          | inl is ↦ rw (linked-new b prefix n m begins stays is) refl
          | inr off ↦ and-off (is_remaining b.block prefix m) (is_remaining b.block [] m) (is_linked b n m) off
        ]

pub links_from-static : (b : Problem) (prefix : List ℕ) (n : ℕ) → IsBeginning b.block prefix → is_remaining b.block prefix n ≡ true → links_from b prefix n ≡ filter (is_linked b n) (numbers b.block)
links_from-static b prefix n begins stays = links_from-same b prefix n begins stays ∙ ap (filter (is_linked b n)) (all-remain b.block)

-- THE LONGEST TAIL

pub longest-same : (b : Problem) (prefix : List ℕ) → IsBeginning b.block prefix → (links n : ℕ) → is_remaining b.block prefix n ≡ true → longest b prefix links n ≡ longest b [] links n
longest-same b prefix begins zero n stays = refl
longest-same b prefix begins (suc links) n stays =
    let f : ℕ → ℕ = λ m. link (row_at b n) (row_at b m) + longest b prefix links m in
    let g : ℕ → ℕ = λ m. link (row_at b n) (row_at b m) + longest b [] links m in
    let same : greatest f (links_from b prefix n) ≡ greatest g (links_from b prefix n) =
    greatest-same f g (links_from b prefix n) (λ m among.
    let both = filter-among (is_linked b n) m (remaining b.block prefix) among in
    ap (λ k. link (row_at b n) (row_at b m) + k) (longest-same b prefix begins links m (remaining-among b.block prefix m both.0))) in
    ap (max (tail (row_at b n))) (same ∙ ap (greatest g) (links_from-same b prefix n begins stays))

-- what the chains of a beginning are, by walks that are known before anything is placed
pub chain-static : (b : Problem) (prefix : List ℕ) → IsBeginning b.block prefix → chain b prefix ≡ greatest (λ n. head (points_of b prefix) (row_at b n) + longest_tail b n) (remaining b.block prefix)
chain-static b prefix begins =
    greatest-same (λ n. head (points_of b prefix) (row_at b n) + longest b prefix (length b.block) n) (λ n. head (points_of b prefix) (row_at b n) + longest_tail b n) (remaining b.block prefix)
    (λ n among. ap (λ k. head (points_of b prefix) (row_at b n) + k) (longest-same b prefix begins (length b.block) n (remaining-among b.block prefix n among)))
