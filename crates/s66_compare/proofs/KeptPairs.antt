-- A block that is another one in a legal order is found to be: each instruction gets a partner of its text, and these come in a legal order too.
use Rattle.std.proofs.Common.{ℕ, zero, suc, ◌+◌, ◌≡◌, ◌≢◌, ◌≤◌, ◌<◌, ◌∙◌, Bool, true, false, true≢false, cond, ◌&&◌, not, if◌then◌else◌, List, [], ◌∷◌, ◌++◌, length, map, refl, ap, ap₂, sym, subst}
use Rattle.std.proofs.Common.{arith, inl, inr, append_assoc, ◌==◌, ◌⊎◌, bytes_eq, nat_lt, le-ltb, lt-ltb, ne_eqb, append-nil}
use Rattle.std.proofs.lemmas.Bool.{and_from, and_parts, cases_Bool, cases_lt, not-true}
use Rattle.std.proofs.lemmas.List.{length-map}
use Rattle.std.proofs.lemmas.Slice.Eq.{bytes_eq-Decides}
use Rattle.s66_isa.specs.{first_that, has, rising, tally, instr_at, numbers, Instr}
use Rattle.s66_model.specs.{conflict, depends, GoesOn, IsLegal, IsOrder, is_ready}
use Rattle.s66_model.proofs.LegalOrders.{depends-from, depends-lt, each-needs, has_push-other, has_push-same, legal-order, needs-each, ready-from, ready-parts}
use Rattle.s66_model.proofs.Remaining.{order-has}
use Rattle.s66_line.specs.{Block, instrs_of, line_of, whole_text_of, instr_in_text}
use Rattle.s66_time.proofs.Opened.{push-more, push-cases}
use Rattle.s66_compare.specs.{first_left, is_untaken, paired, partner, partners, texts_of, by_order, first_missing, is_kept, is_missing, kept_verdict, verdict_of, BlockVerdict, NotLegal, OtherNew}
use Rattle.s66_compare.specs.{OtherOld, Reordered, Same}
use Rattle.s66_compare.proofs.Firsts.{first_passes, none_passes}
use Rattle.s66_compare.proofs.Legal.{length-texts, needed}
use Rattle.s66_compare.proofs.Meanings.{IsSpelled, instr-text}

-- HOW MANY NUMBERS PASS

more-each : (a b : Bool) (m n : ℕ) → (a ≡ true → b ≡ true) → m ≤ n → cond {A = ℕ} a 1 0 + m ≤ cond {A = ℕ} b 1 0 + n
more-each true true m n also le = omega (arith, le)
more-each true false m n also le = absurd (true≢false (sym (also refl)))
more-each false true m n also le = omega (arith, le)
more-each false false m n also le = omega (arith, le)

less-each : (a b : Bool) (m n : ℕ) → (a ≡ true → b ≡ true) → m < n → cond {A = ℕ} a 1 0 + m < cond {A = ℕ} b 1 0 + n
less-each true true m n also lt = omega (arith, lt)
less-each true false m n also lt = absurd (true≢false (sym (also refl)))
less-each false true m n also lt = omega (arith, lt)
less-each false false m n also lt = omega (arith, lt)

less-here : (a b : Bool) (m n : ℕ) → a ≡ false → b ≡ true → m ≤ n → cond {A = ℕ} a 1 0 + m < cond {A = ℕ} b 1 0 + n
less-here true b m n fails passes le = absurd (true≢false fails)
less-here false true m n fails passes le = omega (arith, le)
less-here false false m n fails passes le = absurd (true≢false (sym passes))

tally-le : (f g : ℕ → Bool) (k low : ℕ) → ((n : ℕ) → low ≤ n → n < low + k → f n ≡ true → g n ≡ true) → tally f (rising k low) ≤ tally g (rising k low)
tally-le f g zero low also = omega arith
tally-le f g (suc k) low also =
    more-each (f low) (g low) (tally f (rising k (suc low))) (tally g (rising k (suc low))) (also low (omega arith) (omega arith))
    (tally-le f g k (suc low) (λ n least most. also n (omega (arith, least)) (omega (arith, most))))

-- fewer pass a test than another, if all that pass it pass the other, and x passes the other alone
tally-lt : (f g : ℕ → Bool) (k low x : ℕ) → ((n : ℕ) → low ≤ n → n < low + k → f n ≡ true → g n ≡ true) → low ≤ x → x < low + k → f x ≡ false → g x ≡ true → tally f (rising k low) < tally g (rising k low)
tally-lt f g zero low x also least most fails passes = absurd (omega (arith, least, most))
tally-lt f g (suc k) low x also least most fails passes =
    elim (cases_lt low x) [
      | inl later ↦
          less-each (f low) (g low) (tally f (rising k (suc low))) (tally g (rising k (suc low))) (also low (omega arith) (omega arith))
          (tally-lt f g k (suc low) x (λ n above below. also n (omega (arith, above)) (omega (arith, below))) (omega (arith, later)) (omega (arith, most)) fails passes)
      | inr up_to ↦
          let here : low ≡ x = omega (arith, least, up_to) in
          less-here (f low) (g low) (tally f (rising k (suc low))) (tally g (rising k (suc low))) (ap f here ∙ fails) (ap g here ∙ passes)
          (tally-le f g k (suc low) (λ n above below. also n (omega (arith, above)) (omega (arith, below))))
    ]

-- ONE NUMBER MORE

swap : (a b c : ℕ) → a + (b + c) ≡ b + (a + c)
swap a b c = omega arith

push-later : (test : ℕ → Bool) (ns : List ℕ) (n k low : ℕ) → n < low → tally (λ j. has j (ns ++ n ∷ []) && test j) (rising k low) ≡ tally (λ j. has j ns && test j) (rising k low)
push-later test ns n zero low below = refl
push-later test ns n (suc k) low below =
    ap₂ (λ (b : Bool) (t : ℕ). cond {A = ℕ} (b && test low) 1 0 + t) (has_push-other low n ns (λ same. omega (arith, same, below))) (push-later test ns n k (suc low) (omega (arith, below)))

push-here : (test : ℕ → Bool) (ns : List ℕ) (k low : ℕ) → has low ns ≡ false →
    tally (λ j. has j (ns ++ low ∷ []) && test j) (rising (suc k) low) ≡ cond {A = ℕ} (test low) 1 0 + tally (λ j. has j ns && test j) (rising (suc k) low)
push-here test ns k low fresh =
    let rest : ℕ = tally (λ j. has j ns && test j) (rising k (suc low)) in
    let none : rest ≡ 0 + rest = omega arith in
    ap₂ (λ (b : Bool) (t : ℕ). cond {A = ℕ} (b && test low) 1 0 + t) (has_push-same low ns) (push-later test ns low k (suc low) (omega arith))
    ∙ ap (λ t. cond {A = ℕ} (test low) 1 0 + t) none
    ∙ sym (ap (λ b. cond {A = ℕ} (test low) 1 0 + (cond {A = ℕ} (b && test low) 1 0 + rest)) fresh)

push-within : (test : ℕ → Bool) (ns : List ℕ) (n k low : ℕ) → low ≤ n → n < low + k → has n ns ≡ false →
    tally (λ j. has j (ns ++ n ∷ []) && test j) (rising k low) ≡ cond {A = ℕ} (test n) 1 0 + tally (λ j. has j ns && test j) (rising k low)
push-within test ns n zero low least most fresh = absurd (omega (arith, least, most))
push-within test ns n (suc k) low least most fresh =
    elim (cases_lt low n) [
      | inl later ↦
          ap₂ (λ (b : Bool) (t : ℕ). cond {A = ℕ} (b && test low) 1 0 + t) (has_push-other low n ns (λ same. omega (arith, same, later)))
          (push-within test ns n k (suc low) (omega (arith, later)) (omega (arith, most)) fresh)
          ∙ swap (cond {A = ℕ} (has low ns && test low) 1 0) (cond {A = ℕ} (test n) 1 0) (tally (λ j. has j ns && test j) (rising k (suc low)))
      | inr up_to ↦
          let here : low ≡ n = omega (arith, least, up_to) in
          subst (λ m. tally (λ j. has j (ns ++ m ∷ []) && test j) (rising (suc k) low) ≡ cond {A = ℕ} (test m) 1 0 + tally (λ j. has j ns && test j) (rising (suc k) low)) here
          (push-here test ns k low (ap (λ m. has m ns) here ∙ fresh))
    ]

-- THE FIRST THAT PASSES

-- none before it does
first-least : (test : ℕ → Bool) (k low n j : ℕ) → first_that test (rising k low) ≡ n → low ≤ j → j < n → test j ≡ false
first-least test zero low n j is least below = absurd (omega (arith, is, below))
first-least test (suc k) low n j is least below = by_test (test low) refl is (λ later past. first-least test k (suc low) n j later (omega (arith, past)) below)
  where
    by_test : (t : Bool) → test low ≡ t → (if t then low else first_that test (rising k (suc low))) ≡ n → (first_that test (rising k (suc low)) ≡ n → low < j → test j ≡ false) → test j ≡ false
    by_test true passes first later = absurd (omega (arith, first, least, below))
    by_test false not_so first later =
        elim (cases_lt low j) [
          | inl past ↦ later first past
          | inr up_to ↦ (let here : j ≡ low = omega (arith, least, up_to) in ap test here ∙ not_so)
        ]

none-first : (test : ℕ → Bool) (k low : ℕ) → ((n : ℕ) → low ≤ n → n < low + k → test n ≡ false) → first_that test (rising k low) ≡ 0
none-first test zero low none = refl
none-first test (suc k) low none =
    ap (λ t. if t then low else first_that test (rising k (suc low))) (none low (omega arith) (omega arith))
    ∙ none-first test k (suc low) (λ n least most. none n (omega (arith, least)) (omega (arith, most)))

-- TEXTS

abbrev has_text : Block → List ℕ → ℕ → Bool
has_text old text n = bytes_eq (whole_text_of old n) text

-- how many of these numbers have the text
abbrev count_in : Block → List ℕ → List ℕ → ℕ
count_in old ns text = tally (λ k. has k ns && has_text old text k) (numbers (instrs_of old))

text-same : (old : Block) (text : List ℕ) (n : ℕ) → has_text old text n ≡ true → whole_text_of old n ≡ text
text-same old text n is = (bytes_eq-Decides (whole_text_of old n) text).0 is

same-text : (old : Block) (text : List ℕ) (n : ℕ) → whole_text_of old n ≡ text → has_text old text n ≡ true
same-text old text n same = (bytes_eq-Decides (whole_text_of old n) text).1 same

-- WHAT WAS PAIRED: the numbers of the new block's instructions in its order, and their partners. Of each text there are as many, and of the
-- partners the first ones
record State (old : Block) (placed taken : List ℕ) : Type 0 where
  same : (text : List ℕ) → count_in old taken text ≡ count_in old placed text
  first : (a b : ℕ) → 1 ≤ a → a < b → whole_text_of old a ≡ whole_text_of old b → has b taken ≡ true → has a taken ≡ true
  -- what they depend on is placed
  met : (a n : ℕ) → has n placed ≡ true → depends (instrs_of old) a n ≡ true → has a placed ≡ true

start : (old : Block) → State old [] []
start old = record { same = λ text. refl; first = λ a b some lt same none. absurd (true≢false (sym none)); met = λ a n none is. absurd (true≢false (sym none)) }

module _ (old : Block) (spelled : IsSpelled old) where
  same-instr : (a b : ℕ) → 1 ≤ a → a ≤ length (instrs_of old) → 1 ≤ b → b ≤ length (instrs_of old) → whole_text_of old a ≡ whole_text_of old b → instr_at (instrs_of old) a ≡ instr_at (instrs_of old) b
  same-instr a b least most some few same =
      instr-text old a (spelled a least most) ∙ ap instr_in_text same ∙ sym (instr-text old b (spelled b some few))

  same-depends : (a m x k : ℕ) → depends (instrs_of old) a m ≡ true → 1 ≤ a → a ≤ length (instrs_of old) → 1 ≤ m → m ≤ length (instrs_of old) → 1 ≤ x → x ≤ length (instrs_of old) → 1 ≤ k → k ≤ length (instrs_of old) →
      whole_text_of old x ≡ whole_text_of old a → whole_text_of old k ≡ whole_text_of old m → x < k → depends (instrs_of old) x k ≡ true
  same-depends a m x k is a_some a_few m_some m_few x_some x_few k_some k_few earlier later lt =
      let both = and_parts (nat_lt a m) (conflict (instr_at (instrs_of old) a) (instr_at (instrs_of old) m)) is in
      and_from (nat_lt x k) (conflict (instr_at (instrs_of old) x) (instr_at (instrs_of old) k)) (lt-ltb x k lt)
      (ap₂ conflict (same-instr x a x_some x_few a_some a_few earlier) (same-instr k m k_some k_few m_some m_few later) ∙ both.1)

  module _ (placed taken : List ℕ) (state : State old placed taken) (n : ℕ) (ready : is_ready (instrs_of old) placed n ≡ true) where
    needs-placed : (a : ℕ) → depends (instrs_of old) a n ≡ true → has a placed ≡ true
    needs-placed a is =
        let parts = ready-parts (instrs_of old) placed n ready in
        needs-each (instrs_of old) placed n n parts.3 a (depends-from (instrs_of old) a n is) (let lt = depends-lt (instrs_of old) a n is in omega (arith, lt)) is

    needs-all : (a k : ℕ) → (k ≡ n) ⊎ (has k placed ≡ true) → depends (instrs_of old) a k ≡ true → has a placed ≡ true
    needs-all a k (inl same) is = needs-placed a (ap (depends (instrs_of old) a) (sym same) ∙ is)
    needs-all a k (inr there) is = state.met a k there is

    -- if all placed numbers of the text, and n too, were taken, too many would be
    too-many : ((k : ℕ) → 1 ≤ k → k ≤ length (instrs_of old) → whole_text_of old k ≡ whole_text_of old n → (k ≡ n) ⊎ (has k placed ≡ true) → has k taken ≡ true) → ⊥
    too-many all =
        let text = whole_text_of old n in
        let parts = ready-parts (instrs_of old) placed n ready in
        let lt : count_in old placed text < count_in old taken text =
        tally-lt (λ k. has k placed && has_text old text k) (λ k. has k taken && has_text old text k) (length (instrs_of old)) 1 n
        (λ k least most both. (let two = and_parts (has k placed) (has_text old text k) both in and_from (has k taken) (has_text old text k) (all k least (omega (arith, most)) (text-same old text k two.1) (inr two.0)) two.1))
        parts.0 (omega (arith, parts.1)) (ap (λ b. b && has_text old text n) parts.2)
        (and_from (has n taken) (has_text old text n) (all n parts.0 parts.1 refl (inl refl)) (same-text old text n refl))
        in
        omega (arith, lt, state.same text)

    -- m is the first of the text that isn't taken
    module _ (m : ℕ) (some : 1 ≤ m) (few : m ≤ length (instrs_of old)) (same : whole_text_of old m ≡ whole_text_of old n) (least : (j : ℕ) → 1 ≤ j → j < m → whole_text_of old j ≡ whole_text_of old n → has j taken ≡ true) where
      -- nothing on which it depends isn't placed
      none-missing : (a x : ℕ) → depends (instrs_of old) a m ≡ true → 1 ≤ x → x ≤ a → whole_text_of old x ≡ whole_text_of old a → has x placed ≡ false → ⊥
      none-missing a x is low up_to text missing =
          let a_some = depends-from (instrs_of old) a m is in
          let a_below = depends-lt (instrs_of old) a m is in
          too-many (λ k k_some k_few of_text there. elim (cases_lt k m) [
            | inl before ↦ least k k_some before of_text
            | inr past ↦
                let needs = same-depends a m x k is a_some (omega (arith, a_below, few)) some few low (omega (arith, up_to, a_below, few)) k_some k_few text (of_text ∙ sym same) (omega (arith, up_to, a_below, past)) in
                absurd (true≢false (sym (needs-all x k there needs) ∙ missing))
          ])

      -- nor isn't taken
      none-left : (a : ℕ) → depends (instrs_of old) a m ≡ true → has a taken ≡ false → ⊥
      none-left a is missing =
          let text = whole_text_of old a in
          let a_some = depends-from (instrs_of old) a m is in
          let a_below = depends-lt (instrs_of old) a m is in
          let all : (x : ℕ) → 1 ≤ x → x ≤ a → whole_text_of old x ≡ text → has x placed ≡ true =
          λ x low up_to of_text. elim (cases_Bool (has x placed)) [
            | inl there ↦ there
            | inr not_there ↦ absurd (none-missing a x is low up_to of_text not_there)
          ] in
          let lt : count_in old taken text < count_in old placed text =
          tally-lt (λ k. has k taken && has_text old text k) (λ k. has k placed && has_text old text k) (length (instrs_of old)) 1 a
          (λ k low most both. (
          let two = and_parts (has k taken) (has_text old text k) both in
          let of_text = text-same old text k two.1 in
          elim (cases_lt a k) [
            | inl past ↦ absurd (true≢false (sym (state.first a k a_some past (sym of_text) two.0) ∙ missing))
            | inr up_to ↦ and_from (has k placed) (has_text old text k) (all k low up_to of_text) two.1
          ]))
          a_some (omega (arith, a_below, few)) (ap (λ b. b && has_text old text a) missing)
          (and_from (has a placed) (has_text old text a) (all a a_some (omega arith) refl) (same-text old text a refl))
          in
          omega (arith, lt, state.same text)

      taken-needs : (a : ℕ) → depends (instrs_of old) a m ≡ true → has a taken ≡ true
      taken-needs a is =
          elim (cases_Bool (has a taken)) [
            | inl there ↦ there
            | inr missing ↦ absurd (none-left a is missing)
          ]

      next-state : has m taken ≡ false → State old (placed ++ n ∷ []) (taken ++ m ∷ [])
      next-state fresh =
          let parts = ready-parts (instrs_of old) placed n ready in
          record {
            same = λ text.
                push-within (has_text old text) taken m (length (instrs_of old)) 1 some (omega (arith, few)) fresh
                ∙ ap₂ (λ (t : List ℕ) (c : ℕ). cond {A = ℕ} (bytes_eq t text) 1 0 + c) same (state.same text)
                ∙ sym (push-within (has_text old text) placed n (length (instrs_of old)) 1 parts.0 (omega (arith, parts.1)) parts.2);
            first = λ a b low lt text there. elim (push-cases b m taken there) [
              | inl here ↦ push-more a m taken (least a low (omega (arith, lt, here)) (text ∙ ap (whole_text_of old) here ∙ same))
              | inr before ↦ push-more a m taken (state.first a b low lt text before)
            ];
            met = λ a k there is. push-more a n placed (needs-all a k (push-cases k n placed there) is);
          }

    -- ITS PARTNER

    open-taken : (j : ℕ) → is_untaken old taken (whole_text_of old n) j ≡ false → whole_text_of old j ≡ whole_text_of old n → has j taken ≡ true
    open-taken j closed text = needed (has_text old (whole_text_of old n) j) (has j taken) closed (same-text old (whole_text_of old n) j text)

    some-open : partner old taken (whole_text_of old n) ≡ 0 → ⊥
    some-open none =
        too-many (λ k least most text there. open-taken k (none_passes (is_untaken old taken (whole_text_of old n)) (length (instrs_of old)) 1 (omega arith) none k least (omega (arith, most))) text)

-- a partner, which is ready after those that are taken
record Step (old : Block) (placed taken : List ℕ) (n : ℕ) : Type 0 where
  some : (partner old taken (whole_text_of old n) == 0) ≡ false
  ready : is_ready (instrs_of old) taken (partner old taken (whole_text_of old n)) ≡ true
  next : State old (placed ++ n ∷ []) (taken ++ partner old taken (whole_text_of old n) ∷ [])

step : (old : Block) (placed taken : List ℕ) (n : ℕ) → IsSpelled old → State old placed taken → is_ready (instrs_of old) placed n ≡ true → Step old placed taken n
step old placed taken n spelled state ready =
    let text = whole_text_of old n in
    let m = partner old taken text in
    let other = some-open old spelled placed taken state n ready in
    let passes = first_passes (is_untaken old taken text) (length (instrs_of old)) 1 m (omega arith) refl other in
    let stated = and_parts (has_text old text m) (not (has m taken)) passes.2 in
    let few : m ≤ length (instrs_of old) = omega (arith, passes.1) in
    let fresh : has m taken ≡ false = not-true (has m taken) stated.1 in
    let same = text-same old text m stated.0 in
    let least : (j : ℕ) → 1 ≤ j → j < m → whole_text_of old j ≡ text → has j taken ≡ true =
    λ j low below is. open-taken old spelled placed taken state n ready j (first-least (is_untaken old taken text) (length (instrs_of old)) 1 m j refl low below) is in
    record {
      some = ne_eqb m 0 other;
      ready = ready-from (instrs_of old) taken m passes.0 few fresh (each-needs (instrs_of old) taken m (taken-needs old spelled placed taken state n ready m passes.0 few same least) m);
      next = next-state old spelled placed taken state n ready m passes.0 few same least fresh;
    }

-- ALL INSTRUCTIONS

record Walked (old : Block) (taken : List ℕ) (texts : List (List ℕ)) : Type 0 where
  more : List ℕ
  all : partners old taken texts ≡ taken ++ more
  goes : GoesOn (instrs_of old) taken more
  size : length more ≡ length texts

walk-next : (old : Block) (placed taken : List ℕ) (n : ℕ) (texts : List (List ℕ)) → Step old placed taken n → Walked old (taken ++ partner old taken (whole_text_of old n) ∷ []) texts → Walked old taken (whole_text_of old n ∷ texts)
walk-next old placed taken n texts paired later =
    let m = partner old taken (whole_text_of old n) in
    record { more = m ∷ later.more; all = rw paired.some (later.all ∙ append_assoc taken (m ∷ []) later.more); goes = (paired.ready, later.goes); size = ap suc later.size }

walk : (old : Block) (placed taken ns : List ℕ) → IsSpelled old → State old placed taken → GoesOn (instrs_of old) placed ns → Walked old taken (map (whole_text_of old) ns)
walk old placed taken [] spelled state goes = record { more = []; all = sym (append-nil taken); goes = tt; size = refl }
walk old placed taken (n ∷ ns) spelled state goes =
    let next = step old placed taken n spelled state goes.0 in
    walk-next old placed taken n (map (whole_text_of old) ns) next (walk old (placed ++ n ∷ []) (taken ++ partner old taken (whole_text_of old n) ∷ []) ns spelled next.next goes.1)

-- THE VERDICT

not-missing : (d h : Bool) → (d ≡ true → h ≡ true) → (d && not h) ≡ false
not-missing true true met = refl
not-missing true false met = absurd (true≢false (sym (met refl)))
not-missing false h met = refl

nothing-missing : (block : List Instr) (before : List ℕ) (n : ℕ) → is_ready block before n ≡ true → first_missing block before n ≡ 0
nothing-missing block before n ready =
    let parts = ready-parts block before n ready in
    none-first (is_missing block before n) (length block) 1
    (λ a least most. not-missing (depends block a n) (has a before) (λ is. needs-each block before n n parts.3 a least (let lt = depends-lt block a n is in omega (arith, lt)) is))

order-stays : (block : List Instr) (kept : BlockVerdict) (before ns : List ℕ) → GoesOn block before ns → by_order block kept before ns ≡ kept
order-stays block kept before [] goes = refl
order-stays block kept before (n ∷ ns) goes =
    ap (λ k. if k == 0 then by_order block kept (before ++ n ∷ []) ns else NotLegal n k) (nothing-missing block before n goes.0) ∙ order-stays block kept (before ++ n ∷ []) ns goes.1

none-left_out : (old : Block) (ns : List ℕ) → IsOrder (instrs_of old) ns → first_left old ns ≡ 0
none-left_out old ns order =
    none-first (λ n. not (has n ns)) (length (instrs_of old)) 1 (λ n least most. ap not (order-has (instrs_of old) ns order n least (omega (arith, most))))

kept-is : (same : Bool) → is_kept (if same then Same else Reordered) ≡ true
kept-is true = refl
kept-is false = refl

by-pairs : (old new : Block) (ns : List ℕ) → nat_lt (length ns) (length (instrs_of new)) ≡ false → first_left old ns ≡ 0 → by_order (instrs_of old) (kept_verdict (instrs_of old) ns) [] ns ≡ kept_verdict (instrs_of old) ns →
    is_kept (verdict_of old new ns) ≡ true
by-pairs old new ns enough none kept =
    let order : BlockVerdict = by_order (instrs_of old) (kept_verdict (instrs_of old) ns) [] ns in
    ap (λ few. is_kept (if few then OtherNew (line_of new (length ns + 1)) else (if first_left old ns == 0 then order else OtherOld (line_of old (first_left old ns))))) enough
    ∙ ap (λ k. is_kept (if k == 0 then order else OtherOld (line_of old k))) none ∙ ap is_kept kept ∙ kept-is (bytes_eq ns (numbers (instrs_of old)))

pub order-kept : (old new : Block) (order : List ℕ) → IsSpelled old → IsLegal (instrs_of old) order → texts_of new ≡ map (whole_text_of old) order → is_kept (verdict_of old new (paired old new)) ≡ true
order-kept old new order spelled legal texts =
    let block : List Instr = instrs_of old in
    let completes = legal-order block order legal in
    let w = walk old [] [] order spelled (start old) completes.0 in
    let same : paired old new ≡ w.more = ap (partners old []) texts ∙ w.all in
    let size : length w.more ≡ length order = w.size ∙ length-map order (whole_text_of old) in
    let own : length (instrs_of new) ≡ length order = sym (length-texts new) ∙ ap (λ (ts : List (List ℕ)). length ts) texts ∙ length-map order (whole_text_of old) in
    let is : IsOrder block w.more = (w.goes, size ∙ completes.1) in
    subst (λ ns. is_kept (verdict_of old new ns) ≡ true) (sym same)
    (by-pairs old new w.more (le-ltb (length w.more) (length (instrs_of new)) (omega (arith, size, own))) (none-left_out old w.more is) (order-stays block (kept_verdict block w.more) [] w.more w.goes))
