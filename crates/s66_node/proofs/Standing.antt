-- A walk is at a beginning of the block's orders, before and after each push and undo.
use Rattle.std.proofs.Common.{ℕ, ◌+◌, ◌-◌, ◌≤◌, ◌<◌, ◌≡◌, ◌⊎◌, Bool, true, false, not, ◌&&◌, refl, List, [], ◌∷◌, ◌++◌, length, take, get_or, sym, ap, arith, inl, inr, ◌∙◌, length-append, subst, eqb}
use Rattle.std.proofs.Common.{◌||◌, eq-eqb, ne_eqb, take_all}
use Rattle.std.proofs.lemmas.Bool.{cases_eq, or_left}
use Rattle.std.proofs.lemmas.List.{take_more, take-append-le}
use Rattle.std.proofs.Math.Bool.{or-false}
use Rattle.s66_isa.specs.{Instr, BLOCK_LIMIT, has, Set, numbers_in}
use Rattle.s66_model.specs.{Problem, longest_tail, IsBeginning, IsFront, IsIncomplete, is_ready, ready, all_needs}
use Rattle.s66_model.proofs.LegalOrders.{ready-parts, has-push, GoesOn-append}
use Rattle.s66_model.proofs.Remaining.{step-begins}
use Rattle.s66_model.proofs.Beginnings.{front-beginning, beginning-front}
use Rattle.s66_line.specs.{instrs_of}
use Rattle.s66_time.specs.Ticking.{Ticking}
use Rattle.s66_time.specs.{problem_of}
use Rattle.s66_time.proofs.LongestBeginning.{beginning-few, front-take, push-ready}
use Rattle.s66_time.proofs.Opened.{count-needs}
use Rattle.s66_time.proofs.RankOrder.{ranks-same, ranks-with, ranks-without}
use Rattle.s66_bound.specs.{rank, AreRanksLeft}
use Rattle.s66_node.specs.{ReadyFront, IsWalked, IsReadyFront}
use Rattle.s66_node.specs.Walked.{Walked}

-- each number of a beginning is ready after those before it
pub ready-at : (block : List Instr) (ns : List ℕ) (i : ℕ) → IsBeginning block ns → i < length ns → is_ready block (take i ns) (get_or ns i 0) ≡ true
ready-at block ns i begins lt =
    push-ready block (take i ns) (get_or ns i 0) (subst (IsFront block) (take_more ns i 0 lt) (front-take block ns (i + 1) (beginning-front block ns begins)))

-- each front of a beginning is one
begins-at : (block : List Instr) (ns : List ℕ) (i : ℕ) → IsBeginning block ns → IsBeginning block (take i ns)
begins-at block ns i begins = front-beginning block (take i ns) (front-take block ns i (beginning-front block ns begins))

-- A FRONT OF THE PREFIX, AND WHAT IS READY AFTER IT

-- of a longer prefix too
front-longer : (block : List Instr) (ns more : List ℕ) (f : ReadyFront) → IsReadyFront block ns f → IsReadyFront block (ns ++ more) f
front-longer block ns more f is =
    let same : take f.count (ns ++ more) ≡ take f.count ns = take-append-le f.count ns more is.within in
    record {
      within = omega (arith, is.within, length-append ns more);
      placed = λ m. is.placed m ∙ ap (has m) (sym same);
      ready = is.ready ∙ ap (ready block) (sym same);
    }

-- and of a shorter one that still has it
front-shorter : (block : List Instr) (ns more : List ℕ) (f : ReadyFront) → f.count ≤ length ns → IsReadyFront block (ns ++ more) f → IsReadyFront block ns f
front-shorter block ns more f few is =
    let same : take f.count (ns ++ more) ≡ take f.count ns = take-append-le f.count ns more few in
    record {
      within = few;
      placed = λ m. is.placed m ∙ ap (has m) same;
      ready = is.ready ∙ ap (ready block) same;
    }

-- a whole prefix is one
front-whole : (block : List Instr) (ns : List ℕ) (f : ReadyFront) → f.count ≡ length ns → ((m : ℕ) → has m (numbers_in f.placed) ≡ has m ns) → numbers_in f.ready ≡ ready block ns → IsReadyFront block ns f
front-whole block ns f all placed is =
    let whole : take f.count ns ≡ ns = take_all f.count ns (omega (arith, all)) in
    record {
      within = omega (arith, all);
      placed = λ m. placed m ∙ ap (has m) (sym whole);
      ready = is ∙ ap (ready block) (sym whole);
    }

-- THE WALK

module _ (c : Ticking) (b : Problem) (d : List (List ℕ)) (ns : List ℕ) (left : Set) (f : ReadyFront) (w : Walked) (h : IsWalked c b d ns left f) (seen : record { problem = problem_of c; numbers = c.numbers } ≡ w) where
  ready-here : (n : ℕ) → is_ready w.problem.block w.numbers n ≡ true → is_ready (instrs_of c.block) c.numbers n ≡ true
  ready-here n is = subst (λ (x : Walked). is_ready x.problem.block x.numbers n ≡ true) (sym seen) is

  -- there is room for one more number
  pub push-fits : (n : ℕ) → is_ready w.problem.block w.numbers n ≡ true → length ns < BLOCK_LIMIT
  push-fits n is =
      omega (arith, h.few, ap length h.numbers, beginning-few (instrs_of c.block) (c.numbers ++ n ∷ []) (step-begins (instrs_of c.block) c.numbers n h.begins (ready-here n is)), length-append c.numbers (n ∷ []))

  number-in : (n : ℕ) → is_ready (instrs_of c.block) c.numbers n ≡ true → (1 ≤ n) × (n ≤ length b.block)
  number-in n is =
      let (low, high, new, met) = ready-parts (instrs_of c.block) c.numbers n is in
      (low, omega (arith, high, ap (λ (p : Problem). length p.block) h.bounds))

  -- a number that is ready has a rank
  pub push-ranked : (n : ℕ) → is_ready w.problem.block w.numbers n ≡ true → (1 ≤ n) × (n ≤ length b.block)
  push-ranked n is = number-in n (ready-here n is)

  -- without its rank they are those of what remains after it
  pub ranks-push : (n r : ℕ) (none placed less : Set) → is_ready w.problem.block w.numbers n ≡ true → r ≡ rank b n → numbers_in none ≡ [] → ((m : ℕ) → has m (numbers_in placed) ≡ (eqb m r || has m (numbers_in none))) →
      ((m : ℕ) → has m (numbers_in less) ≡ (has m (numbers_in left) && not (has m (numbers_in placed)))) → AreRanksLeft b (c.numbers ++ n ∷ []) less
  ranks-push n r none placed less is here nothing adds takes =
      let (low, high) = push-ranked n is in
      ranks-same (longest_tail b) (length b.block) (λ m. not (has m c.numbers) && not (eqb m n)) (λ m. not (has m (c.numbers ++ n ∷ []))) less
      (λ m from to. apart (has m c.numbers) (eqb m n) ∙ ap not (sym (has-push m n c.numbers)))
      (ranks-without (longest_tail b) (length b.block) (λ m. not (has m c.numbers)) n left less low high h.ranks (λ m.
      takes m ∙ ap (λ x. has m (numbers_in left) && not x) (adds m ∙ (ap (λ x. eqb m r || x) (ap (has m) nothing) ∙ (or-false (eqb m r) ∙ ap (eqb m) here)))))
    where
      apart : (x y : Bool) → (not x && not y) ≡ not (y || x)
      apart true true = refl
      apart true false = refl
      apart false true = refl
      apart false false = refl

  pub walked-push : (n : ℕ) (c2 : Ticking) (ns2 : List ℕ) (less : Set) → AreRanksLeft b (c.numbers ++ n ∷ []) less → is_ready w.problem.block w.numbers n ≡ true → c2 ≡ record c { numbers = c.numbers ++ n ∷ []; looks = c2.looks } → ns2 ≡ ns ++ n ∷ [] → IsWalked c2 b d ns2 less f
  walked-push n c2 ns2 less ranks is pushed more =
      let block : c2.block ≡ c.block = ap (λ (x : Ticking). x.block) pushed in
      let numbers : c2.numbers ≡ c.numbers ++ n ∷ [] = ap (λ (x : Ticking). x.numbers) pushed in
      let begins : IsBeginning (instrs_of c.block) (c.numbers ++ n ∷ []) = step-begins (instrs_of c.block) c.numbers n h.begins (ready-here n is) in
      record {
        bounds = h.bounds ∙ sym (ap problem_of pushed);
        needs = rw block h.needs;
        numbers = more ∙ (ap (λ xs. xs ++ n ∷ []) h.numbers ∙ sym numbers);
        begins = rw (block, numbers) begins;
        few = rw block h.few;
        ranks = subst (λ xs. AreRanksLeft b xs less) (sym numbers) ranks;
        front = rw (block, numbers) (front-longer (instrs_of c.block) c.numbers (n ∷ []) f h.front);
      }

  pub walked-undo : (c2 : Ticking) (ns2 : List ℕ) (more : Set) (f2 : ReadyFront) → AreRanksLeft b ns2 more → c2 ≡ record c { numbers = take (length c.numbers - 1) c.numbers; looks = c2.looks } → ns2 ≡ take (length ns - 1) ns → IsReadyFront (instrs_of c.block) ns2 f2 → IsWalked c2 b d ns2 more f2
  walked-undo c2 ns2 more f2 ranks undone less is =
      let block : c2.block ≡ c.block = ap (λ (x : Ticking). x.block) undone in
      let numbers : c2.numbers ≡ take (length c.numbers - 1) c.numbers = ap (λ (x : Ticking). x.numbers) undone in
      let begins : IsBeginning (instrs_of c.block) (take (length c.numbers - 1) c.numbers) = begins-at (instrs_of c.block) c.numbers (length c.numbers - 1) h.begins in
      let same : ns2 ≡ c2.numbers = less ∙ (ap (λ xs. take (length xs - 1) xs) h.numbers ∙ sym numbers) in
      record {
        bounds = h.bounds ∙ sym (ap problem_of undone);
        needs = rw block h.needs;
        numbers = same;
        begins = rw (block, numbers) begins;
        few = rw block h.few;
        ranks = subst (λ xs. AreRanksLeft b xs more) same ranks;
        front = subst (λ xs. IsReadyFront (instrs_of c2.block) xs f2) same (rw block is);
      }

  -- a number that is ready is one of those whose needs are known
  ready-range : (prefix : List ℕ) (n : ℕ) → is_ready (instrs_of c.block) prefix n ≡ true → (1 ≤ n) × (n ≤ length d)
  ready-range prefix n is =
      let (low, high, new, met) = ready-parts (instrs_of c.block) prefix n is in
      (low, omega (arith, high, ap (λ (needed : List (List ℕ)). length needed) h.needs, count-needs (instrs_of c.block)))

  number-ready : (i n : ℕ) → i < length c.numbers → n ≡ get_or c.numbers i 0 → is_ready (instrs_of c.block) (take i c.numbers) n ≡ true
  number-ready i n lt here = subst (λ m. is_ready (instrs_of c.block) (take i c.numbers) m ≡ true) (sym here) (ready-at (instrs_of c.block) c.numbers i h.begins lt)

  -- each number of the prefix is
  pub number-range : (i n : ℕ) → i < length c.numbers → n ≡ get_or c.numbers i 0 → (1 ≤ n) × (n ≤ length d)
  number-range i n lt here = ready-range (take i c.numbers) n (number-ready i n lt here)

  pub needs-few : length d ≤ BLOCK_LIMIT
  needs-few = omega (arith, h.few, ap (λ (needed : List (List ℕ)). length needed) h.needs, count-needs (instrs_of c.block))

  -- the front goes on by the next number of the prefix
  pub front-next : (i n : ℕ) (placed was more will : Set) → i < length c.numbers → n ≡ get_or c.numbers i 0 → IsReadyFront (instrs_of c.block) c.numbers (record { count = i; placed = placed; ready = was }) →
      ((m : ℕ) → has m (numbers_in more) ≡ (eqb m n || has m (numbers_in placed))) →
      ((block : List Instr) (prefix : List ℕ) → d ≡ all_needs block → IsBeginning block prefix → is_ready block prefix n ≡ true → numbers_in was ≡ ready block prefix → ((m : ℕ) → has m (numbers_in more) ≡ has m (prefix ++ n ∷ [])) → numbers_in will ≡ ready block (prefix ++ n ∷ [])) →
      IsReadyFront (instrs_of c.block) c.numbers (record { count = i + 1; placed = more; ready = will })
  front-next i n placed was more will lt here is adds opens =
      let block = instrs_of c.block in
      let next : take i c.numbers ++ n ∷ [] ≡ take (i + 1) c.numbers = ap (λ m. take i c.numbers ++ m ∷ []) here ∙ sym (take_more c.numbers i 0 lt) in
      let all : (m : ℕ) → has m (numbers_in more) ≡ has m (take i c.numbers ++ n ∷ []) =
      λ m. adds m ∙ (ap (λ t. eqb m n || t) (is.placed m) ∙ sym (has-push m n (take i c.numbers)))
      in
      record {
        within = omega (arith, lt);
        placed = λ m. all m ∙ ap (has m) next;
        ready = opens block (take i c.numbers) h.needs (begins-at block c.numbers i h.begins) (number-ready i n lt here) is.ready all ∙ ap (ready block) next;
      }

  module _ (ns2 : List ℕ) (n : ℕ) (split : ns ≡ ns2 ++ n ∷ []) where
    whole : c.numbers ≡ ns2 ++ n ∷ []
    whole = sym h.numbers ∙ split

    parts : IsBeginning (instrs_of c.block) ns2 × (is_ready (instrs_of c.block) ns2 n ≡ true)
    parts =
        let both = GoesOn-append (instrs_of c.block) [] ns2 (n ∷ []) (subst (IsBeginning (instrs_of c.block)) whole h.begins) in
        (both.0, both.1.0)

    -- the last number
    pub last-range : (1 ≤ n) × (n ≤ length d)
    last-range = ready-range ns2 n parts.1

    last-parts : (1 ≤ n) × (n ≤ length b.block) × (has n ns2 ≡ false)
    last-parts =
        let (low, high, new, met) = ready-parts (instrs_of c.block) ns2 n parts.1 in
        (low, omega (arith, high, ap (λ (p : Problem). length p.block) h.bounds), new)

    pub last-ranked : (1 ≤ n) × (n ≤ length b.block)
    last-ranked = (let (low, high, new) = last-parts in (low, high))

    -- with its rank they are those of what remains before it
    pub ranks-undo : (r : ℕ) (more : Set) → r ≡ rank b n → ((m : ℕ) → has m (numbers_in more) ≡ (eqb m r || has m (numbers_in left))) → AreRanksLeft b ns2 more
    ranks-undo r more here adds =
        let (low, high, new) = last-parts in
        ranks-same (longest_tail b) (length b.block) (λ m. eqb m n || not (has m c.numbers)) (λ m. not (has m ns2)) more
        (λ m from to. back m new)
        (ranks-with (longest_tail b) (length b.block) (λ m. not (has m c.numbers)) n left more low high h.ranks (λ m. adds m ∙ ap (λ k. eqb m k || has m (numbers_in left)) here))
      where
        back : (m : ℕ) → has n ns2 ≡ false → (eqb m n || not (has m c.numbers)) ≡ not (has m ns2)
        back m new =
            elim (cases_eq m n) [
              | inl same ↦ or_left (eqb m n) (not (has m c.numbers)) (eq-eqb m n same) ∙ sym (ap not (ap (λ k. has k ns2) same ∙ new))
              | inr other ↦ rw (ne_eqb m n other) (ap not (ap (has m) whole ∙ (has-push m n ns2 ∙ rw (ne_eqb m n other) refl)))
            ]

    -- the front goes back with the prefix
    pub front-back : (f2 : ReadyFront) → length ns2 < f.count → f2.count ≡ length ns2 → ((m : ℕ) → has m (numbers_in f2.placed) ≡ has m ns2) →
        ((block : List Instr) (prefix : List ℕ) → d ≡ all_needs block → IsBeginning block prefix → is_ready block prefix n ≡ true → numbers_in f.ready ≡ ready block (prefix ++ n ∷ []) → numbers_in f2.ready ≡ ready block prefix) →
        IsReadyFront (instrs_of c.block) ns2 f2
    front-back f2 far all placed closes =
        let block = instrs_of c.block in
        let count : length c.numbers ≡ length ns2 + 1 = omega (arith, ap (λ (xs : List ℕ). length xs) whole, length-append ns2 (n ∷ [])) in
        front-whole block ns2 f2 all placed
        (closes block ns2 h.needs parts.0 parts.1 (h.front.ready ∙ (ap (ready block) (take_all f.count c.numbers (omega (arith, far, count))) ∙ ap (ready block) whole)))

    -- or it is a front of what is left
    pub front-stays : f.count ≤ length ns2 → IsReadyFront (instrs_of c.block) ns2 f
    front-stays few = front-shorter (instrs_of c.block) ns2 (n ∷ []) f few (subst (λ xs. IsReadyFront (instrs_of c.block) xs f) whole h.front)

  -- what isn't complete is incomplete
  pub walked-either : (count all : ℕ) → count ≡ length ns → all ≡ length (instrs_of c.block) → (eqb count all ≡ true) ⊎ IsIncomplete w.problem.block w.numbers
  walked-either count all is whole =
      elim (cases_eq count all) [
        | inl e ↦ inl (eq-eqb count all e)
        | inr other ↦ inr (subst (λ (x : Walked). IsIncomplete x.problem.block x.numbers) seen (omega (arith, beginning-few (instrs_of c.block) c.numbers h.begins, is, whole, ap length h.numbers, other)))
      ]
