-- What a prefix keeps, at first, after a push and after a pop.
use Rattle.std.proofs.Common.{ℕ, ◌==◌, ◌||◌, ◌&&◌, not, eq-eqb, ne_eqb, ◌-◌, ◌≤◌, ◌<◌, ◌≡◌, true, false, List, [], ◌∷◌, ◌++◌, length, take, drop, get_or, map, reverse, refl, sym, subst, ap, arith}
use Rattle.std.proofs.Common.{inl, inr, ◌∙◌, length-append}
use Rattle.std.proofs.lemmas.Bool.{cases_eq, or_left}
use Rattle.std.proofs.lemmas.List.{length-reverse, get_or_default, reverse-append}
use Rattle.s66_isa.specs.{Instr, has, Profile, Row, row, BLOCK_LIMIT, numbers_in, Set}
use Rattle.s66_model.specs.{Problem, Point, row_at, point, point_of, points_of, points_after, IsBeginning, is_ready}
use Rattle.s66_model.proofs.LegalOrders.{ready-parts, has_push-same, has_push-other, GoesOn-append}
use Rattle.s66_model.proofs.PointTimes.{points_after-append, points_after-length}
use Rattle.s66_model.proofs.Remaining.{step-begins}
use Rattle.s66_checker.specs.{with_profile, AreNeeds, AreTimed, IsPrefix}
use Rattle.s66_checker.proofs.Reversed.{reverse-last}
use Rattle.s66_checker.proofs.ReadyByNeeds.{beginning-few}

pub prefix-timed : (block : List Instr) (profile : Profile) (rows : List Row) (all : List Set) (placed : Set) (ns : List ℕ) (xs : List Point) → IsPrefix block profile rows all placed ns xs → AreTimed xs
prefix-timed block profile rows all placed ns xs is =
    record { problem = record { block = block; profile = profile }; numbers = ns; few = omega (arith, beginning-few block ns is.begins, is.few); timed = is.timed }

-- as many points as numbers
prefix-length : (block : List Instr) (profile : Profile) (rows : List Row) (all : List Set) (placed : Set) (ns : List ℕ) (xs : List Point) → IsPrefix block profile rows all placed ns xs → length xs ≡ length ns
prefix-length block profile rows all placed ns xs is =
    omega (arith, length-reverse xs, ap length is.timed, points_after-length (record { block = block; profile = profile }) [] ns)

-- AT FIRST

pub prefix-start : (block instrs : List Instr) (profile : Profile) (rows : List Row) (all : List Set) (placed : Set) (ns : List ℕ) (xs : List Point) → 1 ≤ length block → length block ≤ BLOCK_LIMIT →
    instrs ≡ block → rows ≡ map (row profile) block → AreNeeds block all → ((m : ℕ) → has m (numbers_in placed) ≡ false) → ns ≡ [] → xs ≡ [] → IsPrefix instrs profile rows all placed ns xs
prefix-start block instrs profile rows all placed ns xs some few same known needed unmarked no_number no_point =
    subst (λ is. IsPrefix is profile rows all placed ns xs) (sym same)
    (record {
      some = some;
      few = few;
      begins = subst (IsBeginning block) (sym no_number) tt;
      known = known;
      needed = needed;
      marked = λ m low high. unmarked m ∙ sym (ap (has m) no_number);
      timed = rw (no_number, no_point) refl;
    })

-- THE NEXT POINT

-- only the row matters, and the profile
point-under : (block : List Instr) (profile : Profile) (s : List Point) (n : ℕ) (r : Row) → point (with_profile profile) s n r ≡ point (record { block = block; profile = profile }) s n r
unfolding point Rattle.s66_model.specs.Timing.start_of Rattle.s66_model.specs.Timing.issue_of
point-under block profile s n r = refl

pub point-next : (block : List Instr) (profile : Profile) (rows : List Row) (all : List Set) (placed : Set) (ns : List ℕ) (xs : List Point) (n : ℕ) (r : Row) (p : Point) → IsPrefix block profile rows all placed ns xs →
    r ≡ row_at (record { block = block; profile = profile }) n → p ≡ point (with_profile profile) (reverse xs) n r →
    p ≡ point_of (record { block = block; profile = profile }) (points_of (record { block = block; profile = profile }) ns) n
point-next block profile rows all placed ns xs n r p is e2 e3 =
    let b : Problem = record { block = block; profile = profile } in
    e3 ∙ point-under block profile (reverse xs) n r ∙ ap (λ s. point b s n r) is.timed ∙ ap (λ (j : Row). point b (points_of b ns) n j) e2

-- A PUSH

pub room-left : (block : List Instr) (profile : Profile) (rows : List Row) (all : List Set) (placed : Set) (ns : List ℕ) (xs : List Point) (n : ℕ) → IsPrefix block profile rows all placed ns xs → is_ready block ns n ≡ true →
    (length xs < BLOCK_LIMIT) × (length ns < BLOCK_LIMIT)
room-left block profile rows all placed ns xs n is ready =
    let more : length ns < BLOCK_LIMIT = omega (arith, beginning-few block (ns ++ n ∷ []) (step-begins block ns n is.begins ready), length-append ns (n ∷ []), is.few) in
    (omega (arith, more, prefix-length block profile rows all placed ns xs is), more)

marked-push : (placed more : Set) (ns : List ℕ) (n : ℕ) → ((m : ℕ) → 1 ≤ m → has m (numbers_in more) ≡ (m == n || has m (numbers_in placed))) → ((m : ℕ) → 1 ≤ m → m ≤ BLOCK_LIMIT → has m (numbers_in placed) ≡ has m ns) →
    (m : ℕ) → 1 ≤ m → m ≤ BLOCK_LIMIT → has m (numbers_in more) ≡ has m (ns ++ n ∷ [])
marked-push placed more ns n with marked m low high =
    elim (cases_eq m n) [
      | inl here ↦ with m low ∙ or_left (m == n) (has m (numbers_in placed)) (eq-eqb m n here) ∙ sym (ap (λ k. has k (ns ++ n ∷ [])) here ∙ has_push-same n ns)
      | inr apart ↦ with m low ∙ rw (ne_eqb m n apart) (marked m low high) ∙ sym (has_push-other m n ns apart)
    ]

pub prefix-push : (block : List Instr) (profile : Profile) (rows : List Row) (all : List Set) (placed : Set) (ns : List ℕ) (xs : List Point) (n : ℕ) (more : Set) (p : Point) (ms : List ℕ) (ys : List Point) →
    IsPrefix block profile rows all placed ns xs → ((m : ℕ) → 1 ≤ m → has m (numbers_in more) ≡ (m == n || has m (numbers_in placed))) → is_ready block ns n ≡ true → p ≡ point_of (record { block = block; profile = profile }) (points_of (record { block = block; profile = profile }) ns) n →
    ms ≡ ns ++ n ∷ [] → ys ≡ xs ++ p ∷ [] → IsPrefix block profile rows all more ms ys
prefix-push block profile rows all placed ns xs n more p ms ys is with ready made e4 e5 =
    let b : Problem = record { block = block; profile = profile } in
    record {
      some = is.some;
      few = is.few;
      begins = subst (IsBeginning block) (sym e4) (step-begins block ns n is.begins ready);
      known = is.known;
      needed = is.needed;
      marked = λ m first last. marked-push placed more ns n with is.marked m first last ∙ sym (ap (has m) e4);
      timed =
          ap reverse e5 ∙ reverse-append xs (p ∷ [])
          ∙ ap (λ q. q ∷ reverse xs) made
          ∙ ap (λ s. point_of b (points_of b ns) n ∷ s) is.timed
          ∙ sym (ap (points_of b) e4 ∙ points_after-append b [] ns (n ∷ []));
    }

-- A POP

-- the last number was ready after the others
pub last-ready : (block : List Instr) (ns ms : List ℕ) (n : ℕ) → IsBeginning block ns → ns ≡ ms ++ n ∷ [] → IsBeginning block ms × (is_ready block ms n ≡ true)
last-ready block ns ms n begins e =
    let both = GoesOn-append block [] ms (n ∷ []) (subst (IsBeginning block) e begins) in
    (both.0, both.1.0)

marked-pop : (placed less : Set) (ns : List ℕ) (n : ℕ) → has n ns ≡ false → ((m : ℕ) → 1 ≤ m → m ≤ BLOCK_LIMIT → has m (numbers_in less) ≡ (not (m == n) && has m (numbers_in placed))) → ((m : ℕ) → 1 ≤ m → m ≤ BLOCK_LIMIT → has m (numbers_in placed) ≡ has m (ns ++ n ∷ [])) →
    (m : ℕ) → 1 ≤ m → m ≤ BLOCK_LIMIT → has m (numbers_in less) ≡ has m ns
marked-pop placed less ns n new without marked m low high =
    elim (cases_eq m n) [
      | inl here ↦ without m low high ∙ rw (eq-eqb m n here) (sym (ap (λ k. has k ns) here ∙ new))
      | inr apart ↦ without m low high ∙ rw (ne_eqb m n apart) (marked m low high ∙ has_push-other m n ns apart)
    ]

pub prefix-pop : (block : List Instr) (profile : Profile) (rows : List Row) (all : List Set) (placed : Set) (ns : List ℕ) (xs : List Point) (n : ℕ) (less : Set) (ms : List ℕ) (ys : List Point) →
    IsPrefix block profile rows all placed ns xs → ((m : ℕ) → 1 ≤ m → m ≤ BLOCK_LIMIT → has m (numbers_in less) ≡ (not (m == n) && has m (numbers_in placed))) → ns ≡ ms ++ n ∷ [] → ys ≡ take (length xs - 1) xs → IsPrefix block profile rows all less ms ys
prefix-pop block profile rows all placed ns xs n less ms ys is without e1 e2 =
    let (begins, ready) = last-ready block ns ms n is.begins e1 in
    let (low, high, new, met) = ready-parts block ms n ready in
    let b : Problem = record { block = block; profile = profile } in
    let some : 0 < length xs = omega (arith, prefix-length block profile rows all placed ns xs is, ap length e1, length-append ms (n ∷ [])) in
    let last : Point = get_or xs (length xs - 1) (point_of b [] n) in
    let newest : reverse xs ≡ last ∷ reverse (take (length xs - 1) xs) = reverse-last xs last some (get_or_default xs (length xs - 1) (point_of b [] n) last (omega (arith, some))) in
    let pushed : reverse xs ≡ point_of b (points_of b ms) n ∷ points_of b ms = is.timed ∙ ap (points_of b) e1 ∙ points_after-append b [] ms (n ∷ []) in
    record {
      some = is.some;
      few = is.few;
      begins = begins;
      known = is.known;
      needed = is.needed;
      marked = marked-pop placed less ms n new without (λ m first last. is.marked m first last ∙ ap (has m) e1);
      timed = ap reverse e2 ∙ ap (drop 1) (sym newest ∙ pushed);
    }
