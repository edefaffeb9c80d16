-- Work, parcels and chains of what remains, by sets of its numbers.
use Rattle.std.proofs.Common.{ℕ, ◌+◌, ◌-◌, ◌≤◌, ◌<◌, ◌≡◌, ◌==◌, ◌&&◌, Bool, true, true≢false, not, leb, cond, List, [], ◌∷◌, length, get_or, refl, sym, subst, ap, arith, inl, inr, ◌∙◌, le-leb}
use Rattle.std.proofs.Common.{eqb-true, filter}
use Rattle.std.proofs.lemmas.Bool.{cases_Bool, and_parts, and_from, cond-true, cond-false, cond_both, eqb-false}
use Rattle.s66_isa.specs.{Kind, least, weigh, has, Among, Set, numbers_in}
use Rattle.s66_isa.specs.Table.{Reg}
use Rattle.s66_isa.proofs.Lists.{le-greatest, greatest-le, least-same}
use Rattle.s66_model.specs.{Problem, row_at, points_of, next, done_of, copies, remaining, sum_remaining, uses, work_of, rest_busy, over, load, parcels, longest_tail, tail_remaining, chain_by, spare}
use Rattle.s66_model.specs.{HasWords}
use Rattle.s66_model.proofs.FloorParts.{sum_remaining-weigh, words-remaining, parcels-static}
use Rattle.s66_model.proofs.PointTimes.{good-at}
use Rattle.s66_model.proofs.Remaining.{remaining-parts, remaining-among, among-remaining}
use Rattle.s66_time.specs.{IsGreatestWord}
use Rattle.s66_bound.specs.{rank, AreRanks}

among-left : (b : Problem) (prefix : List ℕ) (n : ℕ) → 1 ≤ n → n ≤ length b.block → not (has n prefix) ≡ true → Among n (remaining b.block prefix)
among-left b prefix n low high stays =
    among-remaining b.block prefix n
    (and_from (leb 1 n && leb n (length b.block)) (not (has n prefix)) (and_from (leb 1 n) (leb n (length b.block)) (le-leb 1 n low) (le-leb n (length b.block) high)) stays)

-- LOADS

-- the load by the work that remains and that is busy
pub load-is : (b : Problem) (prefix : List ℕ) (kind : Kind) (sum busy count slot : ℕ) → sum ≡ sum_remaining b.block prefix (λ n. work_of kind (row_at b n)) →
    busy ≡ weigh (rest_busy kind (next (points_of b prefix))) (points_of b prefix) → count ≡ copies b kind → slot ≡ next (points_of b prefix) → over (sum + busy) count + slot ≡ load b prefix kind
load-is b prefix kind sum busy count slot e1 e2 e3 e4 = rw (e1, e2, e3, e4) refl

-- PARCELS

abbrev pub is_long : Problem → ℕ → Bool
is_long b n = (row_at b n).parcels == 2

length-filter : (test : ℕ → Bool) (n : ℕ) (ns : List ℕ) → length (filter test (n ∷ ns)) ≡ cond (test n) 1 0 + length (filter test ns)
length-filter test n ns =
    cond_both (test n) (n ∷ filter test ns) (filter test ns) (λ ms. length ms ≡ cond (test n) 1 0 + length (filter test ns))
    (λ is. omega (arith, cond-true {A = ℕ} (test n) 1 0 is))
    (λ off. omega (arith, cond-false {A = ℕ} (test n) 1 0 off))

-- one for each number, and one more for each long one
parcels-sum : (b : Problem) (ns : List ℕ) → weigh (λ n. (row_at b n).parcels) ns ≡ length ns + length (filter (is_long b) ns)
parcels-sum b [] = refl
parcels-sum b (n ∷ ns) =
    let own : (row_at b n).parcels ≡ 1 + cond (is_long b n) 1 0 =
    elim (cases_Bool (is_long b n)) [
      | inl is ↦ omega (arith, eqb-true (row_at b n).parcels 2 is, cond-true {A = ℕ} (is_long b n) 1 0 is)
      | inr off ↦ grind (arith, eqb-false (row_at b n).parcels 2 off, cond-false {A = ℕ} (is_long b n) 1 0 off, (good-at b n).parcels.0, (good-at b n).parcels.1)
    ]
    in
    omega (arith, own, parcels-sum b ns, length-filter (is_long b) n ns)

pub parcels-are : (b : Problem) (prefix spares rest long : List ℕ) → rest ≡ remaining b.block prefix → long ≡ filter (is_long b) (remaining b.block prefix) → 0 < length rest → HasWords b (spare b) spares →
    next (points_of b prefix) + (length rest + length long) + least (λ n. get_or spares (n - 1) 0) rest ≡ parcels b prefix
parcels-are b prefix spares rest long is_rest is_long some known =
    omega (
      arith,
      parcels-static b prefix (subst (λ ns. 0 < length ns) is_rest some),
      sum_remaining-weigh b prefix (λ n. (row_at b n).parcels),
      parcels-sum b (remaining b.block prefix),
      ap length is_rest,
      ap length is_long,
      ap (least (λ n. get_or spares (n - 1) 0)) is_rest,
      least-same (λ n. get_or spares (n - 1) 0) (spare b) (remaining b.block prefix) (words-remaining b prefix (spare b) spares known),
    )

-- THE CHAINS FROM A REGISTER

abbrev pub is_user : Problem → Reg → ℕ → Bool
is_user b x n = uses (row_at b n) x

-- the chains from a register by the greatest longest tail of its users that remain
pub by-greatest : (b : Problem) (prefix : List ℕ) (x : Reg) (done tail : ℕ) → done ≡ done_of (points_of b prefix) x → IsGreatestWord (longest_tail b) (length b.block) (λ n. not (has n prefix) && is_user b x n) tail → done + tail ≡ chain_by b prefix x
by-greatest b prefix x done tail is greatest_one =
    let f : ℕ → ℕ = λ n. cond (is_user b x n) (done_of (points_of b prefix) x + longest_tail b n) 0 in
    let (n, low, high, passes, own) = greatest_one.met in
    let (stays, used) = and_parts (not (has n prefix)) (is_user b x n) passes in
    let reached : f n ≤ chain_by b prefix x = le-greatest f n (remaining b.block prefix) (among-left b prefix n low high stays) in
    let most : chain_by b prefix x ≤ done + tail =
    greatest-le f (done + tail) (remaining b.block prefix) (λ m among.
    let (from, to, new) = remaining-parts b.block prefix m (remaining-among b.block prefix m among) in
    cond_both (is_user b x m) (done_of (points_of b prefix) x + longest_tail b m) 0 (λ k. k ≤ done + tail)
    (λ user. omega (arith, is, greatest_one.most m from to (and_from (not (has m prefix)) (is_user b x m) (ap not new) user)))
    (λ other. omega arith))
    in
    omega (arith, reached, cond-true {A = ℕ} (is_user b x n) (done_of (points_of b prefix) x + longest_tail b n) 0 used, own, is, most)

-- if none of its users remains
pub by-none : (b : Problem) (prefix : List ℕ) (x : Reg) (set : Set) → AreRanks b (λ n. not (has n prefix) && is_user b x n) set → numbers_in set ≡ [] → chain_by b prefix x ≡ 0
by-none b prefix x set are none =
    let f : ℕ → ℕ = λ n. cond (is_user b x n) (done_of (points_of b prefix) x + longest_tail b n) 0 in
    let most : chain_by b prefix x ≤ 0 =
    greatest-le f 0 (remaining b.block prefix) (λ m among.
    let (from, to, new) = remaining-parts b.block prefix m (remaining-among b.block prefix m among) in
    cond_both (is_user b x m) (done_of (points_of b prefix) x + longest_tail b m) 0 (λ k. k ≤ 0)
    (λ user. absurd (true≢false (sym (and_from (not (has m prefix)) (is_user b x m) (ap not new) user) ∙ (sym (are.each m from to) ∙ ap (has (rank b m)) none))))
    (λ other. omega arith))
    in
    omega (arith, most)

-- THE GREATEST LONGEST TAIL

pub tail-greatest : (b : Problem) (prefix : List ℕ) (tail : ℕ) → IsGreatestWord (longest_tail b) (length b.block) (λ n. not (has n prefix)) tail → tail ≡ tail_remaining b prefix
tail-greatest b prefix tail greatest_one =
    let (n, low, high, stays, own) = greatest_one.met in
    let reached : longest_tail b n ≤ tail_remaining b prefix = le-greatest (longest_tail b) n (remaining b.block prefix) (among-left b prefix n low high stays) in
    let most : tail_remaining b prefix ≤ tail =
    greatest-le (longest_tail b) tail (remaining b.block prefix) (λ m among.
    let (from, to, new) = remaining-parts b.block prefix m (remaining-among b.block prefix m among) in
    greatest_one.most m from to (ap not new))
    in
    omega (arith, reached, own, most)

pub tail-none : (b : Problem) (prefix : List ℕ) (set : Set) → AreRanks b (λ n. not (has n prefix)) set → numbers_in set ≡ [] → 0 ≡ tail_remaining b prefix
tail-none b prefix set are none =
    let most : tail_remaining b prefix ≤ 0 =
    greatest-le (longest_tail b) 0 (remaining b.block prefix) (λ m among.
    let (from, to, new) = remaining-parts b.block prefix m (remaining-among b.block prefix m among) in
    absurd (true≢false (sym (ap not new) ∙ (sym (are.each m from to) ∙ ap (has (rank b m)) none))))
    in
    omega (arith, most)
