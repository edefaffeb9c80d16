-- The longest tails, each by those of later numbers, and how great they are at most.
use Rattle.std.proofs.Common.{ℕ, zero, suc, ◌+◌, ◌*◌, ◌≤◌, ◌<◌, ◌≡◌, cond, max, List, [], length, ap, arith, ltb, ◌∙◌, ltb-true, lt-ltb, le-ltb, filter}
use Rattle.std.proofs.lemmas.Bool.{and_parts, and_from, and_right, cond-true, cond-false, cond_both}
use Rattle.s66_isa.specs.{BLOCK_LIMIT, greatest, Among, Row, Write, numbers, memory_pair}
use Rattle.s66_isa.proofs.Lists.{greatest-le, greatest-same, greatest-filter, filter-among}
use Rattle.s66_model.specs.{Problem, row_at, remaining, tail, uses, link, is_linked, links_from, longest, longest_tail, walk_to}
use Rattle.s66_model.proofs.PointTimes.{good-at}
use Rattle.s66_model.proofs.Remaining.{remaining-parts, remaining-among, all-remain}

-- A TAIL BY LATER ONES

pub links_from-parts : (b : Problem) (n m : ℕ) → Among m (links_from b [] n) → (n < m) × (m ≤ length b.block)
links_from-parts b n m among =
    let both = filter-among (is_linked b n) m (remaining b.block []) among in
    let (low, high, new) = remaining-parts b.block [] m (remaining-among b.block [] m both.0) in
    let lt : n < m = ltb-true n m (and_parts (ltb n m) (ltb 0 (link (row_at b n) (row_at b m))) both.1).0 in
    (lt, high)

-- no walk has more links than numbers follow
pub enough : (b : Problem) (links n : ℕ) → length b.block ≤ n + links → longest b [] links n ≡ longest b [] (suc links) n
enough b zero n few =
    let f : ℕ → ℕ = λ m. link (row_at b n) (row_at b m) + longest b [] 0 m in
    omega (arith, greatest-le f 0 (links_from b [] n) (λ m among. let (lt, high) = links_from-parts b n m among in absurd (omega (arith, lt, high, few))))
enough b (suc links) n few =
    let f : ℕ → ℕ = λ m. link (row_at b n) (row_at b m) + longest b [] links m in
    let g : ℕ → ℕ = λ m. link (row_at b n) (row_at b m) + longest b [] (suc links) m in
    ap (max (tail (row_at b n))) (greatest-same f g (links_from b [] n) (λ m among.
    let (lt, high) = links_from-parts b n m among in
    ap (λ k. link (row_at b n) (row_at b m) + k) (enough b links m (omega (arith, lt, few)))))

pub table-step : (b : Problem) (n : ℕ) → 1 ≤ n → n ≤ length b.block → longest_tail b n ≡ max (tail (row_at b n)) (greatest (walk_to b n) (numbers b.block))
table-step b n low high =
    let g : ℕ → ℕ = λ m. link (row_at b n) (row_at b m) + longest_tail b m in
    enough b (length b.block) n (omega arith)
    ∙ ap (max (tail (row_at b n))) (ap (λ ns. greatest g (filter (is_linked b n) ns)) (all-remain b.block) ∙ greatest-filter (is_linked b n) g (numbers b.block))

pub walk-none : (b : Problem) (n m : ℕ) → link (row_at b n) (row_at b m) ≡ 0 → walk_to b n m ≡ 0
walk-none b n m none =
    cond-false {A = ℕ} (is_linked b n m) (link (row_at b n) (row_at b m) + longest_tail b m) 0 (and_right (ltb n m) (ltb 0 (link (row_at b n) (row_at b m))) (le-ltb 0 (link (row_at b n) (row_at b m)) (omega (arith, none))))

pub walk-some : (b : Problem) (n m : ℕ) → n < m → 0 < link (row_at b n) (row_at b m) → walk_to b n m ≡ link (row_at b n) (row_at b m) + longest_tail b m
walk-some b n m lt some =
    cond-true {A = ℕ} (is_linked b n m) (link (row_at b n) (row_at b m) + longest_tail b m) 0 (and_from (ltb n m) (ltb 0 (link (row_at b n) (row_at b m))) (lt-ltb n m lt) (lt-ltb 0 (link (row_at b n) (row_at b m)) some))

-- HOW GREAT THEY ARE

latency-small : (b : Problem) (n : ℕ) → greatest (λ (w : Write). w.latency) (row_at b n).writes ≤ 100
latency-small b n = greatest-le (λ (w : Write). w.latency) 100 (row_at b n).writes (λ w among. ((good-at b n).latencies w among).1)

pub tail-small : (b : Problem) (n : ℕ) → tail (row_at b n) ≤ 101
tail-small b n = omega (arith, latency-small b n, (good-at b n).hold.1)

shared-small : (r : Row) (ws : List Write) → ((w : Write) → Among w ws → w.latency ≤ 100) → greatest (λ (w : Write). cond (uses r w.reg) w.latency 0) ws ≤ 100
shared-small r ws h =
    greatest-le (λ (w : Write). cond (uses r w.reg) w.latency 0) 100 ws (λ w among. cond_both (uses r w.reg) w.latency 0 (λ t. t ≤ 100) (λ is. h w among) (λ is. omega arith))

pub link-small : (b : Problem) (n m : ℕ) → link (row_at b n) (row_at b m) ≤ 100
link-small b n m =
    omega (arith, shared-small (row_at b m) (row_at b n).writes (λ w among. ((good-at b n).latencies w among).1), cond_both (memory_pair (row_at b n).memory (row_at b m).memory) 1 0 (λ t. t ≤ 1) (λ is. omega arith) (λ is. omega arith))

longest-small : (b : Problem) (links n : ℕ) → longest b [] links n ≤ 101 * (links + 1)
longest-small b zero n = omega (arith, tail-small b n)
longest-small b (suc links) n =
    let f : ℕ → ℕ = λ m. link (row_at b n) (row_at b m) + longest b [] links m in
    omega (arith, tail-small b n, greatest-le f (101 * (links + 2)) (links_from b [] n) (λ m among. omega (arith, link-small b n m, longest-small b links m)))

pub tail-fits : (b : Problem) (n : ℕ) → length b.block ≤ BLOCK_LIMIT → longest_tail b n ≤ 101 * (BLOCK_LIMIT + 1)
tail-fits b n few = omega (arith, longest-small b (length b.block) n)
