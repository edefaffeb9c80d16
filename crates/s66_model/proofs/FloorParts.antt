-- A floor by its parts, each by words that are known before anything is placed, and how great they are at most.
use Rattle.std.proofs.Common.{ℕ, ◌+◌, ◌-◌, ◌*◌, ◌≤◌, ◌<◌, ◌≡◌, ◌≢◌, Bool, true, false, not, cond, max, List, [], ◌∷◌, ◌++◌, length, get_or, refl, sym, ap, arith, inl, inr, ltb, ◌∙◌, le-leb, ltb-true}
use Rattle.std.proofs.Common.{ltb-false}
use Rattle.std.proofs.lemmas.Bool.{cond-true, cond-false, cases_Bool}
use Rattle.s66_isa.specs.{BLOCK_LIMIT, Reg, greatest, least, weigh, has, Among, numbers}
use Rattle.s66_isa.proofs.Lists.{le-greatest, greatest-le, le-weigh, weigh-same, weigh-filter, least-plus, among-some, among-rising}
use Rattle.s66_model.specs.{Problem, row_at, points_of, next, done_of, is_remaining, remaining, sum_remaining, IsBeginning, IsIncomplete, Leaf, Chain, uses, head, chain, longest_chain, if_last}
use Rattle.s66_model.specs.{parcels, value, MayStand, first_greatest, after_chain, floor_value, longest_tail, chain_by, spare, HasWords}
use Rattle.s66_model.proofs.Growth.{total-le}
use Rattle.s66_model.proofs.PointTimes.{good-at}
use Rattle.s66_model.proofs.Remaining.{among-remaining, remaining-among, remaining-parts, legal-parts}
use Rattle.s66_model.proofs.Beginnings.{beginning-front}
use Rattle.s66_model.proofs.LongestChain.{longest-is_chain}
use Rattle.s66_model.proofs.Floors.{some-remains, floor-part}
use Rattle.s66_model.proofs.Trees.{leaf-sound}
use Rattle.s66_model.proofs.Longest.{chain-static}
use Rattle.s66_model.proofs.ChainParts.{by-le}

-- THE GREATEST PART

pub value-first : (f : Leaf → ℕ) (leaf : Leaf) (others : List Leaf) → f (first_greatest f leaf others) ≡ max (f leaf) (greatest f others)
value-first f leaf [] = omega arith
value-first f leaf (other ∷ others) =
    elim (cases_Bool (ltb (f leaf) (f other))) [
      | inl is ↦ (let e : cond (ltb (f leaf) (f other)) other leaf ≡ other = cond-true {A = Leaf} (ltb (f leaf) (f other)) other leaf is in
          ap (λ x. f (first_greatest f x others)) e ∙ (value-first f other others ∙ omega (arith, ltb-true (f leaf) (f other) is)))
      | inr off ↦ (let e : cond (ltb (f leaf) (f other)) other leaf ≡ leaf = cond-false {A = Leaf} (ltb (f leaf) (f other)) other leaf off in
          ap (λ x. f (first_greatest f x others)) e ∙ (value-first f leaf others ∙ omega (arith, ltb-false (f leaf) (f other) off)))
    ]

pub floor-parts : (b : Problem) (prefix : List ℕ) → IsBeginning b.block prefix → IsIncomplete b.block prefix → floor_value b prefix ≡ max (chain b prefix) (greatest (value b prefix) after_chain)
floor-parts b prefix begins short =
    let past : length prefix ≢ length b.block = (λ e. omega (arith, e, short)) in
    let (n, stays) = some-remains b.block prefix begins short in
    let is = longest-is_chain b prefix n stays in
    ap (value b prefix) (floor-part b prefix past)
    ∙ (value-first (value b prefix) (Chain (longest_chain b prefix)) after_chain ∙ ap (λ k. max k (greatest (value b prefix) after_chain)) is.1)

-- HOW GREAT THEY ARE: some order completes a beginning, and each leaf is a lower bound of it

pub leaf-small : (b : Problem) (prefix : List ℕ) (leaf : Leaf) → IsBeginning b.block prefix → MayStand b prefix leaf → value b prefix leaf ≤ 104 * length b.block
leaf-small b prefix leaf begins may =
    let (rest, legal) = beginning-front b.block prefix begins in
    let (begins2, completes) = legal-parts b.block prefix rest legal in
    omega (arith, leaf-sound b prefix rest leaf begins2 completes may, total-le b (prefix ++ rest), completes.1)

pub leaf-fits : (b : Problem) (prefix : List ℕ) (leaf : Leaf) → IsBeginning b.block prefix → length b.block ≤ BLOCK_LIMIT → MayStand b prefix leaf → value b prefix leaf ≤ 104 * BLOCK_LIMIT
leaf-fits b prefix leaf begins few may = omega (arith, leaf-small b prefix leaf begins may, few)

pub chain-fits : (b : Problem) (prefix : List ℕ) → IsBeginning b.block prefix → length b.block ≤ BLOCK_LIMIT → IsIncomplete b.block prefix → chain b prefix ≤ 104 * BLOCK_LIMIT
chain-fits b prefix begins few short =
    let (n, stays) = some-remains b.block prefix begins short in
    let is = longest-is_chain b prefix n stays in
    omega (arith, leaf-fits b prefix (Chain (longest_chain b prefix)) begins few (short, is.0), is.1)

pub head-fits : (b : Problem) (prefix : List ℕ) (n : ℕ) → IsBeginning b.block prefix → length b.block ≤ BLOCK_LIMIT → IsIncomplete b.block prefix → is_remaining b.block prefix n ≡ true → head (points_of b prefix) (row_at b n) + longest_tail b n ≤ 104 * BLOCK_LIMIT
head-fits b prefix n begins few short stays =
    omega (arith, chain-fits b prefix begins few short, chain-static b prefix begins, le-greatest (λ m. head (points_of b prefix) (row_at b m) + longest_tail b m) n (remaining b.block prefix) (among-remaining b.block prefix n stays))

pub by-fits : (b : Problem) (prefix : List ℕ) (x : Reg) → IsBeginning b.block prefix → length b.block ≤ BLOCK_LIMIT → IsIncomplete b.block prefix → chain_by b prefix x ≤ 104 * BLOCK_LIMIT
by-fits b prefix x begins few short =
    greatest-le (λ n. cond (uses (row_at b n) x) (done_of (points_of b prefix) x + longest_tail b n) 0) (104 * BLOCK_LIMIT) (remaining b.block prefix)
    (λ n among. omega (arith, by-le b prefix x n among, chain-static b prefix begins, chain-fits b prefix begins few short))

-- SUMS OVER WHAT REMAINS

pub sum_remaining-weigh : (b : Problem) (prefix : List ℕ) (f : ℕ → ℕ) → sum_remaining b.block prefix f ≡ weigh f (remaining b.block prefix)
sum_remaining-weigh b prefix f =
    weigh-same (λ n. cond (has n prefix) 0 (f n)) (λ n. cond (is_remaining b.block prefix n) (f n) 0) (numbers b.block)
    (λ n among.
    let (low, high) = among-rising (length b.block) 1 n among in
    rw (le-leb 1 n low, le-leb n (length b.block) (omega (arith, high))) (turned (has n prefix) (f n)))
    ∙ sym (weigh-filter (is_remaining b.block prefix) f (numbers b.block))
  where
    turned : (x : Bool) (k : ℕ) → cond x 0 k ≡ cond (not x) k 0
    turned true k = refl
    turned false k = refl

-- a word for each number that remains
pub words-remaining : (b : Problem) (prefix : List ℕ) (f : ℕ → ℕ) (words : List ℕ) → HasWords b f words → (n : ℕ) → Among n (remaining b.block prefix) → get_or words (n - 1) 0 ≡ f n
words-remaining b prefix f words known n among =
    let (low, high, new) = remaining-parts b.block prefix n (remaining-among b.block prefix n among) in
    known n low high

pub left-sum : (b : Problem) (prefix : List ℕ) (f : ℕ → ℕ) (words : List ℕ) → HasWords b f words → weigh (λ n. get_or words (n - 1) 0) (remaining b.block prefix) ≡ sum_remaining b.block prefix f
left-sum b prefix f words known =
    weigh-same (λ n. get_or words (n - 1) 0) f (remaining b.block prefix) (words-remaining b prefix f words known) ∙ sym (sum_remaining-weigh b prefix f)

-- THE TAILS THAT REMAIN

-- THE PARCELS

pub rest-some : (b : Problem) (prefix : List ℕ) → IsBeginning b.block prefix → IsIncomplete b.block prefix → 0 < length (remaining b.block prefix)
rest-some b prefix begins short =
    let (n, stays) = some-remains b.block prefix begins short in
    among-some n (remaining b.block prefix) (among-remaining b.block prefix n stays)

-- the parcels of all that remains, and the least that a tail is longer than its own
pub parcels-static : (b : Problem) (prefix : List ℕ) → 0 < length (remaining b.block prefix) →
    parcels b prefix ≡ (next (points_of b prefix) + sum_remaining b.block prefix (λ n. (row_at b n).parcels)) + least (spare b) (remaining b.block prefix)
parcels-static b prefix some =
    let sum = sum_remaining b.block prefix (λ n. (row_at b n).parcels) in
    least-plus (next (points_of b prefix) + sum) (if_last b prefix) (spare b) (remaining b.block prefix) some
    (λ n among. omega (arith, sum_remaining-weigh b prefix (λ m. (row_at b m).parcels), le-weigh (λ m. (row_at b m).parcels) n (remaining b.block prefix) among, (good-at b n).parcels.1, (good-at b n).hold.0))
