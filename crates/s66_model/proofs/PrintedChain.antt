-- The printed chain: from its front on it is the longest walk of each number, which is known before anything is placed.
use Rattle.std.proofs.Common.{ℕ, zero, suc, ◌+◌, ◌-◌, ◌≤◌, ◌≡◌, ◌≢◌, true, List, [], ◌∷◌, length, refl, sym, ap, arith, inl, inr, eqb, ◌∙◌, eq-eqb, ne_eqb, filter}
use Rattle.std.proofs.lemmas.Bool.{cases_eq, cond-false}
use Rattle.s66_isa.specs.{first_that, Among, numbers}
use Rattle.s66_isa.proofs.Lists.{first_that-same, filter-among}
use Rattle.s66_model.specs.{Problem, row_at, points_of, is_remaining, remaining, IsBeginning, tail, link, is_linked, links_from, longest, head, chain, longest_walk, longest_chain, longest_tail}
use Rattle.s66_model.specs.{walk_next, walk_after, chain_front}
use Rattle.s66_model.proofs.Remaining.{remaining-parts, remaining-among}
use Rattle.s66_model.proofs.LongestChain.{keeps, onward, onward-keeps, walk-ends, walk-goes, heads, front, front-heads}
use Rattle.s66_model.proofs.Longest.{longest-same, links_from-static, links_from-same}
use Rattle.s66_model.proofs.TailTable.{enough, links_from-parts}

-- LINKS ENOUGH

longest-more : (b : Problem) (more links n : ℕ) → length b.block ≤ n + links → longest b [] links n ≡ longest b [] (more + links) n
longest-more b zero links n few = (let e : links ≡ 0 + links = omega arith in ap (λ k. longest b [] k n) e)
longest-more b (suc more) links n few =
    let e : suc (more + links) ≡ suc more + links = omega arith in
    longest-more b more links n few ∙ (enough b (more + links) n (omega (arith, few)) ∙ ap (λ k. longest b [] k n) e)

-- if as many links may follow as numbers do, the walk is the longest
pub longest-enough : (b : Problem) (prefix : List ℕ) (links n : ℕ) → IsBeginning b.block prefix → is_remaining b.block prefix n ≡ true → length b.block ≤ n + links → longest b prefix links n ≡ longest_tail b n
longest-enough b prefix links n begins stays few =
    let e : length b.block + links ≡ links + length b.block = omega arith in
    longest-same b prefix begins links n stays
    ∙ (longest-more b (length b.block) links n few ∙ (ap (λ k. longest b [] k n) e ∙ sym (longest-more b links (length b.block) n (omega arith))))

-- THE WALK

walk_next-ends : (b : Problem) (n : ℕ) → tail (row_at b n) ≡ longest_tail b n → walk_next b n ≡ 0
walk_next-ends b n is = rw (eq-eqb (tail (row_at b n)) (longest_tail b n) is) refl

walk_after-ends : (b : Problem) (links n : ℕ) → walk_next b n ≡ 0 → walk_after b (suc links) n ≡ []
walk_after-ends b links n is = rw (walk_after, eq-eqb (walk_next b n) 0 is) refl

walk_after-goes : (b : Problem) (links n : ℕ) → walk_next b n ≢ 0 → walk_after b (suc links) n ≡ walk_next b n ∷ walk_after b links (walk_next b n)
walk_after-goes b links n past = rw (walk_after, ne_eqb (walk_next b n) 0 past) refl

module _ (b : Problem) (prefix : List ℕ) (begins : IsBeginning b.block prefix) where
  -- what n has a link to remains, and fewer numbers follow it
  linked-parts : (links n m : ℕ) → is_remaining b.block prefix n ≡ true → length b.block ≤ n + suc links → Among m (links_from b prefix n) → (is_remaining b.block prefix m ≡ true) × (length b.block ≤ m + links)
  linked-parts links n m stays few among =
      let both = filter-among (is_linked b n) m (remaining b.block prefix) among in
      let (lt, high) = links_from-parts b n m (rw (← links_from-same b prefix n begins stays) among) in
      (remaining-among b.block prefix m both.0, omega (arith, lt, few))

  onward-static : (links n : ℕ) → is_remaining b.block prefix n ≡ true → length b.block ≤ n + suc links → tail (row_at b n) ≢ longest_tail b n → onward b prefix links n (longest_tail b n) ≡ walk_next b n
  onward-static links n stays few past =
      let static : ℕ → ℕ = λ m. link (row_at b n) (row_at b m) + longest_tail b m in
      first_that-same (keeps b prefix links n (longest_tail b n)) (λ m. eqb (static m) (longest_tail b n)) (links_from b prefix n)
      (λ m among.
      let (remains, fewer) = linked-parts links n m stays few among in
      ap (λ k. eqb (link (row_at b n) (row_at b m) + k) (longest_tail b n)) (longest-enough b prefix links m begins remains fewer))
      ∙ ap (first_that (λ m. eqb (static m) (longest_tail b n))) (links_from-static b prefix n begins stays)
      ∙ sym (cond-false {A = ℕ} (eqb (tail (row_at b n)) (longest_tail b n)) 0 (first_that (λ m. eqb (static m) (longest_tail b n)) (filter (is_linked b n) (numbers b.block))) (ne_eqb (tail (row_at b n)) (longest_tail b n) past))

  pub walk-static : (links n : ℕ) → is_remaining b.block prefix n ≡ true → length b.block ≤ n + links → longest_walk b prefix links n (longest_tail b n) ≡ walk_after b links n
  walk-static zero n stays few = refl
  walk-static (suc links) n stays few =
      let time : ℕ = longest_tail b n in
      elim (cases_eq (tail (row_at b n)) time) [
        | inl here ↦ walk-ends b prefix links n time here ∙ sym (walk_after-ends b links n (walk_next-ends b n here))
        | inr past ↦
            let m : ℕ = onward b prefix links n time in
            let (among, takes) = onward-keeps b prefix links n time (sym (longest-enough b prefix (suc links) n begins stays few)) past in
            let (remains, fewer) = linked-parts links n m stays few among in
            let (low, high, new) = remaining-parts b.block prefix m remains in
            let same : m ≡ walk_next b n = onward-static links n stays few past in
            let left : time - link (row_at b n) (row_at b m) ≡ longest_tail b m = omega (arith, takes, longest-enough b prefix links m begins remains fewer) in
            walk-goes b prefix links n time past
            ∙ (ap (λ t. m ∷ longest_walk b prefix links m t) left
            ∙ (ap (λ ms. m ∷ ms) (walk-static links m remains fewer)
            ∙ (ap (λ k. k ∷ walk_after b links k) same
            ∙ sym (walk_after-goes b links n (λ none. omega (arith, none, same, low))))))
      ]

  -- THE CHAIN

  pub front-static : front b prefix ≡ chain_front b prefix
  front-static =
      first_that-same (heads b prefix) (λ n. eqb (head (points_of b prefix) (row_at b n) + longest_tail b n) (chain b prefix)) (remaining b.block prefix)
      (λ n among. ap (λ k. eqb (head (points_of b prefix) (row_at b n) + k) (chain b prefix)) (longest-same b prefix begins (length b.block) n (remaining-among b.block prefix n among)))

  pub longest_chain-static : (n : ℕ) → is_remaining b.block prefix n ≡ true → longest_chain b prefix ≡ chain_front b prefix ∷ walk_after b (length b.block) (chain_front b prefix)
  longest_chain-static n stays =
      let m : ℕ = front b prefix in
      let (remains, is) = front-heads b prefix n stays in
      let time : chain b prefix - head (points_of b prefix) (row_at b m) ≡ longest_tail b m = omega (arith, is, longest-same b prefix begins (length b.block) m remains) in
      ap (λ t. m ∷ longest_walk b prefix (length b.block) m t) time
      ∙ (ap (λ ms. m ∷ ms) (walk-static (length b.block) m remains (omega arith))
      ∙ ap (λ k. k ∷ walk_after b (length b.block) k) front-static)
