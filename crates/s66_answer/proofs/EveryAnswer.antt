-- What is true of every answer, by a search or by facts.
use Rattle.std.proofs.Common.{◌≡◌, ◌*◌, ◌≤◌, ◌<◌, ◌∙◌, ap, arith, false, inl, inr, sym, subst, true≢false}
use Rattle.s66_isa.specs.{BLOCK_LIMIT, Profile}
use Rattle.s66_model.specs.{Problem, total_of, IsBound, IsLegal}
use Rattle.s66_command.specs.{Strategy}
use Rattle.s66_line.specs.{instrs_of, Block}
use Rattle.s66_cert.specs.{IsDocument}
use Rattle.s66_checker.specs.Verdict as checker
use Rattle.s66_checker.specs.{Yes}
use Rattle.s66_checker.proofs.GrantedClaims.{claim-bound, verdict-claims}
use Rattle.s66_answer.specs.{Answer, IsAnswer, IsEnough, document_under, problem_of, IsSpelledBlock}
use Rattle.s66_answer.proofs.AnswerDocuments.{search-document}
use Rattle.s66_answer.proofs.AnswerVerdicts.{same-problem, verdict-of_search}

-- ITS ORDER

pub answer-legal : (strategy : Strategy) (p : Profile) (block : Block) (a : Answer) → IsAnswer strategy p block a → IsLegal (instrs_of block) a.order
answer-legal strategy p block a (inl (found, is, same, all)) = subst (λ (x : Answer). IsLegal (instrs_of block) x.order) (sym same) is.legal
answer-legal strategy p block a (inr (deep, shown)) = shown.legal

pub answer-time : (strategy : Strategy) (p : Profile) (block : Block) (a : Answer) → IsAnswer strategy p block a → a.time ≡ total_of (problem_of p block) a.order
answer-time strategy p block a (inl (found, is, same, all)) = subst (λ (x : Answer). x.time ≡ total_of (problem_of p block) x.order) (sym same) is.time
answer-time strategy p block a (inr (deep, shown)) = shown.time

-- ITS DOCUMENT

module _ (strategy : Strategy) (p : Profile) (block : Block) (a : Answer) (spelled : IsSpelledBlock block) where
  pub answer-document : IsAnswer strategy p block a → IsDocument BLOCK_LIMIT (document_under strategy.search.rule p block a)
  answer-document (inl (found, is, same, all)) =
      subst (λ (x : Answer). IsDocument BLOCK_LIMIT (document_under strategy.search.rule p block x)) (sym same)
      (search-document strategy.search.rule p block strategy.search.nodes found is (omega (arith, is.within, strategy.search.few)) spelled.0 spelled.1 spelled.2)
  answer-document (inr (deep, shown)) = shown.document

  pub answer-verdict : IsAnswer strategy p block a → checker.verdict (document_under strategy.search.rule p block a) ≡ Yes a.time a.bound
  answer-verdict (inl (found, is, same, all)) =
      subst (λ (x : Answer). checker.verdict (document_under strategy.search.rule p block x) ≡ Yes x.time x.bound) (sym same)
      (verdict-of_search strategy.search.rule p block strategy.search.nodes found spelled (omega (arith, is.within, strategy.search.few)) is)
  answer-verdict (inr (deep, shown)) = shown.yes

  pub answer-bound : IsAnswer strategy p block a → IsBound (problem_of p block) a.bound
  answer-bound is =
      let d = document_under strategy.search.rule p block a in
      let claim = (verdict-claims BLOCK_LIMIT d a.time a.bound (answer-document is) (answer-verdict is)).2 in
      subst (λ (b : Problem). IsBound b a.bound) (same-problem strategy.search.rule p block a spelled.2) (claim-bound d claim)

-- HOW MANY SPLITS ITS SEARCHES MADE

enough-spent : (strategy : Strategy) (p : Profile) (block : Block) (a : Answer) → IsEnough strategy.search (problem_of p block) a → a.bound < a.time → strategy.search.nodes ≤ a.splits
enough-spent strategy p block a (inl (best, few)) below = absurd (omega (arith, best, below))
enough-spent strategy p block a (inr (found, is, time, bound, splits)) below = omega (arith, splits, is.spent (omega (arith, time, bound, below)))

pub answer-spent : (strategy : Strategy) (p : Profile) (block : Block) (a : Answer) → IsAnswer strategy p block a → a.bound < a.time → strategy.search.nodes ≤ a.splits
answer-spent strategy p block a (inl (found, is, same, all)) below =
    let spent : found.splits ≡ strategy.search.nodes = is.spent (omega (arith, ap (λ (x : Answer). x.bound) same, ap (λ (x : Answer). x.time) same, below)) in
    omega (arith, spent, all.0)
answer-spent strategy p block a (inr (deep, shown)) below = enough-spent strategy p block a shown.enough below

pub answer-few : (strategy : Strategy) (p : Profile) (block : Block) (a : Answer) → IsAnswer strategy p block a → 2 * a.splits ≤ 7 * strategy.search.nodes
answer-few strategy p block a (inl (found, is, same, all)) = omega (arith, is.within, all.1)
answer-few strategy p block a (inr (deep, shown)) = shown.few

-- without facts they are those of one search
pub answer-alone : (strategy : Strategy) (p : Profile) (block : Block) (a : Answer) → strategy.deep ≡ false → IsAnswer strategy p block a → a.splits ≤ strategy.search.nodes
answer-alone strategy p block a plain (inl (found, is, same, all)) = omega (arith, is.within, all.2 plain)
answer-alone strategy p block a plain (inr (deep, shown)) = absurd (true≢false (sym deep ∙ plain))
