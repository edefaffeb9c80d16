-- What facts show is an answer to the block.
use Rattle.std.proofs.Common.{◌*◌, ◌≡◌, ◌≤◌, ◌∙◌, List, true, ap, arith, inr, refl, subst, sym, is_some}
use Rattle.s66_isa.specs.{BLOCK_LIMIT, Instr, Profile, numbers}
use Rattle.s66_model.specs.{source_time, IsLegal, Problem, total_of, splits}
use Rattle.s66_command.specs.{Strategy}
use Rattle.s66_line.specs.{instrs_of, Block}
use Rattle.s66_time.specs.TimedOrder.{TimedOrder}
use Rattle.s66_cert.specs.{Document, IsDocument, Parts, document_of, EvidenceOf}
use Rattle.s66_checker.specs.{verdict, Yes}
use Rattle.s66_deep.specs.{IsGood}
use Rattle.s66_answer.specs.{ByFacts, Candidate, IsEnough, document_under, problem_of, IsStoredClaim, IsShownBy, claimed, claimed_by, parts_by, tree_splits}

-- a candidate is a legal order with its total, no slower than the source order, which it is if it is as slow
pub record IsCandidate (p : Profile) (block : Block) (c : Candidate) : Type 0 where
  pub of_block : c.order.block ≡ instrs_of block
  pub legal : IsLegal (instrs_of block) c.order.numbers
  pub time : c.time ≡ total_of (problem_of p block) c.order.numbers
  pub within : c.time ≤ source_time (problem_of p block)
  pub first : source_time (problem_of p block) ≡ c.time → c.order.numbers ≡ numbers (instrs_of block)
  pub source : c.source ≡ source_time (problem_of p block)

module _ (strategy : Strategy) (p : Profile) (block : Block) (c : Candidate) (e : EvidenceOf) (s : ByFacts) (shown : IsShownBy p block c e s) where
  same-document : document_of s.document ≡ document_under strategy.search.rule p block (claimed s)
  same-document =
      subst (λ (d : Parts). document_of d ≡ document_under strategy.search.rule p block (claimed_by d s.splits)) (sym shown.document) refl

  pub shown-claimed : strategy.deep ≡ true → IsCandidate p block c → IsEnough strategy.search (problem_of p block) (claimed s) → tree_splits e ≤ s.splits → 2 * s.splits ≤ 7 * strategy.search.nodes → IsStoredClaim strategy p block s
  shown-claimed deep is enough made few =
      let back : parts_by p block c.order.numbers c.time e ≡ s.document = sym shown.document in
      let whole : c.order ≡ record { block = instrs_of block; numbers = c.order.numbers } = ap (λ (instrs : List Instr). record { block = instrs; numbers = c.order.numbers }) is.of_block in
      record {
        answer = inr (
          deep,
          record {
            legal = subst (λ (d : Parts). IsLegal (instrs_of block) d.numbers) back is.legal;
            time = subst (λ (d : Parts). d.time ≡ total_of (problem_of p block) d.numbers) back is.time;
            facts = subst (λ (d : Parts). is_some d.facts ≡ true) back refl;
            document = subst (λ (d : Document). IsDocument BLOCK_LIMIT d) same-document shown.accepted.document;
            yes = subst (λ (d : Document). verdict d ≡ Yes s.document.time s.document.bound) same-document shown.accepted.yes;
            source = subst (λ (d : Parts). d.time ≤ source_time (problem_of p block)) back is.within;
            first = subst (λ (d : Parts). source_time (problem_of p block) ≡ d.time → d.numbers ≡ numbers (instrs_of block)) back is.first;
            enough = enough;
            splits = subst (λ (d : Parts). splits (document_of d).tree ≤ s.splits) back made;
            few = few;
          },
        );
        document = same-document;
        accepted = shown.accepted;
        order = shown.order ∙ whole ∙ ap (λ (d : Parts). record { block = instrs_of block; numbers = d.numbers }) back;
        source = shown.source ∙ is.source;
      }

-- AN ORDER THAT TAKES AS LONG as a good one, and is that one if it takes as long as the source order

module _ (b : Problem) (t u : TimedOrder) (problem : u.problem ≡ t.problem) (time : total_of u.problem u.numbers ≡ total_of t.problem t.numbers) where
  pub as-long : t.problem ≡ b → total_of b u.numbers ≡ total_of b t.numbers
  as-long own =
      subst (λ (q : Problem). total_of b u.numbers ≡ total_of q t.numbers) own
      (subst (λ (q : Problem). total_of q u.numbers ≡ total_of t.problem t.numbers) (problem ∙ own) time)

  pub as-good : IsGood b t → (source_time t.problem ≡ total_of t.problem t.numbers → u.numbers ≡ t.numbers) → IsGood b u
  as-good good first =
      let same = as-long good.problem in
      record {
        problem = problem ∙ good.problem;
        source = omega (arith, same, good.source);
        first = λ e. first (subst (λ (q : Problem). source_time q ≡ total_of q t.numbers) (sym good.problem) (e ∙ same)) ∙ good.first (e ∙ same);
      }
