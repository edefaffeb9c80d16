-- A checker finds no fault in the document of what a search answers.
use Rattle.std.proofs.Common.{ℕ, zero, suc, ◌+◌, ◌≡◌, ◌≤◌, ◌∙◌, List, [], ◌∷◌, None, Ok, length, map, refl, sym, ap₂, subst, arith}
use Rattle.s66_isa.specs.{Instr, Among, rising, Profile, instr_at, BLOCK_LIMIT}
use Rattle.s66_isa.proofs.Profiles.{profile_of-entries}
use Rattle.s66_model.specs.Answer.{Answer}
use Rattle.s66_model.specs.{IsAnswer, IsLegal, Problem, total_of, Rule, ShowsBy}
use Rattle.s66_model.proofs.WrittenOrders.{block-by_numbers}
use Rattle.s66_line.specs.{instrs_of, text_of, Block, Spells, instr_in_text}
use Rattle.s66_source.specs.{Reading, source_of}
use Rattle.s66_source.proofs.SpelledLaw.{some, few, spelled}
use Rattle.s66_cert.specs.{SPLIT_LIMIT, Document, IsDocument}
use Rattle.s66_checker.specs.{IsTrueClaim, Yes}
use Rattle.s66_checker.specs.Verdict as checker
use Rattle.s66_checker.proofs.GrantedClaims.{verdict-yes}
use Rattle.s66_answer.specs.{IsSpelled, IsSpelledBlock, Answer as Answered, document_under, problem_of, rule_of, searched}
use Rattle.s66_answer.proofs.AnswerDocuments.{search-document, answer-shows, bound-within}

instr-in : (text : List ℕ) (n : Instr) → Spells text n → instr_in_text text ≡ n
instr-in text n spells = rw spells refl

-- each block of an accepted source is spelled
pub spelled-block : (source : Reading) (blocks : List Block) → source_of source ≡ Ok blocks → (block : Block) → Among block blocks → IsSpelledBlock block
spelled-block text blocks accepted block among =
    (some text blocks block accepted among, few text blocks block accepted among, spelled text blocks block accepted among)

-- the instructions that the texts spell are the block's
spelled-instrs : (block : Block) (count low : ℕ) → 1 ≤ low → low + count ≤ length (instrs_of block) + 1 → IsSpelled block →
    map instr_in_text (map (text_of block) (rising count low)) ≡ map (instr_at (instrs_of block)) (rising count low)
spelled-instrs block zero low least most spelled = refl
spelled-instrs block (suc count) low least most spelled =
    let is = spelled low least (omega (arith, most)) in
    ap₂ (λ x xs. x ∷ xs) (instr-in (text_of block low) (instr_at (instrs_of block) low) is.spells) (spelled-instrs block count (suc low) (omega (arith, least)) (omega (arith, most)) spelled)

pub same-problem : (rule : Rule) (p : Profile) (block : Block) (a : Answered) → IsSpelled block → checker.problem_of (document_under rule p block a) ≡ problem_of p block
same-problem rule p block a spelled =
    ap₂ (λ (instrs : List Instr) (q : Profile). record { block = instrs; profile = q })
    (spelled-instrs block (length (instrs_of block)) 1 (omega arith) (omega arith) spelled ∙ block-by_numbers (instrs_of block)) (profile_of-entries p)

true-claim : (rule : Rule) (p : Profile) (block : Block) (budget : ℕ) (a : Answer) → IsSpelled block → IsAnswer rule (problem_of p block) budget a → IsTrueClaim (document_under rule p block (searched a))
true-claim rule p block budget a spelled is =
    let same = sym (same-problem rule p block (searched a) spelled) in
    record {
      legal = subst (λ (b : Problem). IsLegal b.block a.order) same is.legal;
      time = subst (λ (b : Problem). total_of b a.order ≡ a.time) same (sym is.time);
      bound = bound-within rule (problem_of p block) budget a is;
      tree = subst (λ (b : Problem). ShowsBy (rule_of rule None a.tree) b a.bound [] a.tree) same (answer-shows rule (problem_of p block) budget a is);
    }

pub verdict-of_search : (rule : Rule) (p : Profile) (block : Block) (budget : ℕ) (a : Answer) → IsSpelledBlock block → a.splits ≤ SPLIT_LIMIT → IsAnswer rule (problem_of p block) budget a →
    checker.verdict (document_under rule p block (searched a)) ≡ Yes a.time a.bound
verdict-of_search rule p block budget a (some, few, spelled) within is =
    let d : Document = document_under rule p block (searched a) in
    let document : IsDocument BLOCK_LIMIT d = search-document rule p block budget a is within some few spelled in
    (verdict-yes BLOCK_LIMIT d a.time a.bound document refl).1 (refl, refl, true-claim rule p block budget a spelled is)
