-- How answers are printed: each order has numbers of its block.
use Rattle.std.proofs.Common.{ℕ, ◌≡◌, ◌≤◌, Bool, List, [], ◌∷◌, ◌++◌, length, Option, None, Some, inl, inr, sym, subst, Ok}
use Rattle.std.proofs.lemmas.List.{length-map}
use Rattle.s66_isa.specs.{Instr, Profile, Among}
use Rattle.s66_model.specs.{GoesOn, IsLegal}
use Rattle.s66_model.proofs.LegalOrders.{legal-order, ready-parts}
use Rattle.s66_command.specs.{Strategy}
use Rattle.s66_line.specs.{instrs_of, Entry, Block}
use Rattle.s66_source.specs.{SourceError, ArePlaced, unless_refused}
use Rattle.s66_answer.specs.{Answer, AreAnswers}
use Rattle.s66_answer.proofs.EveryAnswer.{answer-legal}
use Rattle.s66_program.specs.{all_placed}

number-within : (block : List Instr) (prefix ns : List ℕ) → GoesOn block prefix ns → (n : ℕ) → Among n ns → (1 ≤ n) × (n ≤ length block)
number-within block prefix [] goes n among = absurd among
number-within block prefix (m ∷ ms) goes n (inl here) =
    let parts = ready-parts block prefix m goes.0 in
    subst (λ k. (1 ≤ k) × (k ≤ length block)) (sym here) (parts.0, parts.1)
number-within block prefix (m ∷ ms) goes n (inr past) = number-within block (prefix ++ m ∷ []) ms goes.1 n past

pub legal-within : (block : Block) (order : List ℕ) → IsLegal (instrs_of block) order → (n : ℕ) → Among n order → (1 ≤ n) × (n ≤ length block.entries)
legal-within block order legal n among =
    subst (λ k. (1 ≤ n) × (n ≤ k)) (length-map block.entries (λ (e : Entry). e.instr)) (number-within (instrs_of block) [] order (legal-order (instrs_of block) order legal).0 n among)

pub all-within : (strategy : Strategy) (profile : Profile) (trace : Bool) (blocks : List Block) (answers : List Answer) → AreAnswers strategy profile blocks answers → ArePlaced blocks (all_placed profile trace blocks answers)
all-within strategy profile trace [] [] are = tt
all-within strategy profile trace [] (a ∷ answers) are = absurd are
all-within strategy profile trace (block ∷ blocks) [] are = absurd are
all-within strategy profile trace (block ∷ blocks) (a ∷ answers) are = (legal-within block a.order (answer-legal strategy profile block a are.0), all-within strategy profile trace blocks answers are.1)

-- a source that was read has these blocks
pub read-blocks : (e : Option SourceError) (made blocks : List Block) → unless_refused e made ≡ Ok blocks → blocks ≡ made
read-blocks None made blocks h = cc
read-blocks (Some e) made blocks h = cc
