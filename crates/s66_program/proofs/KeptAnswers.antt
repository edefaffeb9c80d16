-- How answers are printed where some blocks stand: each order has numbers of its block.
use Rattle.std.proofs.Common.{ℕ, zero, suc, ◌≡◌, ◌≤◌, ◌-◌, ◌&&◌, if◌then◌else◌, Bool, true, false, List, [], ◌∷◌, ◌++◌, ap, arith, drop, inl, inr, length, min, refl, replicate, take, Option, None}
use Rattle.std.proofs.Common.{Some, Ok, subst}
use Rattle.s66_isa.specs.{Profile}
use Rattle.s66_isa.proofs.Lists.{cases_le}
use Rattle.s66_command.specs.{OrderStyle, Strategy}
use Rattle.s66_line.specs.{Block}
use Rattle.s66_source.specs.{Reading, Placed, AreGiven, printed_in, replaced, texts_of, Line, blocks_of, classed_lines, refusal, source_of}
use Rattle.s66_source.specs.declared.columns.Columns.{Columns}
use Rattle.s66_answer.specs.{Answer, AreAnswers, before, shown}
use Rattle.s66_answer.proofs.EveryAnswer.{answer-legal}
use Rattle.s66_program.specs.{all_given, given_by, rise_from, placed_by}
use Rattle.s66_program.proofs.PlacedAnswers.{legal-within, read-blocks}

module _ (strategy : Strategy) (p : Profile) (style : OrderStyle) where
  none-given : (blocks : List Block) → AreGiven blocks []
  none-given [] = tt
  none-given (block ∷ blocks) = tt

  given-more : (block : Block) (blocks : List Block) (a : Answer) (given : List (Option Placed)) → AreAnswers strategy p (block ∷ []) (a ∷ []) → AreGiven blocks given → AreGiven (block ∷ blocks) (given_by p style block a ∷ given)
  given-more block blocks a given are rest =
      elim (style.keep && rise_from 1 a.order) as (λ t. AreGiven (block ∷ blocks) ((if t then None else Some (placed_by p style.trace block a)) ∷ given))
      [ true ↦ rest | false ↦ (legal-within block a.order (answer-legal strategy p block a are.0), rest) ]

  given-all : (blocks : List Block) (answers : List Answer) → AreAnswers strategy p blocks answers → AreGiven blocks (all_given p style blocks answers)
  given-all [] answers are = tt
  given-all (block ∷ blocks) [] are = absurd are
  given-all (block ∷ blocks) (a ∷ answers) are =
      given-more block blocks a (all_given p style blocks answers) (are.0, tt) (given-all blocks answers are.1)

  given-first : (blocks : List Block) (answers : List Answer) → AreAnswers strategy p (take 1 blocks) answers → AreGiven blocks (all_given p style (take 1 blocks) answers)
  given-first [] answers are = tt
  given-first (block ∷ blocks) [] are = absurd are
  given-first (block ∷ blocks) (a ∷ []) are = given-more block blocks a [] are (none-given blocks)
  given-first (block ∷ blocks) (a ∷ b ∷ answers) are = absurd are.1

  given-none : (blocks : List Block) (answers : List Answer) → AreAnswers strategy p blocks answers → AreGiven (drop 0 blocks) (all_given p style blocks answers)
  given-none [] answers are = tt
  given-none (block ∷ blocks) answers are = given-all (block ∷ blocks) answers are

  -- so many stand before those that are given, all or more than all
  given-after : (k : ℕ) (blocks : List Block) (gs : List (Option Placed)) → AreGiven (drop k blocks) gs → AreGiven blocks (replicate k None ++ gs)
  given-after k [] gs are = tt
  given-after zero (block ∷ blocks) gs are = are
  given-after (suc k) (block ∷ blocks) gs are = given-after k blocks gs are

  given-past : (k : ℕ) (blocks : List Block) (gs : List (Option Placed)) → length blocks ≤ k → AreGiven blocks (replicate k None ++ gs)
  given-past k [] gs le = tt
  given-past zero (block ∷ blocks) gs le = absurd (omega (arith, le))
  given-past (suc k) (block ∷ blocks) gs le = given-past k blocks gs (omega (arith, le))

  given-shown : (only : Option ℕ) (blocks : List Block) (answers : List Answer) → AreAnswers strategy p (shown only blocks) answers →
      AreGiven (drop (before only) blocks) (all_given p style (shown only blocks) answers)
  given-shown None blocks answers are = given-none blocks answers are
  given-shown (Some n) blocks answers are = given-first (drop (n - 1) blocks) answers are

  pub given-within : (only : Option ℕ) (source : Reading) (blocks : List Block) (answers : List Answer) (k : ℕ) → source_of source ≡ Ok blocks → AreAnswers strategy p (shown only blocks) answers → k ≡ min (before only) (length blocks) →
      AreGiven (blocks_of (classed_lines source)) (replicate k None ++ all_given p style (shown only blocks) answers)
  given-within only source blocks answers k read are is =
      subst (λ bs. AreGiven bs (replicate k None ++ all_given p style (shown only blocks) answers)) (read-blocks (refusal (classed_lines source)) (blocks_of (classed_lines source)) blocks read)
      (elim (cases_le (length blocks) (before only)) [
        | inl all ↦ given-past k blocks (all_given p style (shown only blocks) answers) (omega (arith, is, all))
        | inr some ↦
            let same : before only ≡ k = omega (arith, is, some) in
            given-after k blocks (all_given p style (shown only blocks) answers) (subst (λ j. AreGiven (drop j blocks) (all_given p style (shown only blocks) answers)) same (given-shown only blocks answers are))
      ])

-- no more blocks stand before those that are given than there are
texts-past : (quiet : Bool) (columns : Columns) (all : List Line) (n : ℕ) (blocks : List Block) (k j : ℕ) (gs : List (Option Placed)) → length blocks ≤ k → length blocks ≤ j → texts_of quiet columns all n blocks (replicate k None ++ gs) ≡ texts_of quiet columns all n blocks (replicate j None ++ gs)
texts-past quiet columns all n [] k j gs first second = refl
texts-past quiet columns all n (block ∷ blocks) zero j gs first second = absurd (omega (arith, first))
texts-past quiet columns all n (block ∷ blocks) (suc k) zero gs first second = absurd (omega (arith, second))
texts-past quiet columns all n (block ∷ blocks) (suc k) (suc j) gs first second =
    ap (λ texts. None ∷ texts) (texts-past quiet columns all (suc n) blocks k j gs (omega (arith, first)) (omega (arith, second)))

pub standing-same : (quiet : Bool) (columns : Columns) (source : Reading) (blocks : List Block) (k before : ℕ) (gs : List (Option Placed)) → source_of source ≡ Ok blocks → k ≡ min before (length blocks) →
    printed_in quiet columns source (replicate k None ++ gs) ≡ printed_in quiet columns source (replicate before None ++ gs)
standing-same quiet columns source blocks k before gs read is =
    elim (cases_le (length blocks) before) [
      | inl all ↦
          let same = ap (λ (bs : List Block). length bs) (read-blocks (refusal (classed_lines source)) (blocks_of (classed_lines source)) blocks read) in
          ap (λ texts. replaced (classed_lines source) texts (classed_lines source))
          (texts-past quiet columns (classed_lines source) 1 (blocks_of (classed_lines source)) k before gs (omega (arith, same, is, all)) (omega (arith, same, all)))
      | inr some ↦ (let same : k ≡ before = omega (arith, is, some) in ap (λ j. printed_in quiet columns source (replicate j None ++ gs)) same)
    ]

pub same-blocks : (source : Reading) (found blocks : List Block) → source_of source ≡ Ok found → source_of source ≡ Ok blocks → found ≡ blocks
same-blocks source found blocks read here = cc
