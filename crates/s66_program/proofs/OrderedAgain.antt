-- Blocks that are read again from what `order` wrote take the times of their answers, or as long as they did.
use Rattle.std.proofs.Common.{ℕ, zero, suc, ◌≡◌, ◌==◌, ◌&&◌, ◌++◌, ◌∙◌, Bool, true, false, if◌then◌else◌, List, [], ◌∷◌, Ok, Option, None, Some, drop, length, map, replicate, take, refl, sym, ap, ap₂}
use Rattle.std.proofs.Common.{subst, eqb-true, append-nil}
use Rattle.std.proofs.lemmas.Bool.{and_parts}
use Rattle.std.proofs.lemmas.List.{length-map}
use Rattle.s66_isa.specs.{rising, numbers, Instr, Profile}
use Rattle.s66_model.specs.{source_time, total_of}
use Rattle.s66_model.proofs.WrittenOrders.{written-order}
use Rattle.s66_command.specs.{OrderStyle, Strategy}
use Rattle.s66_line.specs.{Entry, Block, instrs_of}
use Rattle.s66_source.specs.{AreGiven, Reading, Placed, AreComplete, AreGivenAgain, IsGivenAgain, IsPlacedAgain, IsSameAgain, source_of}
use Rattle.s66_source.proofs.SourceAgain.{read-again}
use Rattle.s66_answer.specs.{Answer, AreAnswers, IsAnswer, problem_of, before, shown, Status}
use Rattle.s66_answer.proofs.EveryAnswer.{answer-legal, answer-time}
use Rattle.s66_program.specs.{IsOrdered, all_given, columns_by, given_by, placed_by, rise_from, TakePrintedTimes, with_times, written_time}
use Rattle.s66_program.proofs.PlacedAnswers.{legal-within}

-- THE ORDER OF THE SOURCE

all-rise : (n : ℕ) (order : List ℕ) → rise_from n order ≡ true → order ≡ rising (length order) n
all-rise n [] h = refl
all-rise n (m ∷ ms) h =
    let both = and_parts (m == n) (rise_from (suc n) ms) h in
    ap₂ (λ k ks. k ∷ ks) (eqb-true m n both.0) (all-rise (suc n) ms both.1)

-- ONE BLOCK that is read again

module _ (strategy : Strategy) (p : Profile) (style : OrderStyle) where
  time-placed : (block again : Block) (a : Answer) → IsAnswer strategy p block a → IsPlacedAgain block again a.order → written_time p again ≡ a.time
  time-placed block again a is placed =
      ap (λ (instrs : List Instr). source_time (record { block = instrs; profile = p })) placed.instrs ∙ written-order (problem_of p block) a.order ∙ sym (answer-time strategy p block a is)

  time-same : (block again : Block) → IsSameAgain block again → written_time p again ≡ written_time p block
  time-same block again same = ap (λ (instrs : List Instr). source_time (record { block = instrs; profile = p })) same.instrs

  time-kept : (block again : Block) (a : Answer) → IsAnswer strategy p block a → rise_from 1 a.order ≡ true → IsSameAgain block again → written_time p again ≡ a.time
  time-kept block again a is rises same =
      let first : a.order ≡ numbers (instrs_of block) = all-rise 1 a.order rises ∙ ap (λ n. rising n 1) (answer-legal strategy p block a is).whole in
      time-same block again same ∙ ap (total_of (problem_of p block)) (sym first) ∙ sym (answer-time strategy p block a is)

  time-given : (block again : Block) (a : Answer) → IsAnswer strategy p block a → IsGivenAgain block again (given_by p style block a) → written_time p again ≡ a.time
  time-given block again a is given = by_keep (style.keep && rise_from 1 a.order) refl given
    where
      by_keep : (t : Bool) → (style.keep && rise_from 1 a.order) ≡ t → IsGivenAgain block again (if t then None else Some (placed_by p style.trace block a)) → written_time p again ≡ a.time
      by_keep true stated same = time-kept block again a is (and_parts style.keep (rise_from 1 a.order) stated).1 same
      by_keep false stated placed = time-placed block again a is placed

  -- ALL BLOCKS

  all-same : (blocks again : List Block) → AreGivenAgain blocks [] again → map (written_time p) again ≡ map (written_time p) blocks
  all-same [] [] are = refl
  all-same [] (next ∷ again) are = absurd are
  all-same (block ∷ blocks) [] are = absurd are
  all-same (block ∷ blocks) (next ∷ again) are = ap₂ (λ t ts. t ∷ ts) (time-same block next are.0) (all-same blocks again are.1)

  -- those that are shown come first
  times-shown : (blocks rest : List Block) (answers : List Answer) (again : List Block) → AreAnswers strategy p blocks answers → AreGivenAgain (blocks ++ rest) (all_given p style blocks answers) again →
      map (written_time p) again ≡ with_times 0 (map (λ (a : Answer). a.time) answers) (map (written_time p) (blocks ++ rest))
  times-shown [] rest [] again are given = all-same rest again given
  times-shown [] rest (a ∷ answers) again are given = absurd are
  times-shown (block ∷ blocks) rest [] again are given = absurd are
  times-shown (block ∷ blocks) rest (a ∷ answers) [] are given = absurd given
  times-shown (block ∷ blocks) rest (a ∷ answers) (next ∷ again) are given = ap₂ (λ t ts. t ∷ ts) (time-given block next a are.0 given.0) (times-shown blocks rest answers again are.1 given.1)

  -- so many come before them
  times-again : (k : ℕ) (blocks found rest : List Block) (answers : List Answer) (again : List Block) → drop k blocks ≡ found ++ rest → AreAnswers strategy p found answers → AreGivenAgain blocks (replicate k None ++ all_given p style found answers) again →
      map (written_time p) again ≡ with_times k (map (λ (a : Answer). a.time) answers) (map (written_time p) blocks)
  times-again zero blocks found rest answers again is are given =
      subst (λ bs. map (written_time p) again ≡ with_times 0 (map (λ (a : Answer). a.time) answers) (map (written_time p) bs)) (sym is)
      (times-shown found rest answers again are (subst (λ bs. AreGivenAgain bs (all_given p style found answers) again) is given))
  times-again (suc k) [] [] rest [] [] is are given = refl
  times-again (suc k) [] [] rest (a ∷ answers) again is are given = absurd are
  times-again (suc k) [] (block ∷ found) rest answers again is are given = no-block is
    where
      no-block : {X : Type 0} → [] ≡ block ∷ found ++ rest → X
      no-block h = cc
  times-again (suc k) [] [] rest [] (next ∷ again) is are given = absurd given
  times-again (suc k) (block ∷ blocks) found rest answers [] is are given = absurd given
  times-again (suc k) (block ∷ blocks) found rest answers (next ∷ again) is are given = ap₂ (λ t ts. t ∷ ts) (time-same block next given.0) (times-again k blocks found rest answers again is are given.1)

  -- HOW THE BLOCKS ARE GIVEN

  within-shown : (blocks rest : List Block) (answers : List Answer) → AreAnswers strategy p blocks answers → AreGiven (blocks ++ rest) (all_given p style blocks answers)
  within-shown [] [] [] are = tt
  within-shown [] (block ∷ rest) [] are = tt
  within-shown [] rest (a ∷ answers) are = absurd are
  within-shown (block ∷ blocks) rest [] are = absurd are
  within-shown (block ∷ blocks) rest (a ∷ answers) are =
      elim (style.keep && rise_from 1 a.order) as (λ t. AreGiven (block ∷ (blocks ++ rest)) ((if t then None else Some (placed_by p style.trace block a)) ∷ all_given p style blocks answers))
      [ true ↦ within-shown blocks rest answers are.1 | false ↦ (legal-within block a.order (answer-legal strategy p block a are.0), within-shown blocks rest answers are.1) ]

  complete-shown : (blocks rest : List Block) (answers : List Answer) → AreAnswers strategy p blocks answers → AreComplete (blocks ++ rest) (all_given p style blocks answers)
  complete-shown [] [] [] are = tt
  complete-shown [] (block ∷ rest) [] are = tt
  complete-shown [] rest (a ∷ answers) are = absurd are
  complete-shown (block ∷ blocks) rest [] are = absurd are
  complete-shown (block ∷ blocks) rest (a ∷ answers) are =
      elim (style.keep && rise_from 1 a.order) as (λ t. AreComplete (block ∷ (blocks ++ rest)) ((if t then None else Some (placed_by p style.trace block a)) ∷ all_given p style blocks answers)) [
        | true ↦ complete-shown blocks rest answers are.1
        | false ↦ ((answer-legal strategy p block a are.0).whole ∙ length-map block.entries (λ (e : Entry). e.instr), complete-shown blocks rest answers are.1)
      ]

  within-all : (k : ℕ) (blocks : List Block) (given : List (Option Placed)) → AreGiven (drop k blocks) given → AreGiven blocks (replicate k None ++ given)
  within-all zero blocks given h = h
  within-all (suc k) [] given h = tt
  within-all (suc k) (block ∷ blocks) given h = within-all k blocks given h

  complete-all : (k : ℕ) (blocks : List Block) (given : List (Option Placed)) → AreComplete (drop k blocks) given → AreComplete blocks (replicate k None ++ given)
  complete-all zero blocks given h = h
  complete-all (suc k) [] given h = tt
  complete-all (suc k) (block ∷ blocks) given h = complete-all k blocks given h

-- the blocks that are shown, and those behind them
one-first : (blocks : List Block) → blocks ≡ take 1 blocks ++ drop 1 blocks
one-first [] = refl
one-first (block ∷ blocks) = refl

shown-first : (only : Option ℕ) (blocks : List Block) → (rest : List Block) × (drop (before only) blocks ≡ shown only blocks ++ rest)
shown-first None blocks = ([], sym (append-nil blocks))
shown-first (Some n) blocks = (drop 1 (drop (before (Some n)) blocks), one-first (drop (before (Some n)) blocks))

pub ordered-again : (strategy : Strategy) (p : Profile) (style : OrderStyle) (only : Option ℕ) (source : Reading) (text : List ℕ) (status : Status) (again : List Block) → IsOrdered strategy p style only source text status →
    source_of (record { cut = source.cut; text = text }) ≡ Ok again → TakePrintedTimes strategy p style only source text again
ordered-again strategy p style only source text status again (blocks, accepted, (answers, are, is, ends)) read =
    let found = shown only blocks in
    let (rest, behind) = shown-first only blocks in
    let given = all_given p style found answers in
    let within = within-all strategy p style (before only) blocks given (subst (λ bs. AreGiven bs given) (sym behind) (within-shown strategy p style found rest answers are)) in
    let complete = complete-all strategy p style (before only) blocks given (subst (λ bs. AreComplete bs given) (sym behind) (complete-shown strategy p style found rest answers are)) in
    let placed = read-again style.quiet (columns_by style.columns) source blocks again (replicate (before only) None ++ given) accepted within complete (subst (λ t. source_of (record { cut = source.cut; text = t }) ≡ Ok again) is read) in
    (blocks, accepted, (answers, are, is, times-again strategy p style (before only) blocks found rest answers again behind are placed))
