-- What the line of a report says by its bytes: if it ends in BEST, it is of an answer that is best, and no other bound is read in it than the answer's.
use Rattle.std.proofs.Common.{ℕ, zero, suc, ◌+◌, ◌-◌, ◌^◌, ◌≡◌, ◌<◌, ◌==◌, ◌&&◌, ◌||◌, not, ◌∙◌, Bool, true, false, if◌then◌else◌, List, [], ◌∷◌, ◌++◌, drop, take, replicate, length, Option, Some}
use Rattle.std.proofs.Common.{None, codes, refl, sym, ap, subst, arith, inl, inr, append_assoc, eqb, leb, leb-true, ◌⊎◌, decimal, eq-eqb, eqb-true, ne_eqb, append-nil}
use Rattle.std.proofs.lemmas.Bool.{and_parts, not-true}
use Rattle.s66_isa.specs.{Among, every, Profile}
use Rattle.s66_model.specs.{source_time, IsBound, Problem, total_of}
use Rattle.s66_model.proofs.Growth.{total-le}
use Rattle.s66_command.specs.{Strategy, OrderStyle}
use Rattle.s66_line.specs.{Block, is_decimal}
use Rattle.s66_line.proofs.Wholes.{every-append, is_inside}
use Rattle.s66_source.specs.{Reading, indented_lines, indents, Placed, bound_text, notes_text, splits_line, times_text, anew_text, texts_of, Line, blocks_of, classed_lines}
use Rattle.s66_source.proofs.PrintedLines.{accepted-is}
use Rattle.s66_source.proofs.ReadComments.{inside-decimal, inside-times}
use Rattle.s66_cert.specs.{value_after}
use Rattle.s66_cert.proofs.NumberTexts.{decimal-clear, decimal-digits, decimal-value, is_other}
use Rattle.s66_answer.specs.{Status, Answer, AreAnswers, IsAnswer, problem_of, IsSpelledBlock, before, shown}
use Rattle.s66_answer.proofs.AnswerVerdicts.{spelled-block}
use Rattle.s66_answer.proofs.EveryAnswer.{answer-bound, answer-legal, answer-time}
use Rattle.s66_program.specs.{IsOrdered, all_given, columns_by, given_by, placed_by, rise_from, AreChosen, EndsIn, IsReported, ReportsBlocks, is_asked}

-- THE LAST BYTE

abbrev last_of : ℕ → List ℕ → ℕ
last_of d [] = d
last_of d (b ∷ bytes) = last_of b bytes

last_of-append : (d : ℕ) (xs ys : List ℕ) → last_of d (xs ++ ys) ≡ last_of (last_of d xs) ys
last_of-append d [] ys = refl
last_of-append d (x ∷ xs) ys = last_of-append x xs ys

last-digit : (d : ℕ) (ds : List ℕ) → d < 58 → every is_decimal ds ≡ true → last_of d ds < 58
last-digit d [] below h = below
last-digit d (e ∷ ds) below h =
    let both = and_parts (is_decimal e) (every is_decimal ds) h in
    let range = and_parts (leb 48 e) (leb e 57) both.0 in
    last-digit e ds (omega (arith, leb-true e 57 range.1)) both.1

-- a number doesn't end in a letter
best-no_number : (xs ys : List ℕ) (n : ℕ) → n < 2 ^ 64 → xs ++ codes " BEST" ≡ ys ++ (codes " AT LEAST " ++ decimal n) → ⊥
best-no_number xs ys n fits same =
    let ends : 84 ≡ last_of 32 (decimal n) = sym (last_of-append 0 xs (codes " BEST")) ∙ ap (last_of 0) same ∙ last_of-append 0 ys (codes " AT LEAST " ++ decimal n) in
    omega (arith, ends, last-digit 32 (decimal n) (omega arith) (decimal-digits n fits))

-- THE LAST WORD, after the last blank

abbrev last_word : List ℕ → List ℕ → List ℕ
last_word word [] = word
last_word word (b ∷ bytes) = last_word (if eqb b 32 then [] else word ++ b ∷ []) bytes

last_word-append : (word xs ys : List ℕ) → last_word word (xs ++ ys) ≡ last_word (last_word word xs) ys
last_word-append word [] ys = refl
last_word-append word (x ∷ xs) ys = last_word-append (if eqb x 32 then [] else word ++ x ∷ []) xs ys

last_word-clear : (word bytes : List ℕ) → every (is_other 32) bytes ≡ true → last_word word bytes ≡ word ++ bytes
last_word-clear word [] h = sym (append-nil word)
last_word-clear word (b ∷ bytes) h =
    let both = and_parts (is_other 32 b) (every (is_other 32) bytes) h in
    let other : eqb b 32 ≡ false = not-true (eqb b 32) both.0 in
    rw other (last_word-clear (word ++ b ∷ []) bytes both.1 ∙ append_assoc word (b ∷ []) bytes)

number-word : (front : List ℕ) (n : ℕ) → n < 2 ^ 64 → last_word [] (front ++ (codes " AT LEAST " ++ decimal n)) ≡ decimal n
number-word front n fits =
    last_word-append [] front (codes " AT LEAST " ++ decimal n) ∙ last_word-clear [] (decimal n) (decimal-clear 32 n (λ range. absurd (omega (arith, range.0))) fits)

same-number : (xs ys : List ℕ) (m n : ℕ) → m < 2 ^ 64 → n < 2 ^ 64 → xs ++ (codes " AT LEAST " ++ decimal m) ≡ ys ++ (codes " AT LEAST " ++ decimal n) → m ≡ n
same-number xs ys m n fits within same =
    let words : decimal m ≡ decimal n = sym (number-word xs m fits) ∙ ap (last_word []) same ∙ number-word ys n within in
    sym (decimal-value m fits) ∙ ap (value_after 0) words ∙ decimal-value n within

-- THE LINE of an answer, by whether it is best

abbrev ending : Bool → ℕ → List ℕ
ending true bound = codes " BEST"
ending false bound = codes " AT LEAST " ++ decimal bound

abbrev after_blank : Bool → ℕ → List ℕ
after_blank true bound = codes "BEST"
after_blank false bound = codes "AT LEAST " ++ decimal bound

ending-inside : (best : Bool) (bound : ℕ) → every is_inside (ending best bound) ≡ true
ending-inside true bound = refl
ending-inside false bound = every-append is_inside (codes " AT LEAST ") (decimal bound) refl (inside-decimal bound)

ending-blank : (best : Bool) (bound : ℕ) (front : List ℕ) → front ++ ending best bound ≡ (front ++ codes " ") ++ after_blank best bound
ending-blank true bound front = sym (append_assoc front (codes " ") (codes "BEST"))
ending-blank false bound front = sym (append_assoc front (codes " ") (codes "AT LEAST " ++ decimal bound))

bound-line : (front : List ℕ) (p : Placed) → front ++ bound_text p ≡ (front ++ ending (p.bound == p.time) p.bound) ++ codes "\n"
bound-line front p =
    elim (p.bound == p.time) as (λ t. front ++ (if t then codes " BEST\n" else (codes " AT LEAST " ++ decimal p.bound ++ codes "\n")) ≡ (front ++ ending t p.bound) ++ codes "\n") [
      | true ↦ sym (append_assoc front (codes " BEST") (codes "\n"))
      | false ↦ sym (append_assoc front (codes " AT LEAST " ++ decimal p.bound) (codes "\n"))
    ]

-- the line ends in what it says: the answer is best, or this is its bound
ending-says : (best : Bool) (front : List ℕ) (b : Problem) (bound time : ℕ) → bound < 2 ^ 64 → IsBound b bound → (best ≡ true → bound ≡ time) →
    (EndsIn (front ++ ending best bound) (codes " BEST") × IsBound b time)
    ⊎ ((n : ℕ) × (n < 2 ^ 64) × EndsIn (front ++ ending best bound) (codes " AT LEAST " ++ decimal n) × IsBound b n)
ending-says true front b bound time fits is same = inl ((front, refl), subst (IsBound b) (same refl) is)
ending-says false front b bound time fits is same = inr (bound, fits, (front, refl), is)

-- that the line ends so is enough: it ends in nothing else
pub best-said : (p : Profile) (style : OrderStyle) (all : List Line) (n : ℕ) (block : Block) (text : List ℕ) (r : IsReported p style all n block text) → EndsIn r.line (codes " BEST") →
    IsBound (problem_of p block) (total_of (problem_of p block) r.order)
best-said p style all n block text r (before, ends) = by_ending r.says
  where
    by_ending : (EndsIn r.line (codes " BEST") × IsBound (problem_of p block) (total_of (problem_of p block) r.order))
        ⊎ ((bound : ℕ) × (bound < 2 ^ 64) × EndsIn r.line (codes " AT LEAST " ++ decimal bound) × IsBound (problem_of p block) bound) →
        IsBound (problem_of p block) (total_of (problem_of p block) r.order)
    by_ending (inl (best, is)) = is
    by_ending (inr (bound, fits, (front, least), is)) = absurd (best-no_number before front bound fits (sym ends ∙ least))

pub least-said : (p : Profile) (style : OrderStyle) (all : List Line) (n : ℕ) (block : Block) (text : List ℕ) (r : IsReported p style all n block text) (bound : ℕ) → bound < 2 ^ 64 →
    EndsIn r.line (codes " AT LEAST " ++ decimal bound) → IsBound (problem_of p block) bound
least-said p style all n block text r bound within (before, ends) = by_ending r.says
  where
    by_ending : (EndsIn r.line (codes " BEST") × IsBound (problem_of p block) (total_of (problem_of p block) r.order))
        ⊎ ((m : ℕ) × (m < 2 ^ 64) × EndsIn r.line (codes " AT LEAST " ++ decimal m) × IsBound (problem_of p block) m) →
        IsBound (problem_of p block) bound
    by_ending (inl ((front, best), is)) = absurd (best-no_number front before bound within (sym best ∙ ends))
    by_ending (inr (m, fits, (front, least), is)) = subst (IsBound (problem_of p block)) (same-number front before m bound fits within (sym least ∙ ends)) is

-- A BLOCK

block-reported : (strategy : Strategy) (p : Profile) (style : OrderStyle) (all : List Line) (n : ℕ) (block : Block) (a : Answer) → IsSpelledBlock block → IsAnswer strategy p block a →
    IsReported p style all n block (anew_text style.quiet (columns_by style.columns) all n block (placed_by p style.trace block a))
block-reported strategy p style all n block a spelled is =
    let b : Problem = problem_of p block in
    let legal = answer-legal strategy p block a is in
    let time : a.time ≡ total_of b a.order = answer-time strategy p block a is in
    let bound : IsBound b a.bound = answer-bound strategy p block a spelled is in
    let small : a.time < 2 ^ 64 = omega (arith, time, total-le b a.order, legal.whole, spelled.1) in
    let fits : a.bound < 2 ^ 64 = omega (arith, bound a.order legal, time, small) in
    let front : List ℕ = times_text n (length block.entries) (source_time b) a.time in
    let best : Bool = a.bound == a.time in
    record {
      line = front ++ ending best a.bound;
      splits = a.splits;
      order = a.order;
      whole =
          ap (λ head. (if style.quiet then [] else head ++ splits_line (if style.trace then Some a.splits else None)) ++ notes_text block all ++ indented_lines (indents (columns_by style.columns) all block) block block.label a.order)
          (bound-line front (placed_by p style.trace block a));
      legal = legal;
      one = every-append is_inside front (ending best a.bound) (inside-times n (length block.entries) (source_time b) a.time) (ending-inside best a.bound);
      times = (after_blank best a.bound, ending-blank best a.bound front ∙ ap (λ t. times_text n (length block.entries) (source_time b) t ++ codes " " ++ after_blank best a.bound) time);
      says = ending-says best front b a.bound (total_of b a.order) fits bound (λ same. eqb-true a.bound a.time same ∙ time);
    }

-- ALL BLOCKS

or-true : (t : Bool) → (t || true) ≡ true
or-true true = refl
or-true false = refl

module _ (strategy : Strategy) (p : Profile) (style : OrderStyle) (all : List Line) where
  abbrev texts : ℕ → List Block → List (Option Placed) → List (Option (List ℕ))
  texts n blocks gs = texts_of style.quiet (columns_by style.columns) all n blocks gs

  none-of : (n : ℕ) (blocks : List Block) → texts n blocks [] ≡ []
  none-of n [] = refl
  none-of n (block ∷ blocks) = refl

  -- blocks after the one that is asked for
  chosen-none : (m n : ℕ) (blocks : List Block) → suc (m - 1) < n → AreChosen p style (Some m) all n blocks []
  chosen-none m n [] after = tt
  chosen-none m n (block ∷ blocks) after = (ap (λ t. style.keep || not t) (ne_eqb n (suc (m - 1)) (λ same. absurd (omega (arith, same, after)))) ∙ or-true style.keep, chosen-none m (suc n) blocks (omega (arith, after)))

  -- a block that is asked for, and then others
  chosen-first : (only : Option ℕ) (n : ℕ) (block : Block) (blocks : List Block) (a : Answer) (gs : List (Option Placed)) → IsSpelledBlock block → IsAnswer strategy p block a → is_asked only n ≡ true →
      AreChosen p style only all (suc n) blocks (texts (suc n) blocks gs) → AreChosen p style only all n (block ∷ blocks) (texts n (block ∷ blocks) (given_by p style block a ∷ gs))
  chosen-first only n block blocks a gs spelled is asked rest = by_test (style.keep && rise_from 1 a.order) refl
    where
      by_test : (t : Bool) → (style.keep && rise_from 1 a.order) ≡ t → AreChosen p style only all n (block ∷ blocks) (texts n (block ∷ blocks) ((if t then None else Some (placed_by p style.trace block a)) ∷ gs))
      by_test true kept = (ap (λ t. t || not (is_asked only n)) (and_parts style.keep (rise_from 1 a.order) kept).0, rest)
      by_test false kept = ((asked, block-reported strategy p style all n block a spelled is), rest)

  chosen-all : (n : ℕ) (blocks : List Block) (answers : List Answer) → ((block : Block) → Among block blocks → IsSpelledBlock block) → AreAnswers strategy p blocks answers → AreChosen p style None all n blocks (texts n blocks (all_given p style blocks answers))
  chosen-all n [] answers spelled are = tt
  chosen-all n (block ∷ blocks) [] spelled are = absurd are
  chosen-all n (block ∷ blocks) (a ∷ answers) spelled are =
      chosen-first None n block blocks a (all_given p style blocks answers) (spelled block (inl refl)) are.0 refl (chosen-all (suc n) blocks answers (λ other among. spelled other (inr among)) are.1)

  chosen-one : (m k n : ℕ) (blocks : List Block) (answers : List Answer) → ((block : Block) → Among block blocks → IsSpelledBlock block) → n + k ≡ suc (m - 1) → AreAnswers strategy p (take 1 (drop k blocks)) answers →
      AreChosen p style (Some m) all n blocks (texts n blocks (replicate k None ++ all_given p style (take 1 (drop k blocks)) answers))
  chosen-one m k n [] answers spelled at are = tt
  chosen-one m (suc k) n (block ∷ blocks) answers spelled at are =
      (ap (λ t. style.keep || not t) (ne_eqb n (suc (m - 1)) (λ same. absurd (omega (arith, same, at)))) ∙ or-true style.keep, chosen-one m k (suc n) blocks answers (λ other among. spelled other (inr among)) (omega (arith, at)) are)
  chosen-one m zero n (block ∷ blocks) [] spelled at are = absurd are
  chosen-one m zero n (block ∷ blocks) (a ∷ b ∷ answers) spelled at are = absurd are.1
  chosen-one m zero n (block ∷ blocks) (a ∷ []) spelled at are =
      chosen-first (Some m) n block blocks a [] (spelled block (inl refl)) are.0 (eq-eqb n (suc (m - 1)) (omega (arith, at))) (subst (AreChosen p style (Some m) all (suc n) blocks) (sym (none-of (suc n) blocks)) (chosen-none m (suc n) blocks (omega (arith, at))))

  chosen : (only : Option ℕ) (blocks : List Block) (answers : List Answer) → ((block : Block) → Among block blocks → IsSpelledBlock block) → AreAnswers strategy p (shown only blocks) answers →
      AreChosen p style only all 1 blocks (texts 1 blocks (replicate (before only) None ++ all_given p style (shown only blocks) answers))
  chosen None blocks answers spelled are = chosen-all 1 blocks answers spelled are
  chosen (Some m) blocks answers spelled are = chosen-one m (m - 1) 1 blocks answers spelled (omega arith) are

pub blocks-reported : (strategy : Strategy) (p : Profile) (style : OrderStyle) (only : Option ℕ) (source : Reading) (text : List ℕ) (status : Status) → IsOrdered strategy p style only source text status → ReportsBlocks p style only source text
blocks-reported strategy p style only source text status (blocks, accepted, (answers, are, is, ends)) =
    let all : List Line = classed_lines source in
    let gs : List (Option Placed) = replicate (before only) None ++ all_given p style (shown only blocks) answers in (
      blocks,
      accepted,
      (
        texts_of style.quiet (columns_by style.columns) all 1 (blocks_of all) gs,
        is,
        subst (λ bs. AreChosen p style only all 1 blocks (texts_of style.quiet (columns_by style.columns) all 1 bs gs)) (sym (accepted-is source blocks accepted))
            (chosen strategy p style all only blocks answers (spelled-block source blocks accepted) are),
      ),
    )
