-- Each line is read as what it is written, and nothing else is read.
use Rattle.std.proofs.Common.{◌≡◌, ◌≤◌, ◌<◌, ◌+◌, ◌^◌, ◌&&◌, ℕ, Bool, true, false, List, [], ◌∷◌, ◌++◌, length, Option, None, Some, refl, sym, ap, ◌∙◌, arith, cond, leb, eqb, le-leb, leb-true}
use Rattle.std.proofs.Common.{append_assoc, eqb-true, append-nil, option_map, codes, decimal, bytes_eq}
use Rattle.std.proofs.lemmas.Bool.{and_parts, and_from, cond-true}
use Rattle.std.proofs.lemmas.Fmt.{decimal_digit}
use Rattle.std.proofs.lemmas.Option.{cond_some}
use Rattle.std.proofs.lemmas.Slice.Eq.{bytes_eq-Decides}
use Rattle.s66_isa.specs.{after_blanks, Kind, Boolean, Shift, Add, LongAdd, Multiply, Divide, Increment, kind_name, PROFILE_LENGTH, PROFILE_LIMIT}
use Rattle.s66_model.specs.{Whole, Chain, Load, Parcels, AtTerminal, AtSplit, Bounding, Dominated, Factual, Next, Turned, AtLine, LoadFrom}
use Rattle.s66_moments.specs.{Issue, Start, Done, Free, Moment, Origin, At, is_front, is_back, IsMomentWithin}
use Rattle.s66_moments.specs.declared.moment.Moment.TheVariants as moment
use Rattle.s66_moments.specs.declared.fact_line.FactLine.TheVariants as fact
use Rattle.s66_moments.specs.declared.fact_line.FactStep.TheVariants as step
use Rattle.s66_cert.specs.{Version, BoundsAlone, EarlierNodes, StandingNodes, FactLines, Suppositions, version_number, AreIn, AreNumbers, moment_text, TIME_LIMIT, LINE_LIMIT, DocumentLine, Header}
use Rattle.s66_cert.specs.{Profile, Block, Instruction, Time, Bound, Order, OfFact, OfTree, End, line_bytes, IsLineInRange, first_word, after_first_word, word_in, rest_in, words_in, numbers_in}
use Rattle.s66_cert.specs.{number_in, if_count, block_numbers, two_numbers, pair_with, one_number, stage_in, front_in, back_in, load_with, load_after, load_in, load_from_with, load_from_in}
use Rattle.s66_cert.specs.{is_instruction_text, instruction_in, kind_in, alone, header_in, line_with, line_read}
use Rattle.s66_cert.proofs.NumberTexts.{number-again, number-is}
use Rattle.s66_cert.proofs.Spelled.{instruction-again, instruction-is}
use Rattle.s66_cert.proofs.Words.{IsWord, tail_of, joined, first-before, after-before, decimal-word, words-after_blanks, numbers-again, numbers-are}

-- RANGES

are-from-0 : (low high : ℕ) (ns : List ℕ) → AreIn low high ns → AreIn 0 high ns
are-from-0 low high [] are = tt
are-from-0 low high (n ∷ ns) are = (omega arith, are.1, are-from-0 low high ns are.2)

-- AGAIN

list-again : (low high few many n : ℕ) (ns : List ℕ) → high < 2 ^ 64 → AreIn low high (n ∷ ns) → few ≤ length (n ∷ ns) → length (n ∷ ns) ≤ many →
    if_count few many (numbers_in low high (words_in (Some (decimal n ++ after_blanks ns)))) ≡ Some (n ∷ ns)
list-again low high few many n ns fits are least most =
    let read : numbers_in low high (words_in (Some (decimal n ++ after_blanks ns))) ≡ Some (n ∷ ns) =
    ap (numbers_in low high) (words-after_blanks high n ns fits (are-from-0 low high (n ∷ ns) are)) ∙ numbers-again low high (n ∷ ns) fits are in
    ap (if_count few many) read ∙ cond-true (leb few (length (n ∷ ns)) && leb (length (n ∷ ns)) many) (Some (n ∷ ns)) None (and_from (leb few (length (n ∷ ns))) (leb (length (n ∷ ns)) many) (le-leb few (length (n ∷ ns)) least) (le-leb (length (n ∷ ns)) many most))

block_numbers-again : (limit n : ℕ) (ns : List ℕ) → limit < 2 ^ 64 → AreNumbers limit (n ∷ ns) → block_numbers limit (Some (decimal n ++ after_blanks ns)) ≡ Some (n ∷ ns)
block_numbers-again limit n ns narrow are = list-again 1 limit 1 limit n ns narrow are.2 are.0 are.1

kind-again : (kind : Kind) → kind_in (Some (kind_name kind)) ≡ Some kind
kind-again Boolean = refl
kind-again Shift = refl
kind-again Add = refl
kind-again LongAdd = refl
kind-again Multiply = refl
kind-again Divide = refl
kind-again Increment = refl

-- a version has one digit
pub version-digit : (v : Version) → decimal (version_number v) ≡ (48 + version_number v) ∷ []
version-digit BoundsAlone = decimal_digit 1 (omega arith)
version-digit EarlierNodes = decimal_digit 2 (omega arith)
version-digit StandingNodes = decimal_digit 3 (omega arith)
version-digit FactLines = decimal_digit 4 (omega arith)
version-digit Suppositions = decimal_digit 5 (omega arith)

header-again : (v : Version) → header_in (Some (codes "CERTIFICATE " ++ (48 + version_number v) ∷ [])) ≡ Some (Header v)
header-again BoundsAlone = refl
header-again EarlierNodes = refl
header-again StandingNodes = refl
header-again FactLines = refl
header-again Suppositions = refl

pair-again : (limit n m : ℕ) (f : ℕ → ℕ → DocumentLine) → limit < 2 ^ 64 → AreIn 1 limit (n ∷ m ∷ []) → pair_with f (two_numbers limit (Some (decimal n ++ after_blanks (m ∷ [])))) ≡ Some (f n m)
pair-again limit n m f narrow are = ap (pair_with f) (list-again 1 limit 2 2 n (m ∷ []) narrow are (omega arith) (omega arith))

-- MOMENTS

stage-again : (limit n : ℕ) → limit < 2 ^ 64 → (1 ≤ n) × (n ≤ limit) → (stage_in limit (73 ∷ decimal n) ≡ Some (At n Issue)) × (stage_in limit (83 ∷ decimal n) ≡ Some (At n Start))
stage-again limit n narrow is =
    let read = number-again 1 limit n (omega (arith, narrow, is.1)) is.0 is.1 in
    (ap (option_map (λ n. At n Issue)) read, ap (option_map (λ n. At n Start)) read)

front-again : (limit : ℕ) (m : Moment) → limit < 2 ^ 64 → (is_front m ≡ true) × IsMomentWithin limit m → front_in limit (Some (moment_text m)) ≡ Some m
front-again limit Origin narrow is = refl
front-again limit (At n Issue) narrow is = (stage-again limit n narrow is.1).0
front-again limit (At n Start) narrow is = (stage-again limit n narrow is.1).1
front-again limit (At n (Done x)) narrow is = absurd (let no = is.0 in (cc))
front-again limit (At n Free) narrow is = absurd (let no = is.0 in (cc))
front-again limit moment.End narrow is = absurd (let no = is.0 in (cc))

back-again : (limit : ℕ) (m : Moment) → limit < 2 ^ 64 → (is_back m ≡ true) × IsMomentWithin limit m → back_in limit (Some (moment_text m)) ≡ Some m
back-again limit Origin narrow is = absurd (let no = is.0 in (cc))
back-again limit (At n Issue) narrow is = (stage-again limit n narrow is.1).0
back-again limit (At n Start) narrow is = (stage-again limit n narrow is.1).1
back-again limit (At n (Done x)) narrow is = absurd (let no = is.0 in (cc))
back-again limit (At n Free) narrow is = absurd (let no = is.0 in (cc))
back-again limit moment.End narrow is = refl

moment-word : (limit : ℕ) (m : Moment) → limit < 2 ^ 64 → IsMomentWithin limit m → IsWord (moment_text m)
moment-word limit Origin narrow is = refl
moment-word limit (At n Issue) narrow is = decimal-word n (omega (arith, narrow, is.1))
moment-word limit (At n Start) narrow is = decimal-word n (omega (arith, narrow, is.1))
moment-word limit (At n (Done x)) narrow is = refl
moment-word limit (At n Free) narrow is = refl
moment-word limit moment.End narrow is = refl

-- LOADS

-- a word before a blank
word-again : (w r : List ℕ) → IsWord w → (word_in (Some (w ++ 32 ∷ r)) ≡ Some w) × (rest_in (Some (w ++ 32 ∷ r)) ≡ Some r)
word-again w r is = (ap Some (first-before w r is), after-before w r is)

-- four words, and the rest
load-words : (limit : ℕ) (f t a w r : List ℕ) → IsWord f → IsWord t → IsWord a → IsWord w →
    load_in limit (Some (f ++ 32 ∷ (t ++ 32 ∷ (a ++ 32 ∷ (w ++ 32 ∷ r))))) ≡ load_after limit (Some f) (Some t) (Some a) (Some w) (Some r)
load-words limit f t a w r is_f is_t is_a is_w =
    let last : List ℕ = w ++ 32 ∷ r in
    let third : Option (List ℕ) = Some (a ++ 32 ∷ last) in
    let second : Option (List ℕ) = Some (t ++ 32 ∷ (a ++ 32 ∷ last)) in
    let first : Option (List ℕ) = Some (f ++ 32 ∷ (t ++ 32 ∷ (a ++ 32 ∷ last))) in
    let one = word-again f (t ++ 32 ∷ (a ++ 32 ∷ last)) is_f in
    let two = word-again t (a ++ 32 ∷ last) is_t in
    let three = word-again a last is_a in
    let four = word-again w r is_w in
    ap (λ (o : Option (List ℕ)). load_after limit o (word_in (rest_in first)) (word_in (rest_in (rest_in first))) (word_in (rest_in (rest_in (rest_in first)))) (rest_in (rest_in (rest_in (rest_in first))))) one.0
    ∙ ap (λ (o : Option (List ℕ)). load_after limit (Some f) (word_in o) (word_in (rest_in o)) (word_in (rest_in (rest_in o))) (rest_in (rest_in (rest_in o)))) one.1
    ∙ ap (λ (o : Option (List ℕ)). load_after limit (Some f) o (word_in (rest_in second)) (word_in (rest_in (rest_in second))) (rest_in (rest_in (rest_in second)))) two.0
    ∙ ap (λ (o : Option (List ℕ)). load_after limit (Some f) (Some t) (word_in o) (word_in (rest_in o)) (rest_in (rest_in o))) two.1
    ∙ ap (λ (o : Option (List ℕ)). load_after limit (Some f) (Some t) o (word_in (rest_in third)) (rest_in (rest_in third))) three.0
    ∙ ap (λ (o : Option (List ℕ)). load_after limit (Some f) (Some t) (Some a) (word_in o) (rest_in o)) three.1
    ∙ ap (λ (o : Option (List ℕ)). load_after limit (Some f) (Some t) (Some a) o (rest_in (Some last))) four.0
    ∙ ap (λ (o : Option (List ℕ)). load_after limit (Some f) (Some t) (Some a) (Some w) o) four.1

-- with one blank between two
behind-both : (f t more : List ℕ) → f ++ codes " " ++ t ++ more ≡ f ++ 32 ∷ (t ++ more)
behind-both f t more = append_assoc (f ++ codes " ") t more ∙ append_assoc f (codes " ") (t ++ more)

load-again : (limit : ℕ) (from to : Moment) (after wait : ℕ) (ns : List ℕ) → limit < 2 ^ 64 → (is_front from ≡ true) × IsMomentWithin limit from → (is_back to ≡ true) × IsMomentWithin limit to →
    AreIn 0 TIME_LIMIT (after ∷ wait ∷ []) → AreNumbers limit ns →
    load_in limit (Some (moment_text from ++ codes " " ++ moment_text to ++ after_blanks (after ∷ wait ∷ ns))) ≡ Some (OfFact (step.Fact (fact.Load (record { from = from; to = to; after = after; wait = wait; numbers = record { items = ns } }))))
load-again limit from to after wait [] narrow front back amounts are = absurd (omega (arith, are.0))
load-again limit from to after wait (n ∷ ns) narrow front back amounts are =
    ap (λ (text : List ℕ). load_in limit (Some text)) (behind-both (moment_text from) (moment_text to) (after_blanks (after ∷ wait ∷ n ∷ ns)))
    ∙ load-words limit (moment_text from) (moment_text to) (decimal after) (decimal wait) (decimal n ++ after_blanks ns) (moment-word limit from narrow front.1) (moment-word limit to narrow back.1)
    (decimal-word after (omega (arith, amounts.1))) (decimal-word wait (omega (arith, amounts.2.1)))
    ∙ rw (
      front-again limit from narrow front,
      back-again limit to narrow back,
      number-again 0 TIME_LIMIT after (omega (arith, amounts.1)) (omega arith) amounts.1,
      number-again 0 TIME_LIMIT wait (omega (arith, amounts.2.1)) (omega arith) amounts.2.1,
      block_numbers-again limit n ns narrow are,
    ) refl

-- a minor cycle, and numbers
load_from-again : (limit after : ℕ) (ns : List ℕ) → limit < 2 ^ 64 → after ≤ TIME_LIMIT → AreNumbers limit ns → load_from_in limit (Some (decimal after ++ after_blanks ns)) ≡ Some (OfTree (AtTerminal (Factual (LoadFrom after ns))))
load_from-again limit after [] narrow few are = absurd (omega (arith, are.0))
load_from-again limit after (n ∷ ns) narrow few are =
    let rest : List ℕ = decimal n ++ after_blanks ns in
    let text : Option (List ℕ) = Some (decimal after ++ 32 ∷ rest) in
    let word = word-again (decimal after) rest (decimal-word after (omega (arith, few))) in
    ap (λ (o : Option (List ℕ)). load_from_with (one_number 0 TIME_LIMIT o) (block_numbers limit (rest_in text))) word.0
    ∙ ap (λ (o : Option (List ℕ)). load_from_with (one_number 0 TIME_LIMIT (Some (decimal after))) (block_numbers limit o)) word.1
    ∙ rw (number-again 0 TIME_LIMIT after (omega (arith, few)) (omega arith) few, block_numbers-again limit n ns narrow are) refl

pub line-again : (limit : ℕ) (l : DocumentLine) → limit < 2 ^ 64 → IsLineInRange limit l → line_read limit (line_bytes l) ≡ Some l
line-again limit (Header v) narrow is = ap (λ (digit : List ℕ). line_read limit (codes "S66 CERTIFICATE " ++ digit)) (version-digit v) ∙ header-again v
line-again limit (Profile []) narrow is = absurd (omega (arith, is.0))
line-again limit (Profile (n ∷ ns)) narrow is = ap (option_map Profile) (list-again 1 PROFILE_LIMIT PROFILE_LENGTH PROFILE_LENGTH n ns (omega arith) is.1 (omega (arith, is.0)) (omega (arith, is.0)))
line-again limit (Block count) narrow is = ap (option_map Block) (number-again 1 limit count (omega (arith, narrow, is.1)) is.0 is.1)
line-again limit (Instruction text) narrow is = cond-true (is_instruction_text text) (Some (Instruction text)) None (instruction-again text is)
line-again limit (Time time) narrow is = ap (option_map Time) (number-again 0 TIME_LIMIT time (omega (arith, is)) (omega arith) is)
line-again limit (Bound bound) narrow is = ap (option_map Bound) (number-again 0 TIME_LIMIT bound (omega (arith, is)) (omega arith) is)
line-again limit (Order []) narrow is = absurd (omega (arith, is.0))
line-again limit (Order (n ∷ ns)) narrow is = ap (option_map Order) (block_numbers-again limit n ns narrow is)
line-again limit (OfFact (step.Suppose n m)) narrow is = pair-again limit n m (λ n m. OfFact (step.Suppose n m)) narrow is
line-again limit (OfFact step.Refuted) narrow is = refl
line-again limit (OfFact (step.Fact (fact.Pair n m))) narrow is = pair-again limit n m (λ n m. OfFact (step.Fact (fact.Pair n m))) narrow is
line-again limit (OfFact (step.Fact (fact.Load line))) narrow is = load-again limit line.from line.to line.after line.wait line.numbers.items narrow is.0.front is.0.back is.1 is.2
line-again limit (OfTree (AtTerminal (Factual (Next n)))) narrow is = ap (option_map (λ n. OfTree (AtTerminal (Factual (Next n))))) (number-again 1 limit n (omega (arith, narrow, is.1)) is.0 is.1)
line-again limit (OfTree (AtTerminal (Factual (Turned n m)))) narrow is = pair-again limit n m (λ n m. OfTree (AtTerminal (Factual (Turned n m)))) narrow is
line-again limit (OfTree (AtTerminal (Factual (AtLine n)))) narrow is = ap (option_map (λ n. OfTree (AtTerminal (Factual (AtLine n))))) (number-again 1 LINE_LIMIT n (omega (arith, is.1)) is.0 is.1)
line-again limit (OfTree (AtTerminal (Factual (LoadFrom after ns)))) narrow is = load_from-again limit after ns narrow is.0 is.1
line-again limit (OfTree (AtTerminal (Bounding Whole))) narrow is = refl
line-again limit (OfTree (AtTerminal (Bounding (Chain [])))) narrow is = absurd (omega (arith, is.0))
line-again limit (OfTree (AtTerminal (Bounding (Chain (n ∷ ns))))) narrow is = ap (option_map (λ ns. OfTree (AtTerminal (Bounding (Chain ns))))) (block_numbers-again limit n ns narrow is)
line-again limit (OfTree (AtTerminal (Bounding (Load kind)))) narrow is = ap (option_map (λ kind. OfTree (AtTerminal (Bounding (Load kind))))) (kind-again kind)
line-again limit (OfTree (AtTerminal (Bounding Parcels))) narrow is = refl
line-again limit (OfTree (AtTerminal (Dominated []))) narrow is = absurd (omega (arith, is.0))
line-again limit (OfTree (AtTerminal (Dominated (n ∷ ns)))) narrow is = ap (option_map (λ ns. OfTree (AtTerminal (Dominated ns)))) (block_numbers-again limit n ns narrow is)
line-again limit (OfTree (AtSplit [])) narrow is = absurd (omega (arith, is.0))
line-again limit (OfTree (AtSplit (n ∷ ns))) narrow is = ap (option_map (λ ns. OfTree (AtSplit ns))) (block_numbers-again limit n ns narrow is)
line-again limit End narrow is = refl

-- AND NOTHING ELSE

-- it stands for a line that is in range and written so
abbrev Spells : ℕ → List ℕ → DocumentLine → Type 0
Spells limit bytes l = (bytes ≡ line_bytes l) × IsLineInRange limit l

if_count-is : (few many : ℕ) (read : Option (List ℕ)) (ns : List ℕ) → if_count few many read ≡ Some ns → (read ≡ Some ns) × (few ≤ length ns) × (length ns ≤ many)
if_count-is few many None ns h = absurd (cc)
if_count-is few many (Some ms) ns h =
    let got = cond_some (leb few (length ms) && leb (length ms) many) ms ns h in
    let both = and_parts (leb few (length ms)) (leb (length ms) many) got.0 in
    let least : few ≤ length ms = leb-true few (length ms) both.0 in
    let most : length ms ≤ many = leb-true (length ms) many both.1 in
    (ap Some got.1, omega (arith, ap length got.1), omega (arith, ap length got.1))

list-is : (low high few many : ℕ) (rest : Option (List ℕ)) (ns : List ℕ) → high < 2 ^ 64 → if_count few many (numbers_in low high (words_in rest)) ≡ Some ns →
    (tail_of rest ≡ after_blanks ns) × (few ≤ length ns) × (length ns ≤ many) × AreIn low high ns
list-is low high few many rest ns fits h =
    let count = if_count-is few many (numbers_in low high (words_in rest)) ns h in
    let are = numbers-are low high rest ns fits count.0 in
    (are.0, count.1, count.2, are.1)

map-is : {X Y : Type 0} (f : X → Y) (read : Option X) (l : Y) → option_map f read ≡ Some l → (x : X) × (read ≡ Some x) × (f x ≡ l)
map-is f None l h = absurd (cc)
map-is f (Some x) l h = (x, refl, (cc))

alone-is : (line : DocumentLine) (rest : Option (List ℕ)) (l : DocumentLine) → alone line rest ≡ Some l → (tail_of rest ≡ []) × (line ≡ l)
alone-is line None l h = (refl, (cc))
alone-is line (Some r) l h = absurd (cc)

-- the rest of a line that names a kind
kind-is : (rest : Option (List ℕ)) (kind : Kind) → kind_in rest ≡ Some kind → tail_of rest ≡ 32 ∷ kind_name kind
kind-is None kind h = absurd (cc)
kind-is (Some name) kind h =
    one (codes "BOOLEAN") Boolean _ (λ e. ap (λ x. 32 ∷ x) e)
    (one (codes "SHIFT") Shift _ (λ e. ap (λ x. 32 ∷ x) e)
    (one (codes "ADD") Add _ (λ e. ap (λ x. 32 ∷ x) e)
    (one (codes "LONGADD") LongAdd _ (λ e. ap (λ x. 32 ∷ x) e)
    (one (codes "MULTIPLY") Multiply _ (λ e. ap (λ x. 32 ∷ x) e)
    (one (codes "DIVIDE") Divide _ (λ e. ap (λ x. 32 ∷ x) e)
    (one (codes "INCREMENT") Increment _ (λ e. ap (λ x. 32 ∷ x) e) (λ no. absurd (cc)))))))) h
  where
    one : (key : List ℕ) (this : Kind) (other : Option Kind) → (name ≡ key → 32 ∷ name ≡ 32 ∷ kind_name this) → (other ≡ Some kind → 32 ∷ name ≡ 32 ∷ kind_name kind) →
        cond (bytes_eq name key) (Some this) other ≡ Some kind → 32 ∷ name ≡ 32 ∷ kind_name kind
    one key this other hit miss h = by (bytes_eq name key) (bytes_eq-Decides name key).0 h
      where
        by : (test : Bool) → (test ≡ true → name ≡ key) → cond test (Some this) other ≡ Some kind → 32 ∷ name ≡ 32 ∷ kind_name kind
        by true stated h = let e : this ≡ kind = (cc) in hit (stated refl) ∙ ap (λ k. 32 ∷ kind_name k) e
        by false stated h = miss h

named : (name key : List ℕ) (x y : Option DocumentLine) (l : DocumentLine) (P : Type 0) → (name ≡ key → x ≡ Some l → P) → (y ≡ Some l → P) → cond (bytes_eq name key) x y ≡ Some l → P
named name key x y l P hit miss h = by (bytes_eq name key) (bytes_eq-Decides name key).0 h
  where
    by : (test : Bool) → (test ≡ true → name ≡ key) → cond test x y ≡ Some l → P
    by true stated h = hit (stated refl) h
    by false stated h = miss h

-- a line of one word
word-line : (limit : ℕ) (name key : List ℕ) (rest : Option (List ℕ)) (line l : DocumentLine) → line_bytes line ≡ key → IsLineInRange limit line → name ≡ key → alone line rest ≡ Some l → Spells limit (name ++ tail_of rest) l
word-line limit name key rest line l written range same h =
    let is = alone-is line rest l h in
    rw (← is.1) (ap (λ x. x ++ tail_of rest) same ∙ ap (λ x. key ++ x) is.0 ∙ append-nil key ∙ sym written, range)

-- a line of a word and numbers
list-line : (limit low high few many : ℕ) (name key : List ℕ) (rest : Option (List ℕ)) (f : List ℕ → DocumentLine) (l : DocumentLine) → high < 2 ^ 64 → ((ns : List ℕ) → line_bytes (f ns) ≡ key ++ after_blanks ns) →
    ((ns : List ℕ) → few ≤ length ns → length ns ≤ many → AreIn low high ns → IsLineInRange limit (f ns)) → name ≡ key → option_map f (if_count few many (numbers_in low high (words_in rest))) ≡ Some l → Spells limit (name ++ tail_of rest) l
list-line limit low high few many name key rest f l fits written range same h =
    let (ns, read, e) = map-is f (if_count few many (numbers_in low high (words_in rest))) l h in
    let is = list-is low high few many rest ns fits read in
    rw (← e) (ap (λ x. x ++ tail_of rest) same ∙ ap (λ x. key ++ x) is.0 ∙ sym (written ns), range ns is.1 is.2 is.3)

number-line : (limit low high : ℕ) (name key : List ℕ) (rest : Option (List ℕ)) (f : ℕ → DocumentLine) (l : DocumentLine) → high < 2 ^ 64 → ((n : ℕ) → line_bytes (f n) ≡ key ++ 32 ∷ decimal n) →
    ((n : ℕ) → low ≤ n → n ≤ high → IsLineInRange limit (f n)) → name ≡ key → option_map f (one_number low high rest) ≡ Some l → Spells limit (name ++ tail_of rest) l
number-line limit low high name key None f l fits written range same h = absurd (cc)
number-line limit low high name key (Some r) f l fits written range same h =
    let (n, read, e) = map-is f (number_in low high r) l h in
    let is = number-is low high n r fits read in
    rw (← e) (ap (λ x. x ++ 32 ∷ r) same ∙ ap (λ x. key ++ 32 ∷ x) is.0 ∙ sym (written n), range n is.1 is.2)

load-line : (limit : ℕ) (name : List ℕ) (rest : Option (List ℕ)) (l : DocumentLine) → name ≡ codes "U" → option_map (λ kind. OfTree (AtTerminal (Bounding (Load kind)))) (kind_in rest) ≡ Some l → Spells limit (name ++ tail_of rest) l
load-line limit name rest l same h =
    let (kind, read, e) = map-is (λ kind. OfTree (AtTerminal (Bounding (Load kind)))) (kind_in rest) l h in
    rw (← e) (ap (λ x. x ++ tail_of rest) same ∙ ap (λ x. codes "U" ++ x) (kind-is rest kind read), tt)

instruction-line : (limit : ℕ) (name : List ℕ) (rest : Option (List ℕ)) (l : DocumentLine) → name ≡ codes "I" → instruction_in rest ≡ Some l → Spells limit (name ++ tail_of rest) l
instruction-line limit name None l same h = absurd (cc)
instruction-line limit name (Some text) l same h =
    let got = cond_some (is_instruction_text text) (Instruction text) l h in
    rw (← got.1) (ap (λ x. x ++ 32 ∷ text) same, instruction-is text got.0)

header-line : (limit : ℕ) (name : List ℕ) (rest : Option (List ℕ)) (l : DocumentLine) → name ≡ codes "S66" → header_in rest ≡ Some l → Spells limit (name ++ tail_of rest) l
header-line limit name None l same h = absurd (cc)
header-line limit name (Some r) l same h =
    let P : Type 0 = Spells limit (name ++ 32 ∷ r) l in
    named r (codes "CERTIFICATE 1") _ _ l P (one BoundsAlone)
    (named r (codes "CERTIFICATE 2") _ _ l P (one EarlierNodes)
    (named r (codes "CERTIFICATE 3") _ _ l P (one StandingNodes)
    (named r (codes "CERTIFICATE 4") _ _ l P (one FactLines)
    (named r (codes "CERTIFICATE 5") _ _ l P (one Suppositions) (λ no. absurd (cc)))))) h
  where
    one : (v : Version) → r ≡ codes "CERTIFICATE " ++ (48 + version_number v) ∷ [] → Some (Header v) ≡ Some l → Spells limit (name ++ 32 ∷ r) l
    one v is read =
        let e : Header v ≡ l = (cc) in
        rw (← e) (ap (λ x. x ++ 32 ∷ r) same ∙ ap (λ x. codes "S66 " ++ x) is ∙ sym (ap (λ digit. codes "S66 CERTIFICATE " ++ digit) (version-digit v)), tt)

-- a line of a word and two numbers
pair-is : (f : ℕ → ℕ → DocumentLine) (o : Option (List ℕ)) (l : DocumentLine) → pair_with f o ≡ Some l → (n m : ℕ) × (o ≡ Some (n ∷ m ∷ [])) × (f n m ≡ l)
pair-is f None l h = absurd (cc)
pair-is f (Some []) l h = absurd (cc)
pair-is f (Some (n ∷ [])) l h = absurd (cc)
pair-is f (Some (n ∷ m ∷ [])) l h = (n, m, refl, (cc))
pair-is f (Some (n ∷ m ∷ k ∷ ns)) l h = absurd (cc)

pair-line : (limit : ℕ) (name key : List ℕ) (rest : Option (List ℕ)) (f : ℕ → ℕ → DocumentLine) (l : DocumentLine) → limit < 2 ^ 64 → ((n m : ℕ) → line_bytes (f n m) ≡ key ++ after_blanks (n ∷ m ∷ [])) →
    ((n m : ℕ) → AreIn 1 limit (n ∷ m ∷ []) → IsLineInRange limit (f n m)) → name ≡ key → pair_with f (two_numbers limit rest) ≡ Some l → Spells limit (name ++ tail_of rest) l
pair-line limit name key rest f l narrow written range same h =
    let (n, m, read, e) = pair-is f (two_numbers limit rest) l h in
    let is = list-is 1 limit 2 2 rest (n ∷ m ∷ []) narrow read in
    rw (← e) (ap (λ x. x ++ tail_of rest) same ∙ ap (λ x. key ++ x) is.0 ∙ sym (written n m), range n m is.3)

-- the line of a load
tail-is : (rest : Option (List ℕ)) (w : List ℕ) → word_in rest ≡ Some w → tail_of rest ≡ 32 ∷ (w ++ tail_of (rest_in rest))
tail-is None w h = absurd (cc)
tail-is (Some bytes) w h =
    let e : first_word bytes ≡ w = (cc) in
    ap (λ x. 32 ∷ x) (sym (joined bytes) ∙ ap (λ x. x ++ tail_of (after_first_word bytes)) e)

abbrev Stands : ℕ → Moment → List ℕ → Type 0
Stands limit m word = (word ≡ moment_text m) × (is_front m ≡ true) × (is_back m ≡ true) × IsMomentWithin limit m

issue-is : (limit b : ℕ) (digits : List ℕ) (m : Moment) → limit < 2 ^ 64 → b ≡ 73 → option_map (λ n. At n Issue) (number_in 1 limit digits) ≡ Some m → Stands limit m (b ∷ digits)
issue-is limit b digits m narrow letter h =
    let (n, read, e) = map-is (λ n. At n Issue) (number_in 1 limit digits) m h in
    let is = number-is 1 limit n digits narrow read in
    rw (← e, letter) (ap (λ x. 73 ∷ x) is.0, refl, refl, (is.1, is.2))

start-is : (limit b : ℕ) (digits : List ℕ) (m : Moment) → limit < 2 ^ 64 → b ≡ 83 → option_map (λ n. At n Start) (number_in 1 limit digits) ≡ Some m → Stands limit m (b ∷ digits)
start-is limit b digits m narrow letter h =
    let (n, read, e) = map-is (λ n. At n Start) (number_in 1 limit digits) m h in
    let is = number-is 1 limit n digits narrow read in
    rw (← e, letter) (ap (λ x. 83 ∷ x) is.0, refl, refl, (is.1, is.2))

stage-is : (limit : ℕ) (word : List ℕ) (m : Moment) → limit < 2 ^ 64 → stage_in limit word ≡ Some m → Stands limit m word
stage-is limit [] m narrow h = absurd (cc)
stage-is limit (b ∷ digits) m narrow h = first (eqb b 73) (eqb-true b 73) h
  where
    second : (test : Bool) → (test ≡ true → b ≡ 83) → cond test (option_map (λ n. At n Start) (number_in 1 limit digits)) None ≡ Some m → Stands limit m (b ∷ digits)
    second true stated h = start-is limit b digits m narrow (stated refl) h
    second false stated h = absurd (cc)

    first : (test : Bool) → (test ≡ true → b ≡ 73) → cond test (option_map (λ n. At n Issue) (number_in 1 limit digits)) (cond (eqb b 83) (option_map (λ n. At n Start) (number_in 1 limit digits)) None) ≡ Some m → Stands limit m (b ∷ digits)
    first true stated h = issue-is limit b digits m narrow (stated refl) h
    first false stated h = second (eqb b 83) (eqb-true b 83) h

-- a word that is read as a moment
abbrev Reads : ℕ → Moment → Bool → Option (List ℕ) → Type 0
Reads limit m may word = (word ≡ Some (moment_text m)) × (may ≡ true) × IsMomentWithin limit m

front-is : (limit : ℕ) (word : Option (List ℕ)) (m : Moment) → limit < 2 ^ 64 → front_in limit word ≡ Some m → Reads limit m (is_front m) word
front-is limit None m narrow h = absurd (cc)
front-is limit (Some w) m narrow h = by (bytes_eq w (codes "0")) (bytes_eq-Decides w (codes "0")).0 h
  where
    by : (test : Bool) → (test ≡ true → w ≡ codes "0") → cond test (Some Origin) (stage_in limit w) ≡ Some m → Reads limit m (is_front m) (Some w)
    by true stated h = let e : Origin ≡ m = (cc) in rw (← e) (ap Some (stated refl), refl, tt)
    by false stated h = let is = stage-is limit w m narrow h in (ap Some is.0, is.1, is.3)

back-is : (limit : ℕ) (word : Option (List ℕ)) (m : Moment) → limit < 2 ^ 64 → back_in limit word ≡ Some m → Reads limit m (is_back m) word
back-is limit None m narrow h = absurd (cc)
back-is limit (Some w) m narrow h = by (bytes_eq w (codes "END")) (bytes_eq-Decides w (codes "END")).0 h
  where
    by : (test : Bool) → (test ≡ true → w ≡ codes "END") → cond test (Some moment.End) (stage_in limit w) ≡ Some m → Reads limit m (is_back m) (Some w)
    by true stated h = let e : moment.End ≡ m = (cc) in rw (← e) (ap Some (stated refl), refl, tt)
    by false stated h = let is = stage-is limit w m narrow h in (ap Some is.0, is.2, is.3)

amount-is : (word : Option (List ℕ)) (n : ℕ) → one_number 0 TIME_LIMIT word ≡ Some n → (word ≡ Some (decimal n)) × (n ≤ TIME_LIMIT)
amount-is None n h = absurd (cc)
amount-is (Some w) n h = let is = number-is 0 TIME_LIMIT n w (omega arith) h in (ap Some is.0, is.2)

abbrev load_fact : Moment → Moment → ℕ → ℕ → List ℕ → DocumentLine
load_fact from to after wait numbers = OfFact (step.Fact (fact.Load (record { from = from; to = to; after = after; wait = wait; numbers = record { items = numbers } })))

record LoadParts (from to : Option Moment) (after wait : Option ℕ) (numbers : Option (List ℕ)) (l : DocumentLine) : Type 0 where
  e : Moment
  f : Moment
  h : ℕ
  w : ℕ
  ns : List ℕ
  from_is : from ≡ Some e
  to_is : to ≡ Some f
  after_is : after ≡ Some h
  wait_is : wait ≡ Some w
  numbers_are : numbers ≡ Some ns
  line_is : load_fact e f h w ns ≡ l

load-parts : (from to : Option Moment) (after wait : Option ℕ) (numbers : Option (List ℕ)) (l : DocumentLine) → load_with from to after wait numbers ≡ Some l → LoadParts from to after wait numbers l
load-parts (Some e) (Some f) (Some h) (Some w) (Some ns) l is = record { e = e; f = f; h = h; w = w; ns = ns; from_is = refl; to_is = refl; after_is = refl; wait_is = refl; numbers_are = refl; line_is = (cc) }
load-parts None to after wait numbers l is = absurd (cc)
load-parts (Some e) None after wait numbers l is = absurd (cc)
load-parts (Some e) (Some f) None wait numbers l is = absurd (cc)
load-parts (Some e) (Some f) (Some h) None numbers l is = absurd (cc)
load-parts (Some e) (Some f) (Some h) (Some w) None l is = absurd (cc)

fact-line : (limit : ℕ) (name : List ℕ) (rest : Option (List ℕ)) (l : DocumentLine) → limit < 2 ^ 64 → name ≡ codes "A" → load_in limit rest ≡ Some l → Spells limit (name ++ tail_of rest) l
fact-line limit name rest l narrow same h =
    let second = rest_in rest in
    let third = rest_in second in
    let fourth = rest_in third in
    let p = load-parts (front_in limit (word_in rest)) (back_in limit (word_in second)) (one_number 0 TIME_LIMIT (word_in third)) (one_number 0 TIME_LIMIT (word_in fourth)) (block_numbers limit (rest_in fourth)) l h in
    let front = front-is limit (word_in rest) p.e narrow p.from_is in
    let back = back-is limit (word_in second) p.f narrow p.to_is in
    let after = amount-is (word_in third) p.h p.after_is in
    let wait = amount-is (word_in fourth) p.w p.wait_is in
    let numbers = list-is 1 limit 1 limit (rest_in fourth) p.ns narrow p.numbers_are in
    let text : tail_of rest ≡ 32 ∷ (moment_text p.e ++ 32 ∷ (moment_text p.f ++ 32 ∷ (decimal p.h ++ 32 ∷ (decimal p.w ++ after_blanks p.ns)))) =
    tail-is rest (moment_text p.e) front.0
    ∙ ap (λ x. 32 ∷ (moment_text p.e ++ x)) (tail-is second (moment_text p.f) back.0
    ∙ ap (λ x. 32 ∷ (moment_text p.f ++ x)) (tail-is third (decimal p.h) after.0
    ∙ ap (λ x. 32 ∷ (decimal p.h ++ x)) (tail-is fourth (decimal p.w) wait.0 ∙ ap (λ x. 32 ∷ (decimal p.w ++ x)) numbers.0))) in
    rw (← p.line_is) (
      ap (λ x. x ++ tail_of rest) same ∙ ap (λ x. codes "A" ++ x) text ∙ ap (λ x. 65 ∷ 32 ∷ x) (sym (behind-both (moment_text p.e) (moment_text p.f) (after_blanks (p.h ∷ p.w ∷ p.ns)))),
      (
        record { front = (front.1, front.2); back = (back.1, back.2) },
        (omega arith, after.1, (omega arith, wait.1, tt)),
        (numbers.1, numbers.2, numbers.3),
      ),
    )

-- the line of a leaf of a load
load_from-parts : (after : Option ℕ) (numbers : Option (List ℕ)) (l : DocumentLine) → load_from_with after numbers ≡ Some l → (h : ℕ) × (ns : List ℕ) × (after ≡ Some h) × (numbers ≡ Some ns) × (OfTree (AtTerminal (Factual (LoadFrom h ns))) ≡ l)
load_from-parts (Some h) (Some ns) l is = (h, ns, refl, refl, (cc))
load_from-parts None numbers l is = absurd (cc)
load_from-parts (Some h) None l is = absurd (cc)

load_from-line : (limit : ℕ) (name : List ℕ) (rest : Option (List ℕ)) (l : DocumentLine) → limit < 2 ^ 64 → name ≡ codes "L" → load_from_in limit rest ≡ Some l → Spells limit (name ++ tail_of rest) l
load_from-line limit name rest l narrow same is =
    let (h, ns, after_is, numbers_are, line_is) = load_from-parts (one_number 0 TIME_LIMIT (word_in rest)) (block_numbers limit (rest_in rest)) l is in
    let after = amount-is (word_in rest) h after_is in
    let numbers = list-is 1 limit 1 limit (rest_in rest) ns narrow numbers_are in
    let text : tail_of rest ≡ 32 ∷ (decimal h ++ after_blanks ns) = tail-is rest (decimal h) after.0 ∙ ap (λ x. 32 ∷ (decimal h ++ x)) numbers.0 in
    rw (← line_is) (ap (λ x. x ++ tail_of rest) same ∙ ap (λ x. codes "L" ++ x) text, (after.1, (numbers.1, numbers.2, numbers.3)))

with-is : (limit : ℕ) (name : List ℕ) (rest : Option (List ℕ)) (l : DocumentLine) → limit < 2 ^ 64 → line_with limit name rest ≡ Some l → Spells limit (name ++ tail_of rest) l
with-is limit name rest l narrow h =
    let P : Type 0 = Spells limit (name ++ tail_of rest) l in
    named name (codes "T") _ _ l P (word-line limit name (codes "T") rest (OfTree (AtTerminal (Bounding Whole))) l refl tt)
    (named name (codes "S") _ _ l P (list-line limit 1 limit 1 limit name (codes "S") rest (λ ns. OfTree (AtSplit ns)) l narrow (λ ns. refl) (λ ns a b are. (a, b, are)))
    (named name (codes "C") _ _ l P (list-line limit 1 limit 1 limit name (codes "C") rest (λ ns. OfTree (AtTerminal (Bounding (Chain ns)))) l narrow (λ ns. refl) (λ ns a b are. (a, b, are)))
    (named name (codes "D") _ _ l P (list-line limit 1 limit 1 limit name (codes "D") rest (λ ns. OfTree (AtTerminal (Dominated ns))) l narrow (λ ns. refl) (λ ns a b are. (a, b, are)))
    (named name (codes "U") _ _ l P (load-line limit name rest l)
    (named name (codes "P") _ _ l P (word-line limit name (codes "P") rest (OfTree (AtTerminal (Bounding Parcels))) l refl tt)
    (named name (codes "E") _ _ l P (number-line limit 1 limit name (codes "E") rest (λ n. OfTree (AtTerminal (Factual (Next n)))) l narrow (λ n. refl) (λ n a b. (a, b, tt)))
    (named name (codes "R") _ _ l P (pair-line limit name (codes "R") rest (λ n m. OfTree (AtTerminal (Factual (Turned n m)))) l narrow (λ n m. refl) (λ n m are. are))
    (named name (codes "N") _ _ l P (number-line limit 1 LINE_LIMIT name (codes "N") rest (λ n. OfTree (AtTerminal (Factual (AtLine n)))) l (omega arith) (λ n. refl) (λ n a b. (a, b, tt)))
    (named name (codes "L") _ _ l P (load_from-line limit name rest l narrow)
    (named name (codes "F") _ _ l P (pair-line limit name (codes "F") rest (λ n m. OfFact (step.Fact (fact.Pair n m))) l narrow (λ n m. refl) (λ n m are. are))
    (named name (codes "A") _ _ l P (fact-line limit name rest l narrow)
    (named name (codes "B") _ _ l P (pair-line limit name (codes "B") rest (λ n m. OfFact (step.Suppose n m)) l narrow (λ n m. refl) (λ n m are. are))
    (named name (codes "Q") _ _ l P (word-line limit name (codes "Q") rest (OfFact step.Refuted) l refl tt)
    (named name (codes "I") _ _ l P (instruction-line limit name rest l)
    (named name (codes "S66") _ _ l P (header-line limit name rest l)
    (named name (codes "PROFILE") _ _ l P (list-line limit 1 PROFILE_LIMIT PROFILE_LENGTH PROFILE_LENGTH name (codes "PROFILE") rest Profile l (omega arith) (λ ns. refl) (λ ns a b are. (omega arith, are)))
    (named name (codes "BLOCK") _ _ l P (number-line limit 1 limit name (codes "BLOCK") rest Block l narrow (λ n. refl) (λ n a b. (a, b)))
    (named name (codes "TIME") _ _ l P (number-line limit 0 TIME_LIMIT name (codes "TIME") rest Time l (omega arith) (λ n. refl) (λ n a b. b))
    (named name (codes "BOUND") _ _ l P (number-line limit 0 TIME_LIMIT name (codes "BOUND") rest Bound l (omega arith) (λ n. refl) (λ n a b. b))
    (named name (codes "ORDER") _ _ l P (list-line limit 1 limit 1 limit name (codes "ORDER") rest Order l narrow (λ ns. refl) (λ ns a b are. (a, b, are)))
    (named name (codes "END") _ _ l P (word-line limit name (codes "END") rest End l refl tt) (λ no. absurd (cc))))))))))))))))))))))) h

pub line-is : (limit : ℕ) (bytes : List ℕ) (l : DocumentLine) → limit < 2 ^ 64 → line_read limit bytes ≡ Some l → (bytes ≡ line_bytes l) × IsLineInRange limit l
line-is limit bytes l narrow h = let is = with-is limit (first_word bytes) (after_first_word bytes) l narrow h in (sym (joined bytes) ∙ is.0, is.1)
