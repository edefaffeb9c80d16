-- Documents of blocks of a limit are documents of any greater limit, and no line of one has a newline.
use Rattle.std.proofs.Common.{Option, None, Some, ◌<◌, ◌≤◌, ◌^◌, ℕ, List, [], ◌∷◌, ◌++◌, map, refl, arith, codes, decimal}
use Rattle.s66_isa.specs.{after_blanks, Kind, Boolean, Shift, Add, LongAdd, Multiply, Divide, Increment, kind_name}
use Rattle.s66_model.specs.{Rule, Whole, Chain, Load, Parcels, Tree, Alone, Parted, Siblings, NoMore, Unsplit, Split, Vertex, AtTerminal, AtSplit, flat, flat_siblings, Ending, Bounding, Dominated}
use Rattle.s66_model.specs.{Factual, Next, Turned, AtLine, LoadFrom}
use Rattle.s66_moments.specs.{Issue, Start, Done, Free, Moment, Origin, At, FactLine, FactStep, IsMomentWithin}
use Rattle.s66_moments.specs.declared.moment.Moment.TheVariants as moment
use Rattle.s66_moments.specs.declared.fact_line.FactStep.TheVariants as step
use Rattle.s66_moments.specs.declared.fact_line.FactLine.TheVariants as fact
use Rattle.s66_line.proofs.NoLineEnds.{one-line}
use Rattle.s66_line.proofs.Wholes.{every-append}
use Rattle.s66_cert.specs.{Document, IsDocumentWithin, AreDocumentsWithin, IsTextWithin, AreIn, AreInstructions, AreNumbers, IsFactLine, IsFactStep, AreFactSteps, AreFacts, IsLeafLine, SiblingsFit}
use Rattle.s66_cert.specs.{TreeFits, moment_text, IsLine, HaveNoNewline, DocumentLine, Header, Profile, Block, Instruction, Time, Bound, Order, OfFact, OfTree, End, line_bytes, IsLineInRange, Version}
use Rattle.s66_cert.specs.{BoundsAlone, EarlierNodes, StandingNodes, FactLines, Suppositions, version, version_number}
use Rattle.s66_cert.proofs.DocumentLines.{documents_lines, document_lines, open_lines, instructions_of, steps_of, facts_of, vertices_of}
use Rattle.s66_cert.proofs.NumberTexts.{decimal-clear}

-- NO NEWLINE IN A LINE

decimal-line : (n : ℕ) → n < 2 ^ 64 → IsLine (decimal n)
decimal-line n h = decimal-clear 10 n (λ r. omega (arith, r.0)) h

after_blanks-line : (low high : ℕ) (ns : List ℕ) → high < 2 ^ 64 → AreIn low high ns → IsLine (after_blanks ns)
after_blanks-line low high [] fits are = refl
after_blanks-line low high (n ∷ ns) fits are = every-append _ (decimal n) (after_blanks ns) (decimal-line n (omega (arith, are.1))) (after_blanks-line low high ns fits are.2)

kind-line : (kind : Kind) → IsLine (kind_name kind)
kind-line Boolean = refl
kind-line Shift = refl
kind-line Add = refl
kind-line LongAdd = refl
kind-line Multiply = refl
kind-line Divide = refl
kind-line Increment = refl

version-narrow : (v : Version) → version_number v < 2 ^ 64
version-narrow BoundsAlone = omega arith
version-narrow EarlierNodes = omega arith
version-narrow StandingNodes = omega arith
version-narrow FactLines = omega arith
version-narrow Suppositions = omega arith

moment-line : (limit : ℕ) (m : Moment) → limit < 2 ^ 64 → IsMomentWithin limit m → IsLine (moment_text m)
moment-line limit Origin narrow is = refl
moment-line limit (At n Issue) narrow is = decimal-line n (omega (arith, narrow, is.1))
moment-line limit (At n Start) narrow is = decimal-line n (omega (arith, narrow, is.1))
moment-line limit (At n (Done x)) narrow is = refl
moment-line limit (At n Free) narrow is = refl
moment-line limit moment.End narrow is = refl

-- of these moments, amounts and numbers
load-line : (from to : List ℕ) (after wait : ℕ) (numbers : List ℕ) → IsLine from → IsLine to → after < 2 ^ 64 → wait < 2 ^ 64 → IsLine (after_blanks numbers) →
    IsLine (codes "A " ++ from ++ codes " " ++ to ++ after_blanks (after ∷ wait ∷ numbers))
load-line from to after wait numbers is_from is_to few_after few_wait are =
    let amounts : IsLine (after_blanks (after ∷ wait ∷ numbers)) = every-append _ (decimal after) (after_blanks (wait ∷ numbers)) (decimal-line after few_after) (every-append _ (decimal wait) (after_blanks numbers) (decimal-line wait few_wait) are) in
    every-append _ (from ++ codes " " ++ to) (after_blanks (after ∷ wait ∷ numbers)) (every-append _ (from ++ codes " ") to (every-append _ from (codes " ") is_from refl) is_to) amounts

pub is-line : (limit : ℕ) (l : DocumentLine) → limit < 2 ^ 64 → IsLineInRange limit l → IsLine (line_bytes l)
is-line limit (Header v) narrow is = decimal-line (version_number v) (version-narrow v)
is-line limit (Profile numbers) narrow is = after_blanks-line 1 100 numbers (omega arith) is.1
is-line limit (Block count) narrow is = decimal-line count (omega (arith, narrow, is.1))
is-line limit (Instruction text) narrow is = one-line text is
is-line limit (Time time) narrow is = decimal-line time (omega (arith, is))
is-line limit (Bound bound) narrow is = decimal-line bound (omega (arith, is))
is-line limit (Order numbers) narrow is = after_blanks-line 1 limit numbers narrow is.2
is-line limit (OfTree (AtTerminal (Bounding Whole))) narrow is = refl
is-line limit (OfTree (AtTerminal (Bounding (Chain numbers)))) narrow is = after_blanks-line 1 limit numbers narrow is.2
is-line limit (OfTree (AtTerminal (Bounding (Load kind)))) narrow is = kind-line kind
is-line limit (OfTree (AtTerminal (Bounding Parcels))) narrow is = refl
is-line limit (OfTree (AtTerminal (Dominated name))) narrow is = after_blanks-line 1 limit name narrow is.2
is-line limit (OfTree (AtTerminal (Factual (Next n)))) narrow is = decimal-line n (omega (arith, narrow, is.1))
is-line limit (OfTree (AtTerminal (Factual (Turned n m)))) narrow is = after_blanks-line 1 limit (n ∷ m ∷ []) narrow is
is-line limit (OfTree (AtTerminal (Factual (AtLine n)))) narrow is = decimal-line n (omega (arith, is.1))
is-line limit (OfTree (AtTerminal (Factual (LoadFrom after numbers)))) narrow is =
    every-append _ (decimal after) (after_blanks numbers) (decimal-line after (omega (arith, is.0))) (after_blanks-line 1 limit numbers narrow is.1.2)
is-line limit (OfFact (step.Suppose n m)) narrow is = after_blanks-line 1 limit (n ∷ m ∷ []) narrow is
is-line limit (OfFact step.Refuted) narrow is = refl
is-line limit (OfFact (step.Fact (fact.Pair n m))) narrow is = after_blanks-line 1 limit (n ∷ m ∷ []) narrow is
is-line limit (OfFact (step.Fact (fact.Load line))) narrow is =
    load-line (moment_text line.from) (moment_text line.to) line.after line.wait line.numbers.items (moment-line limit line.from narrow is.0.front.1) (moment-line limit line.to narrow is.0.back.1)
    (omega (arith, is.1.1)) (omega (arith, is.1.2.1)) (after_blanks-line 1 limit line.numbers.items narrow is.2.2)
is-line limit (OfTree (AtSplit numbers)) narrow is = after_blanks-line 1 limit numbers narrow is.2
is-line limit End narrow is = refl

-- ALL LINES OF A DOCUMENT

abbrev AreInRange : ℕ → List DocumentLine → Type 0
AreInRange limit [] = Unit {0}
AreInRange limit (l ∷ ls) = IsLineInRange limit l × AreInRange limit ls

range-append : (limit : ℕ) (xs ys : List DocumentLine) → AreInRange limit xs → AreInRange limit ys → AreInRange limit (xs ++ ys)
range-append limit [] ys h k = k
range-append limit (x ∷ xs) ys h k = (h.0, range-append limit xs ys h.1 k)

instructions-range : (limit : ℕ) (texts : List (List ℕ)) → AreInstructions texts → AreInRange limit (instructions_of texts)
instructions-range limit [] are = tt
instructions-range limit (text ∷ texts) are = (are.0, instructions-range limit texts are.1)

steps-range : (limit : ℕ) (steps : List FactStep) → AreFactSteps limit steps → AreInRange limit (steps_of steps)
steps-range limit [] are = tt
steps-range limit (s ∷ steps) are = (are.0, steps-range limit steps are.1)

facts-range : (limit : ℕ) (rule : Rule) (facts : Option (List FactStep)) → AreFacts limit rule facts → AreInRange limit (facts_of facts)
facts-range limit rule None are = tt
facts-range limit rule (Some steps) are = steps-range limit steps are.2

vertices-append : (limit : ℕ) (xs ys : List (Vertex Ending)) → AreInRange limit (vertices_of xs) → AreInRange limit (vertices_of ys) → AreInRange limit (vertices_of (xs ++ ys))
vertices-append limit [] ys h k = k
vertices-append limit (x ∷ xs) ys h k = (h.0, vertices-append limit xs ys h.1 k)

siblings-range : (limit : ℕ) (ns : List ℕ) (siblings : Siblings Ending) → SiblingsFit limit ns siblings → AreInRange limit (vertices_of (flat_siblings siblings))
siblings-range limit [] NoMore fits = tt
siblings-range limit [] (Unsplit leaf siblings) fits = absurd fits
siblings-range limit [] (Split numbers sub siblings) fits = absurd fits
siblings-range limit (n ∷ ns) NoMore fits = absurd fits
siblings-range limit (n ∷ ns) (Unsplit leaf siblings) fits = (fits.0, siblings-range limit ns siblings fits.1)
siblings-range limit (n ∷ ns) (Split numbers sub siblings) fits = (fits.0, vertices-append limit (flat_siblings sub) (flat_siblings siblings) (siblings-range limit numbers sub fits.1) (siblings-range limit ns siblings fits.2))

tree-range : (limit : ℕ) (tree : Tree Ending) → TreeFits limit tree → AreInRange limit (vertices_of (flat tree))
tree-range limit (Alone leaf) fits = (fits, tt)
tree-range limit (Parted numbers siblings) fits = (fits.0, siblings-range limit numbers siblings fits.1)

-- whatever the version at its head
open-range : (limit most : ℕ) (head : Version) (d : Document) → IsDocumentWithin limit most d → AreInRange limit (open_lines head d)
open-range limit most head d is =
    let tree : AreInRange limit (facts_of d.facts ++ vertices_of (flat d.tree)) = range-append limit (facts_of d.facts) (vertices_of (flat d.tree)) (facts-range limit d.rule d.facts is.facts) (tree-range limit d.tree is.tree) in
    (tt, (is.profile, ((is.block.0, is.block.1), range-append limit (instructions_of d.block) _ (instructions-range limit d.block is.block.2) (is.time, (is.bound, (is.numbers, tree))))))

document-range : (limit most : ℕ) (d : Document) → IsDocumentWithin limit most d → AreInRange limit (document_lines d)
document-range limit most d is = range-append limit (open_lines (version d.facts d.rule) d) (End ∷ []) (open-range limit most (version d.facts d.rule) d is) (tt, tt)

documents-range : (limit most : ℕ) (ds : List Document) → AreDocumentsWithin limit most ds → AreInRange limit (documents_lines ds)
documents-range limit most [] are = tt
documents-range limit most (d ∷ ds) are = range-append limit (document_lines d) (documents_lines ds) (document-range limit most d are.0) (documents-range limit most ds are.1)

range-lines : (limit : ℕ) (ls : List DocumentLine) → limit < 2 ^ 64 → AreInRange limit ls → HaveNoNewline (map line_bytes ls)
range-lines limit [] narrow are = tt
range-lines limit (l ∷ ls) narrow are = (is-line limit l narrow are.0, range-lines limit ls narrow are.1)

pub lines-of-open : (limit most : ℕ) (head : Version) (d : Document) → limit < 2 ^ 64 → IsDocumentWithin limit most d → HaveNoNewline (map line_bytes (open_lines head d))
lines-of-open limit most head d narrow is = range-lines limit (open_lines head d) narrow (open-range limit most head d is)

pub lines-of-documents : (limit most : ℕ) (ds : List Document) → limit < 2 ^ 64 → AreDocumentsWithin limit most ds → HaveNoNewline (map line_bytes (documents_lines ds))
lines-of-documents limit most ds narrow are = range-lines limit (documents_lines ds) narrow (documents-range limit most ds are)

-- A GREATER LIMIT

module _ (limit wide : ℕ) (wider : limit ≤ wide) where
  wide-in : (ns : List ℕ) → AreIn 1 limit ns → AreIn 1 wide ns
  wide-in [] are = tt
  wide-in (n ∷ ns) are = (are.0, omega (arith, are.1, wider), wide-in ns are.2)

  wide-numbers : (ns : List ℕ) → AreNumbers limit ns → AreNumbers wide ns
  wide-numbers ns are = (are.0, omega (arith, are.1, wider), wide-in ns are.2)

  wide-leaf : (ending : Ending) → IsLeafLine limit ending → IsLeafLine wide ending
  wide-leaf (Bounding Whole) is = tt
  wide-leaf (Bounding (Chain numbers)) is = wide-numbers numbers is
  wide-leaf (Bounding (Load kind)) is = tt
  wide-leaf (Bounding Parcels) is = tt
  wide-leaf (Dominated name) is = wide-numbers name is
  wide-leaf (Factual (Next number)) is = wide-in (number ∷ []) is
  wide-leaf (Factual (Turned first second)) is = wide-in (first ∷ second ∷ []) is
  wide-leaf (Factual (AtLine line)) is = is
  wide-leaf (Factual (LoadFrom after numbers)) is = (is.0, wide-numbers numbers is.1)

  wide-moment : (m : Moment) → IsMomentWithin limit m → IsMomentWithin wide m
  wide-moment Origin is = tt
  wide-moment (At n stage) is = (is.0, omega (arith, is.1, wider))
  wide-moment moment.End is = tt

  wide-fact : (line : FactLine) → IsFactLine limit line → IsFactLine wide line
  wide-fact (fact.Pair first second) is = wide-in (first ∷ second ∷ []) is
  wide-fact (fact.Load line) is =
      (record { front = (is.0.front.0, wide-moment line.from is.0.front.1); back = (is.0.back.0, wide-moment line.to is.0.back.1) }, is.1, wide-numbers line.numbers.items is.2)

  wide-step : (s : FactStep) → IsFactStep limit s → IsFactStep wide s
  wide-step (step.Fact line) is = wide-fact line is
  wide-step (step.Suppose first second) is = wide-in (first ∷ second ∷ []) is
  wide-step step.Refuted is = tt

  wide-steps : (steps : List FactStep) → AreFactSteps limit steps → AreFactSteps wide steps
  wide-steps [] are = tt
  wide-steps (s ∷ steps) are = (wide-step s are.0, wide-steps steps are.1)

  wide-facts : (rule : Rule) (facts : Option (List FactStep)) → AreFacts limit rule facts → AreFacts wide rule facts
  wide-facts rule None are = tt
  wide-facts rule (Some steps) are = (are.0, are.1, wide-steps steps are.2)

  wide-siblings : (ns : List ℕ) (siblings : Siblings Ending) → SiblingsFit limit ns siblings → SiblingsFit wide ns siblings
  wide-siblings [] NoMore fits = tt
  wide-siblings [] (Unsplit leaf siblings) fits = fits
  wide-siblings [] (Split numbers sub siblings) fits = fits
  wide-siblings (n ∷ ns) NoMore fits = fits
  wide-siblings (n ∷ ns) (Unsplit leaf siblings) fits = (wide-leaf leaf fits.0, wide-siblings ns siblings fits.1)
  wide-siblings (n ∷ ns) (Split numbers sub siblings) fits = (wide-numbers numbers fits.0, wide-siblings numbers sub fits.1, wide-siblings ns siblings fits.2)

  wide-tree : (tree : Tree Ending) → TreeFits limit tree → TreeFits wide tree
  wide-tree (Alone leaf) fits = wide-leaf leaf fits
  wide-tree (Parted numbers siblings) fits = (wide-numbers numbers fits.0, wide-siblings numbers siblings fits.1)

  pub wide-document : (most more : ℕ) (d : Document) → most ≤ more → IsDocumentWithin limit most d → IsDocumentWithin wide more d
  wide-document most more d le is =
      record {
        profile = is.profile;
        block = (is.block.0, omega (arith, is.block.1, wider), is.block.2);
        time = is.time;
        bound = is.bound;
        numbers = wide-numbers d.numbers is.numbers;
        tree = wide-tree d.tree is.tree;
        splits = omega (arith, is.splits, le);
        facts = wide-facts d.rule d.facts is.facts;
        leaves = is.leaves;
      }

  pub wide-documents : (most more : ℕ) (ds : List Document) → most ≤ more → AreDocumentsWithin limit most ds → AreDocumentsWithin wide more ds
  wide-documents most more [] le are = tt
  wide-documents most more (d ∷ ds) le are = (wide-document most more d le are.0, wide-documents most more ds le are.1)

  pub wide-text : (most : ℕ) (text : List ℕ) (ds : List Document) → IsTextWithin limit most text ds → IsTextWithin wide most text ds
  wide-text most text ds is = (wide-documents most most ds (omega arith) is.0, is.1)
