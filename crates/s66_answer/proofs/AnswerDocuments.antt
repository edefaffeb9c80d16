-- The document of an answer is a document, whose tree its lines determine.
use Rattle.std.proofs.Common.{ℕ, zero, suc, ◌+◌, ◌≤◌, ◌≡◌, Bool, true, false, not, if◌then◌else◌, List, [], ◌∷◌, ◌++◌, length, refl, sym, ap, arith, inl, inr, subst, ◌∙◌, None, map, ltb-true}
use Rattle.std.proofs.Common.{length-append, All, nat_lt}
use Rattle.std.proofs.lemmas.Bool.{and_parts}
use Rattle.std.proofs.lemmas.List.{length-map}
use Rattle.std.proofs.lemmas.List.Elements.{All-head, All-tail}
use Rattle.std.proofs.lemmas.List.Filters.{length-filter_both}
use Rattle.s66_isa.specs.{Instr, Profile, Among, rising, some_of, entries, numbers, BLOCK_LIMIT, PROFILE_LIMIT}
use Rattle.s66_isa.proofs.Lists.{least-le}
use Rattle.s66_isa.proofs.Profiles.{entries-in-range}
use Rattle.s66_model.specs.Answer.{Answer}
use Rattle.s66_model.specs.{IsAnswer, MayEnd, ending_values, Leaf, Whole, Chain, Load, Parcels, MayStand, IsWalk, link, floor, Completes, GoesOn, IsBeginning, IsIncomplete, IsLegal, is_ready, ready}
use Rattle.s66_model.specs.{Problem, next, points_of, row_at, Clamp, DominatesBy, clamp_at, no_clamp, Rule, NoneNamed, WrittenEarlier, ClampedStanding, Tree, Alone, Parted, Siblings, NoMore, Unsplit}
use Rattle.s66_model.specs.{Split, SiblingsHold, TreeHolds, Vertex, AtTerminal, AtSplit, flat, flat_siblings, splits, tree_values, Ending, Bounding, Dominated, Factual, DominatesByRule, EndingShows}
use Rattle.s66_model.specs.{MayBeDominated, ShowsBy, has_dominated_line}
use Rattle.s66_model.proofs.AnswerBound.{AreReady, answer-shown, split-ready}
use Rattle.s66_model.proofs.Beginnings.{beginning-front, length-rising}
use Rattle.s66_model.proofs.Dominating.{length-same}
use Rattle.s66_model.proofs.Floors.{floor-stands}
use Rattle.s66_model.proofs.Forests.{read-flat, tree-match}
use Rattle.s66_model.proofs.Growth.{total-le}
use Rattle.s66_model.proofs.LegalOrders.{legal-order, ready-parts}
use Rattle.s66_model.proofs.Remaining.{among-ready, legal-parts, ready-among, remaining-parts, rest-first, step-begins}
use Rattle.s66_line.specs.{instrs_of, text_of, Block}
use Rattle.s66_cert.specs.{SPLIT_LIMIT, TIME_LIMIT, AreIn, AreInstructions, AreNumbers, IsDocument, IsLeafLine, SiblingsFit, TreeFits, is_factual, has_dominated, has_factual, names_nodes, Parts}
use Rattle.s66_cert.specs.{AreWhole, document_of, tree_of_lines}
use Rattle.s66_answer.specs.{IsSpelled, document_under, rule_of, searched, texts_of}

-- RANGES

are-in : (low high : ℕ) (ns : List ℕ) → ((n : ℕ) → Among n ns → (low ≤ n) × (n ≤ high)) → AreIn low high ns
are-in low high [] within = tt
are-in low high (n ∷ ns) within =
    let first = within n (inl refl) in
    (first.0, first.1, are-in low high ns (λ m among. within m (inr among)))

pub all-in : (low high : ℕ) (ns : List ℕ) → All (λ n. (low ≤ n) × (n ≤ high)) ns → AreIn low high ns
all-in low high [] all = tt
all-in low high (n ∷ ns) all =
    let first = All-head (λ m. (low ≤ m) × (m ≤ high)) n ns all in
    (first.0, first.1, all-in low high ns (All-tail (λ m. (low ≤ m) × (m ≤ high)) n ns all))

not-empty : {X : Type 0} (x : X) (xs : List X) → Among x xs → 1 ≤ length xs
not-empty x [] h = absurd h
not-empty x (y ∷ xs) h = omega arith

some-ready : (block : List Instr) (prefix : List ℕ) → IsBeginning block prefix → IsIncomplete block prefix → (n : ℕ) × Among n (ready block prefix)
some-ready block prefix begins short =
    let (rest, legal) = beginning-front block prefix begins in
    let parts = legal-parts block prefix rest legal in
    let (n, more, e) = rest-first block prefix rest short parts.1.1 in
    let goes : Completes block prefix (n ∷ more) = subst (λ x. Completes block prefix x) e parts.1 in
    (n, among-ready block prefix n goes.0.0)

module _ (block : List Instr) (few : length block ≤ BLOCK_LIMIT) where
  ready-numbers : (prefix : List ℕ) → IsBeginning block prefix → IsIncomplete block prefix → AreNumbers BLOCK_LIMIT (ready block prefix)
  ready-numbers prefix begins short =
      let (n, among) = some-ready block prefix begins short in
      let both = length-filter_both (is_ready block prefix) (λ m. not (is_ready block prefix m)) (λ m. refl) (numbers block) in (
        not-empty n (ready block prefix) among,
        omega (arith, few, both, length-rising (length block) 1),
        are-in 1 BLOCK_LIMIT (ready block prefix)
            (λ m among. let parts = ready-parts block prefix m (ready-among block prefix m among) in (parts.0, omega (arith, parts.1, few))),
      )

  goes-in : (prefix ns : List ℕ) → GoesOn block prefix ns → AreIn 1 BLOCK_LIMIT ns
  goes-in prefix [] h = tt
  goes-in prefix (n ∷ ns) h =
      let parts = ready-parts block prefix n h.0 in
      (parts.0, omega (arith, parts.1, few), goes-in (prefix ++ n ∷ []) ns h.1)

  pub order-numbers : (order : List ℕ) → 1 ≤ length block → IsLegal block order → AreNumbers BLOCK_LIMIT order
  order-numbers order some legal =
      let whole = legal-order block order legal in
      (omega (arith, some, whole.1), omega (arith, few, whole.1), goes-in [] order whole.0)

-- the numbers of a walk rise
walk-in : (b : Problem) (prefix : List ℕ) (n : ℕ) (ns : List ℕ) → length b.block ≤ BLOCK_LIMIT → IsWalk b prefix n ns →
    (n + length ns ≤ length b.block) × AreIn 1 BLOCK_LIMIT (n ∷ ns)
walk-in b prefix n [] few h =
    let parts = remaining-parts b.block prefix n h in (omega (arith, parts.1), (parts.0, omega (arith, parts.1, few), tt))
walk-in b prefix n (m ∷ ms) few h =
    let parts = remaining-parts b.block prefix n h.0 in
    let above = ltb-true n m (and_parts (nat_lt n m) (nat_lt 0 (link (row_at b n) (row_at b m))) h.1).0 in
    let rest = walk-in b prefix m ms few h.2 in
    (omega (arith, above, rest.0), (parts.0, omega (arith, parts.1, few), rest.1))

-- LEAVES AND TREES

leaf-line : (b : Problem) (prefix : List ℕ) (leaf : Leaf) → length b.block ≤ BLOCK_LIMIT → MayStand b prefix leaf → IsLeafLine BLOCK_LIMIT (Bounding leaf)
leaf-line b prefix Whole few h = tt
leaf-line b prefix (Chain []) few h = absurd h.1
leaf-line b prefix (Chain (n ∷ ns)) few h =
    let walk = walk-in b prefix n ns few h.1 in (omega arith, omega (arith, walk.0, walk.1.0, few), walk.1)
leaf-line b prefix (Load kind) few h = tt
leaf-line b prefix Parcels few h = tt

module _ (b : Problem) (few : length b.block ≤ BLOCK_LIMIT) where
  floor-line : (prefix : List ℕ) (leaf : Leaf) → IsBeginning b.block prefix → leaf ≡ floor b prefix → IsLeafLine BLOCK_LIMIT (Bounding leaf)
  floor-line prefix leaf begins is = leaf-line b prefix leaf few (subst (λ x. MayStand b prefix x) (sym is) (floor-stands b prefix begins))

  -- a name has as many numbers as the prefix that it dominates
  name-numbers : (c : Clamp) (at name : List ℕ) → DominatesBy c b name at → IsIncomplete b.block at → 1 ≤ length at → AreNumbers BLOCK_LIMIT name
  name-numbers c at name dominates short some =
      let same = length-same b c name at dominates in
      (omega (arith, same, some), omega (arith, same, short, few), goes-in b.block few [] name dominates.other_begins)

  dominated-line : (rule : Rule) (at name : List ℕ) → DominatesByRule rule b name at → 1 ≤ length at → AreNumbers BLOCK_LIMIT name
  dominated-line NoneNamed at name h some = absurd h
  dominated-line WrittenEarlier at name h some = name-numbers no_clamp at name h.2.0 h.0 some
  dominated-line ClampedStanding at name h some = name-numbers (clamp_at (next (points_of b at))) at name h.1 h.0 some

  module _ (rule : Rule) (tree : Tree Ending) where
    ending-line : (prefix : List ℕ) (n : ℕ) (ending : Ending) → IsBeginning b.block (prefix ++ n ∷ []) → MayEnd rule b tree (prefix ++ n ∷ []) ending → IsLeafLine BLOCK_LIMIT ending
    ending-line prefix n (Bounding leaf) begins is = floor-line (prefix ++ n ∷ []) leaf begins is
    ending-line prefix n (Dominated name) begins is = dominated-line rule (prefix ++ n ∷ []) name is.0 (omega (arith, length-append prefix (n ∷ [])))
    ending-line prefix n (Factual leaf) begins is = absurd is

    siblings-fit : (siblings : Siblings Ending) (prefix ns : List ℕ) → SiblingsHold b.block (MayEnd rule b tree) prefix ns siblings → IsBeginning b.block prefix → AreReady b prefix ns → SiblingsFit BLOCK_LIMIT ns siblings
    siblings-fit NoMore prefix [] h begins are = tt
    siblings-fit NoMore prefix (n ∷ ns) h begins are = h
    siblings-fit (Unsplit ending siblings) prefix [] h begins are = h
    siblings-fit (Unsplit ending siblings) prefix (n ∷ ns) h begins are =
        (ending-line prefix n ending (step-begins b.block prefix n begins (are n (inl refl))) h.0, siblings-fit siblings prefix ns h.1 begins (λ m among. are m (inr among)))
    siblings-fit (Split numbers sub siblings) prefix [] h begins are = h
    siblings-fit (Split numbers sub siblings) prefix (n ∷ ns) h begins are =
        let longer = prefix ++ n ∷ [] in
        let begins2 : IsBeginning b.block longer = step-begins b.block prefix n begins (are n (inl refl)) in (
          subst (λ ms. AreNumbers BLOCK_LIMIT ms) (sym h.1) (ready-numbers b.block few longer begins2 h.0),
          siblings-fit sub longer numbers h.2 begins2 (split-ready b longer numbers h.1),
          siblings-fit siblings prefix ns h.3 begins (λ m among. are m (inr among)),
        )

  -- the empty prefix is dominated by none but itself, which is no standing node
  root-bounding : (rule : Rule) (name : List ℕ) → MayBeDominated rule b [] (Alone (Dominated name)) [] name → ⊥
  root-bounding NoneNamed name h = absurd h.0
  root-bounding WrittenEarlier [] h = absurd h.0.1
  root-bounding WrittenEarlier (n ∷ ns) h = absurd h.0.1
  root-bounding ClampedStanding [] h = absurd (cc)
  root-bounding ClampedStanding (n ∷ ns) h = absurd (cc)

  tree-fits : (rule : Rule) (tree : Tree Ending) → TreeHolds b.block (MayEnd rule b tree) [] tree → TreeFits BLOCK_LIMIT tree
  tree-fits rule (Alone (Bounding leaf)) h = floor-line [] leaf tt h
  tree-fits rule (Alone (Dominated name)) h = absurd (root-bounding rule name h)
  tree-fits rule (Alone (Factual leaf)) h = absurd h
  tree-fits rule (Parted numbers siblings) h =
      (subst (λ ms. AreNumbers BLOCK_LIMIT ms) (sym h.1) (ready-numbers b.block few [] tt h.0), siblings-fit rule (Parted numbers siblings) siblings [] numbers h.2 tt (split-ready b [] numbers h.1))

-- TREES WITHOUT DOMINATED LEAVES

dominated-parts : (vertices more : List (Vertex Ending)) → has_dominated_line (vertices ++ more) ≡ false → (has_dominated_line vertices ≡ false) × (has_dominated_line more ≡ false)
dominated-parts [] more h = (refl, h)
dominated-parts (AtTerminal (Bounding leaf) ∷ vertices) more h = dominated-parts vertices more h
dominated-parts (AtTerminal (Dominated name) ∷ vertices) more h = absurd (cc)
dominated-parts (AtTerminal (Factual leaf) ∷ vertices) more h = dominated-parts vertices more h
dominated-parts (AtSplit numbers ∷ vertices) more h = dominated-parts vertices more h

dominated-neither : (vertices more : List (Vertex Ending)) → has_dominated_line vertices ≡ false → has_dominated_line more ≡ false → has_dominated_line (vertices ++ more) ≡ false
dominated-neither [] more h none = none
dominated-neither (AtTerminal (Bounding leaf) ∷ vertices) more h none = dominated-neither vertices more h none
dominated-neither (AtTerminal (Dominated name) ∷ vertices) more h none = absurd (cc)
dominated-neither (AtTerminal (Factual leaf) ∷ vertices) more h none = dominated-neither vertices more h none
dominated-neither (AtSplit numbers ∷ vertices) more h none = dominated-neither vertices more h none

-- what holds at the terminals if none is dominated
module _ (block : List Instr) (Q R : List ℕ → Ending → Type 0) (each : (at : List ℕ) (ending : Ending) → has_dominated_line (AtTerminal ending ∷ []) ≡ false → Q at ending → R at ending) where
  siblings-bounding : (siblings : Siblings Ending) (prefix ns : List ℕ) → has_dominated_line (flat_siblings siblings) ≡ false → SiblingsHold block Q prefix ns siblings → SiblingsHold block R prefix ns siblings
  siblings-bounding NoMore prefix [] none h = tt
  siblings-bounding NoMore prefix (n ∷ ns) none h = absurd h
  siblings-bounding (Unsplit ending siblings) prefix [] none h = absurd h
  siblings-bounding (Unsplit ending siblings) prefix (n ∷ ns) none h =
      let parts = dominated-parts (AtTerminal ending ∷ []) (flat_siblings siblings) none in
      (each (prefix ++ n ∷ []) ending parts.0 h.0, siblings-bounding siblings prefix ns parts.1 h.1)
  siblings-bounding (Split numbers sub siblings) prefix [] none h = absurd h
  siblings-bounding (Split numbers sub siblings) prefix (n ∷ ns) none h =
      let parts = dominated-parts (flat_siblings sub) (flat_siblings siblings) none in
      (h.0, h.1, siblings-bounding sub (prefix ++ n ∷ []) numbers parts.0 h.2, siblings-bounding siblings prefix ns parts.1 h.3)

  tree-bounding : (tree : Tree Ending) → has_dominated tree ≡ false → TreeHolds block Q [] tree → TreeHolds block R [] tree
  tree-bounding (Alone ending) none h = each [] ending none h
  tree-bounding (Parted numbers siblings) none h = (h.0, h.1, siblings-bounding siblings [] numbers none h.2)

-- by the rule that names none, none is dominated
module _ (b : Problem) (tree : Tree Ending) where
  siblings-none : (siblings : Siblings Ending) (prefix ns : List ℕ) → SiblingsHold b.block (MayEnd NoneNamed b tree) prefix ns siblings → has_dominated_line (flat_siblings siblings) ≡ false
  siblings-none NoMore prefix ns h = refl
  siblings-none (Unsplit ending siblings) prefix [] h = absurd h
  siblings-none (Unsplit (Bounding leaf) siblings) prefix (n ∷ ns) h = siblings-none siblings prefix ns h.1
  siblings-none (Unsplit (Dominated name) siblings) prefix (n ∷ ns) h = absurd h.0.0
  siblings-none (Unsplit (Factual leaf) siblings) prefix (n ∷ ns) h = absurd h.0
  siblings-none (Split numbers sub siblings) prefix [] h = absurd h
  siblings-none (Split numbers sub siblings) prefix (n ∷ ns) h =
      dominated-neither (flat_siblings sub) (flat_siblings siblings) (siblings-none sub (prefix ++ n ∷ []) numbers h.2) (siblings-none siblings prefix ns h.3)

none-dominated : (b : Problem) (tree : Tree Ending) → TreeHolds b.block (MayEnd NoneNamed b tree) [] tree → has_dominated tree ≡ false
none-dominated b (Alone (Bounding leaf)) h = refl
none-dominated b (Alone (Dominated name)) h = absurd h.0
none-dominated b (Alone (Factual leaf)) h = absurd h
none-dominated b (Parted numbers siblings) h = siblings-none b (Parted numbers siblings) siblings [] numbers h.2

-- no leaf is one by facts
factual-neither : (vertices more : List (Vertex Ending)) → some_of is_factual vertices ≡ false → some_of is_factual more ≡ false → some_of is_factual (vertices ++ more) ≡ false
factual-neither [] more h none = none
factual-neither (AtTerminal (Bounding leaf) ∷ vertices) more h none = factual-neither vertices more h none
factual-neither (AtTerminal (Dominated name) ∷ vertices) more h none = factual-neither vertices more h none
factual-neither (AtTerminal (Factual leaf) ∷ vertices) more h none = absurd (cc)
factual-neither (AtSplit numbers ∷ vertices) more h none = factual-neither vertices more h none

module _ (rule : Rule) (b : Problem) (tree : Tree Ending) where
  siblings-plain : (siblings : Siblings Ending) (prefix ns : List ℕ) → SiblingsHold b.block (MayEnd rule b tree) prefix ns siblings → some_of is_factual (flat_siblings siblings) ≡ false
  siblings-plain NoMore prefix ns h = refl
  siblings-plain (Unsplit ending siblings) prefix [] h = absurd h
  siblings-plain (Unsplit (Bounding leaf) siblings) prefix (n ∷ ns) h = siblings-plain siblings prefix ns h.1
  siblings-plain (Unsplit (Dominated name) siblings) prefix (n ∷ ns) h = siblings-plain siblings prefix ns h.1
  siblings-plain (Unsplit (Factual leaf) siblings) prefix (n ∷ ns) h = absurd h.0
  siblings-plain (Split numbers sub siblings) prefix [] h = absurd h
  siblings-plain (Split numbers sub siblings) prefix (n ∷ ns) h =
      factual-neither (flat_siblings sub) (flat_siblings siblings) (siblings-plain sub (prefix ++ n ∷ []) numbers h.2) (siblings-plain siblings prefix ns h.3)

none-factual : (rule : Rule) (b : Problem) (tree : Tree Ending) → TreeHolds b.block (MayEnd rule b tree) [] tree → has_factual tree ≡ false
none-factual rule b (Alone (Bounding leaf)) h = refl
none-factual rule b (Alone (Dominated name)) h = refl
none-factual rule b (Alone (Factual leaf)) h = absurd h
none-factual rule b (Parted numbers siblings) h = siblings-plain rule b (Parted numbers siblings) siblings [] numbers h.2

-- the rule of a document names nodes if a leaf is dominated
rule-names : (rule : Rule) (b : Problem) (tree : Tree Ending) (dominated : Bool) → has_dominated tree ≡ dominated → TreeHolds b.block (MayEnd rule b tree) [] tree →
    names_nodes (if dominated then rule else NoneNamed) ≡ dominated
rule-names rule b tree false is h = refl
rule-names NoneNamed b tree true is h = sym (none-dominated b tree h) ∙ is
rule-names WrittenEarlier b tree true is h = refl
rule-names ClampedStanding b tree true is h = refl

-- the tree of an answer is that of its lines
pub answer-lines : (rule : Rule) (b : Problem) (budget : ℕ) (a : Answer) → IsAnswer rule b budget a → tree_of_lines (flat a.tree) ≡ a.tree
answer-lines rule b budget a is = read-flat (Bounding Whole) a.tree (tree-match b.block (MayEnd rule b a.tree) a.tree [] is.tree)

-- a leaf that isn't dominated shows the same by each rule
same-shown : (rule : Rule) (b : Problem) (low : ℕ) (tree : Tree Ending) (at : List ℕ) (ending : Ending) → has_dominated_line (AtTerminal ending ∷ []) ≡ false → EndingShows rule b low [] tree at ending →
    EndingShows NoneNamed b low [] tree at ending
same-shown rule b low tree at (Bounding leaf) none h = h
same-shown rule b low tree at (Dominated name) none h = absurd (cc)
same-shown rule b low tree at (Factual leaf) none h = h

-- by which the tree shows its bound
shows-by : (rule : Rule) (b : Problem) (low : ℕ) (tree : Tree Ending) (dominated : Bool) → has_dominated tree ≡ dominated → ShowsBy rule b low [] tree →
    ShowsBy (if dominated then rule else NoneNamed) b low [] tree
shows-by rule b low tree true is h = h
shows-by rule b low tree false is h = tree-bounding b.block (EndingShows rule b low [] tree) (EndingShows NoneNamed b low [] tree) (same-shown rule b low tree) tree is h

pub answer-shows : (rule : Rule) (b : Problem) (budget : ℕ) (a : Answer) → IsAnswer rule b budget a → ShowsBy (rule_of rule None a.tree) b a.bound [] a.tree
answer-shows rule b budget a is = shows-by rule b a.bound a.tree (has_dominated a.tree) refl (answer-shown floor-stands rule b budget a is)

-- TEXTS

pub texts-instructions : (block : Block) (count low : ℕ) → 1 ≤ low → low + count ≤ length (instrs_of block) + 1 → IsSpelled block → AreInstructions (map (text_of block) (rising count low))
texts-instructions block zero low least most spelled = tt
texts-instructions block (suc count) low least most spelled =
    (record { instr = _; is_text = spelled low least (omega (arith, most)) }, texts-instructions block count (suc low) (omega (arith, least)) (omega (arith, most)) spelled)

pub length-texts : (block : Block) → length (texts_of block) ≡ length (instrs_of block)
length-texts block = length-map (numbers (instrs_of block)) (text_of block) ∙ length-rising (length (instrs_of block)) 1

-- DOCUMENTS

pub bound-within : (rule : Rule) (b : Problem) (budget : ℕ) (a : Answer) → IsAnswer rule b budget a → a.bound ≤ a.time
bound-within rule b budget a is = omega (arith, is.bound, least-le (λ v. v) a.time (a.time ∷ tree_values (ending_values b) [] a.tree) (inl refl))

pub search-document : (rule : Rule) (p : Profile) (block : Block) (budget : ℕ) (a : Answer) → IsAnswer rule (record { block = instrs_of block; profile = p }) budget a → a.splits ≤ SPLIT_LIMIT →
    1 ≤ length (instrs_of block) → length (instrs_of block) ≤ BLOCK_LIMIT → IsSpelled block → IsDocument BLOCK_LIMIT (document_under rule p block (searched a))
search-document rule p block budget a is splits some few spelled =
    let b : Problem = record { block = instrs_of block; profile = p } in
    let in-range = entries-in-range p in
    let time : a.time ≤ TIME_LIMIT = omega (arith, is.time, total-le b a.order, (legal-order b.block a.order is.legal).1, few) in
    record {
      profile = (in-range.0, all-in 1 PROFILE_LIMIT (entries p) in-range.1);
      block = (omega (arith, length-texts block, some), omega (arith, length-texts block, few), texts-instructions block (length (instrs_of block)) 1 (omega arith) (omega arith) spelled);
      time = time;
      bound = omega (arith, bound-within rule b budget a is, time);
      numbers = order-numbers b.block few a.order some is.legal;
      tree = tree-fits b few rule a.tree is.tree;
      splits = omega (arith, is.splits, splits);
      facts = tt;
      leaves = (rule-names rule b a.tree (has_dominated a.tree) refl is.tree, none-factual rule b a.tree is.tree);
    }

-- PARTS

abbrev pub parts_under : Rule → Profile → Block → Answer → Parts
parts_under rule p block a =
    record { rule = rule_of rule None a.tree; facts = None; profile = entries p; block = texts_of block; time = a.time; bound = a.bound; numbers = a.order; vertices = flat a.tree }

pub parts-document : (rule : Rule) (p : Profile) (block : Block) (budget : ℕ) (a : Answer) → IsAnswer rule (record { block = instrs_of block; profile = p }) budget a →
    document_of (parts_under rule p block a) ≡ document_under rule p block (searched a)
parts-document rule p block budget a is =
    ap (λ tree. record (document_under rule p block (searched a)) { tree = tree }) (answer-lines rule (record { block = instrs_of block; profile = p }) budget a is)

pub parts-whole : (rule : Rule) (p : Profile) (block : Block) (budget : ℕ) (a : Answer) → IsAnswer rule (record { block = instrs_of block; profile = p }) budget a → a.splits ≤ SPLIT_LIMIT →
    1 ≤ length (instrs_of block) → length (instrs_of block) ≤ BLOCK_LIMIT → IsSpelled block → AreWhole (parts_under rule p block a)
parts-whole rule p block budget a is splits some few spelled =
    record {
      document = subst (IsDocument BLOCK_LIMIT) (sym (parts-document rule p block budget a is)) (search-document rule p block budget a is splits some few spelled);
      preorder = ap (λ (tree : Tree Ending). flat tree) (answer-lines rule (record { block = instrs_of block; profile = p }) budget a is);
    }

pub same-parts : (v w : Parts) → v.rule ≡ w.rule → v.facts ≡ w.facts → v.profile ≡ w.profile → v.block ≡ w.block → v.time ≡ w.time → v.bound ≡ w.bound → v.numbers ≡ w.numbers → v.vertices ≡ w.vertices → v ≡ w
same-parts v w rule facts profile block time bound numbers vertices =
    ap (λ x. record v { rule = x }) rule
    ∙ ap (λ x. record w { facts = x; profile = v.profile; block = v.block; time = v.time; bound = v.bound; numbers = v.numbers; vertices = v.vertices }) facts
    ∙ ap (λ x. record w { profile = x; block = v.block; time = v.time; bound = v.bound; numbers = v.numbers; vertices = v.vertices }) profile
    ∙ ap (λ x. record w { block = x; time = v.time; bound = v.bound; numbers = v.numbers; vertices = v.vertices }) block
    ∙ ap (λ x. record w { time = x; bound = v.bound; numbers = v.numbers; vertices = v.vertices }) time ∙ ap (λ x. record w { bound = x; numbers = v.numbers; vertices = v.vertices }) bound
    ∙ ap (λ x. record w { numbers = x; vertices = v.vertices }) numbers ∙ ap (λ x. record w { vertices = x }) vertices
