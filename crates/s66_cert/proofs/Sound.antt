-- What is read as documents is the text of these documents.
use Rattle.std.proofs.Common.{◌≡◌, ◌≤◌, ◌<◌, ◌+◌, ◌-◌, ◌&&◌, ◌||◌, ℕ, zero, suc, Bool, true, false, List, [], ◌∷◌, ◌++◌, inl, inr, length, map, Option, None, Some, is_some, refl, sym, ap, ◌∙◌, arith}
use Rattle.std.proofs.Common.{cond, leb, eqb, append_assoc, subst, length-append, eqb-true, leb-false, ltb-true, append-nil, Result, Ok, Err, option_map}
use Rattle.std.proofs.lemmas.Bool.{and_parts}
use Rattle.std.proofs.lemmas.List.{map-append}
use Rattle.s66_isa.specs.{every, BLOCK_LIMIT}
use Rattle.s66_isa.proofs.Lists.{every-append}
use Rattle.s66_model.specs.{Rule, NoneNamed, Whole, Tree, Alone, Parted, Siblings, NoMore, Unsplit, Split, Vertex, AtTerminal, AtSplit, flat_siblings, flat, sibling_splits, splits, Ending, Bounding}
use Rattle.s66_model.specs.{forest, first_tree, first_siblings, later_siblings}
use Rattle.s66_model.proofs.Forests.{flat-forest}
use Rattle.s66_moments.specs.{FactStep}
use Rattle.s66_line.specs.{IsInstruction, with_newlines}
use Rattle.s66_cert.specs.{Document, IsDocumentWithin, AreDocumentsWithin, AreNumbers, AreInstructions, IsFactStep, AreFactSteps, AreFacts, HasItsLeaves, IsLeafLine, SiblingsFit, TreeFits}
use Rattle.s66_cert.specs.{IsTextWithin, documents_text, IsOpenWithin, DocumentLine, Header, Profile, Block, Instruction, Time, Bound, Order, OfFact, OfTree, End, line_bytes, IsLineInRange, line_read}
use Rattle.s66_cert.specs.{Parts, document_of, tree_of_lines, nothing, headed, first_facts, is_step_of, wants_supposition, DocumentState, first_state, place_of_instruction, place_of_tree, with_vertex}
use Rattle.s66_cert.specs.{is_leaf_of, has_room, takes_fact, with_fact, fact_step, wants_dominated, vertex_step, step_at, step_if, step, and_then, steps, ended, is_header, read_within, whole_lines}
use Rattle.s66_cert.specs.{last_bytes, Version, BoundsAlone, may_suppose, Leave, split_count, AreOfVersion, HasProfile, HasTree, IsPart, IsFine, FACT_LIMIT, CertError, BadLine, Truncated}
use Rattle.s66_cert.specs.{TooManyNodes, DocumentPlace, AtHeader, AtProfile, AtBlock, AtInstruction, AtTime, AtBound, AtOrder, AtTree, AtEnd}
use Rattle.s66_cert.proofs.DocumentLines.{open_lines, document_lines, documents_lines, instructions_of, steps_of, facts_of, vertices_of}
use Rattle.s66_cert.proofs.LineTexts.{line-is}
use Rattle.s66_cert.proofs.DominatedLines.{AreAllowed, leaves-whole, leaves-open}
use Rattle.s66_cert.proofs.Heads.{version-is, head-own, head-plain, headed-fit, anew-fit, supposed-more}
use Rattle.s66_cert.proofs.TextLines.{cut, documents-text}
use Rattle.s66_cert.proofs.States.{at, place-instruction, place-tree}

-- TREES TO COME

leave-terminal : (n left : ℕ) (vertices : List (Vertex Ending)) (leaf : Ending) → IsLeafLine BLOCK_LIMIT leaf → Leave n vertices (suc left) → Leave n (vertices ++ AtTerminal leaf ∷ []) left
leave-terminal zero left [] leaf is h = absurd (omega (arith, h))
leave-terminal (suc n) left [] leaf is h = (is, omega (arith, h))
leave-terminal zero left (AtTerminal other ∷ vertices) leaf is h = absurd h
leave-terminal zero left (AtSplit numbers ∷ vertices) leaf is h = absurd h
leave-terminal (suc n) left (AtTerminal other ∷ vertices) leaf is h = (h.0, leave-terminal n left vertices leaf is h.1)
leave-terminal (suc n) left (AtSplit numbers ∷ vertices) leaf is h = (h.0, leave-terminal (length numbers + n) left vertices leaf is h.1)

leave-split : (n left to : ℕ) (vertices : List (Vertex Ending)) (numbers : List ℕ) → AreNumbers BLOCK_LIMIT numbers → Leave n vertices (suc left) → to ≡ length numbers + left → Leave n (vertices ++ AtSplit numbers ∷ []) to
leave-split zero left to [] numbers is h e = absurd (omega (arith, h))
leave-split (suc n) left to [] numbers is h e = (is, omega (arith, h))
leave-split zero left to (AtTerminal other ∷ vertices) numbers is h e = absurd h
leave-split zero left to (AtSplit others ∷ vertices) numbers is h e = absurd h
leave-split (suc n) left to (AtTerminal other ∷ vertices) numbers is h e = (h.0, leave-split n left to vertices numbers is h.1 e)
leave-split (suc n) left to (AtSplit others ∷ vertices) numbers is h e = (h.0, leave-split (length others + n) left to vertices numbers is h.1 e)

-- THE TREE OF ALL ITS LINES

-- the front of trees that fit
fit-cut : (ns ms : List ℕ) (siblings : Siblings Ending) → SiblingsFit BLOCK_LIMIT (ns ++ ms) siblings → SiblingsFit BLOCK_LIMIT ns (first_siblings ns siblings) × SiblingsFit BLOCK_LIMIT ms (later_siblings ns siblings)
fit-cut [] ms siblings h = (tt, h)
fit-cut (n ∷ ns) ms NoMore h = absurd h
fit-cut (n ∷ ns) ms (Unsplit leaf siblings) h = let rest = fit-cut ns ms siblings h.1 in ((h.0, rest.0), rest.1)
fit-cut (n ∷ ns) ms (Split numbers sub siblings) h = let rest = fit-cut ns ms siblings h.2 in ((h.0, h.1, rest.0), rest.1)

forest-fits : (n : ℕ) (ms : List ℕ) (vertices : List (Vertex Ending)) → Leave n vertices 0 → length ms ≡ n → SiblingsFit BLOCK_LIMIT ms (forest vertices)
forest-fits n [] [] h e = tt
forest-fits n (m ∷ ms) [] h e = absurd (omega (arith, h))
forest-fits zero ms (AtTerminal leaf ∷ vertices) h e = absurd h
forest-fits zero ms (AtSplit numbers ∷ vertices) h e = absurd h
forest-fits (suc n) [] (AtTerminal leaf ∷ vertices) h e = absurd (omega arith)
forest-fits (suc n) [] (AtSplit numbers ∷ vertices) h e = absurd (omega arith)
forest-fits (suc n) (m ∷ ms) (AtTerminal leaf ∷ vertices) h e = (h.0, forest-fits n ms vertices h.1 (omega arith))
forest-fits (suc n) (m ∷ ms) (AtSplit numbers ∷ vertices) h e =
    let all : SiblingsFit BLOCK_LIMIT (numbers ++ ms) (forest vertices) = forest-fits (length numbers + n) (numbers ++ ms) vertices h.1 (omega (arith, length-append {A = ℕ} numbers ms)) in
    let both = fit-cut numbers ms (forest vertices) all in
    (h.0, both.0, both.1)

count-append : (xs ys : List (Vertex Ending)) → split_count (xs ++ ys) ≡ split_count xs + split_count ys
count-append [] ys = omega arith
count-append (AtTerminal leaf ∷ xs) ys = count-append xs ys
count-append (AtSplit numbers ∷ xs) ys = omega (arith, count-append xs ys)

siblings-count : (siblings : Siblings Ending) → split_count (flat_siblings siblings) ≡ sibling_splits siblings
siblings-count NoMore = refl
siblings-count (Unsplit leaf siblings) = siblings-count siblings
siblings-count (Split numbers sub siblings) = omega (arith, count-append (flat_siblings sub) (flat_siblings siblings), siblings-count sub, siblings-count siblings)

tree-count : (tree : Tree Ending) → split_count (flat tree) ≡ splits tree
tree-count (Alone leaf) = refl
tree-count (Parted numbers siblings) = omega (arith, siblings-count siblings)

-- one tree
one-tree : (siblings : Siblings Ending) (m : ℕ) → SiblingsFit BLOCK_LIMIT (m ∷ []) siblings → (flat (first_tree (Alone (Bounding Whole)) siblings) ≡ flat_siblings siblings) × TreeFits BLOCK_LIMIT (first_tree (Alone (Bounding Whole)) siblings)
one-tree NoMore m h = absurd h
one-tree (Unsplit leaf NoMore) m h = (refl, h.0)
one-tree (Unsplit leaf (Unsplit other siblings)) m h = absurd h.1
one-tree (Unsplit leaf (Split numbers sub siblings)) m h = absurd h.1
one-tree (Split numbers sub NoMore) m h = (ap (λ x. AtSplit numbers ∷ x) (sym (append-nil (flat_siblings sub))), (h.0, h.1))
one-tree (Split numbers sub (Unsplit other siblings)) m h = absurd h.2
one-tree (Split numbers sub (Split others more siblings)) m h = absurd h.2

pub whole-tree : (vertices : List (Vertex Ending)) → Leave 1 vertices 0 → (flat (tree_of_lines vertices) ≡ vertices) × TreeFits BLOCK_LIMIT (tree_of_lines vertices) × (splits (tree_of_lines vertices) ≡ split_count vertices)
whole-tree vertices h =
    let one = one-tree (forest vertices) 0 (forest-fits 1 (0 ∷ []) vertices h refl) in
    let flat-is : flat (tree_of_lines vertices) ≡ vertices = one.0 ∙ flat-forest vertices in
    (flat-is, one.1, sym (tree-count (tree_of_lines vertices)) ∙ ap split_count flat-is)

-- WHAT WAS READ OF A DOCUMENT

abbrev heading_lines : Version → Parts → ℕ → List DocumentLine → List DocumentLine
heading_lines version o count more = Header version ∷ Profile o.profile ∷ Block count ∷ (instructions_of o.block ++ more)

-- the lines of the open document
abbrev pub part_lines : Version → DocumentPlace → Parts → ℕ → List DocumentLine
part_lines version AtHeader o left = []
part_lines version AtProfile o left = Header version ∷ []
part_lines version AtBlock o left = Header version ∷ Profile o.profile ∷ []
part_lines version AtInstruction o left = heading_lines version o (length o.block + left) []
part_lines version AtTime o left = heading_lines version o (length o.block) []
part_lines version AtBound o left = heading_lines version o (length o.block) (Time o.time ∷ [])
part_lines version AtOrder o left = heading_lines version o (length o.block) (Time o.time ∷ Bound o.bound ∷ [])
part_lines version AtTree o left = heading_lines version o (length o.block) (Time o.time ∷ Bound o.bound ∷ Order o.numbers ∷ (facts_of o.facts ++ vertices_of o.vertices))
part_lines version AtEnd o left = heading_lines version o (length o.block) (Time o.time ∷ Bound o.bound ∷ Order o.numbers ∷ (facts_of o.facts ++ vertices_of o.vertices))

-- ONE LINE MORE

record Sounds (most : ℕ) (s t : DocumentState) (l : DocumentLine) : Type 0 where
  documents : AreDocumentsWithin BLOCK_LIMIT most t.documents
  part : IsPart most t.version t.place t.part t.left t.splits
  lines : documents_lines t.documents ++ part_lines t.version t.place t.part t.left ≡ (documents_lines s.documents ++ part_lines s.version s.place s.part s.left) ++ l ∷ []

instructions-more : (texts : List (List ℕ)) (text : List ℕ) (more : List DocumentLine) → instructions_of (texts ++ text ∷ []) ++ more ≡ instructions_of texts ++ Instruction text ∷ more
instructions-more [] text more = refl
instructions-more (other ∷ texts) text more = ap (λ x. Instruction other ∷ x) (instructions-more texts text more)

vertices-more : (vertices : List (Vertex Ending)) (vertex : Vertex Ending) → vertices_of (vertices ++ vertex ∷ []) ≡ vertices_of vertices ++ OfTree vertex ∷ []
vertices-more [] vertex = refl
vertices-more (other ∷ vertices) vertex = ap (λ x. OfTree other ∷ x) (vertices-more vertices vertex)

texts-more : (texts : List (List ℕ)) (text : List ℕ) → AreInstructions texts → IsInstruction text → AreInstructions (texts ++ text ∷ [])
texts-more [] text are is = (is, tt)
texts-more (other ∷ texts) text are is = (are.0, texts-more texts text are.1 is)

-- the heading with one line more after it
heading-more : (version : Version) (o : Parts) (count : ℕ) (more : List DocumentLine) (l : DocumentLine) → heading_lines version o count (more ++ l ∷ []) ≡ heading_lines version o count more ++ l ∷ []
heading-more version o count more l = ap (λ x. Header version ∷ Profile o.profile ∷ Block count ∷ x) (sym (append_assoc (instructions_of o.block) more (l ∷ [])))

-- the documents are the same
same-documents : (most : ℕ) (s t : DocumentState) (l : DocumentLine) → AreDocumentsWithin BLOCK_LIMIT most s.documents → t.documents ≡ s.documents → IsPart most t.version t.place t.part t.left t.splits →
    part_lines t.version t.place t.part t.left ≡ part_lines s.version s.place s.part s.left ++ l ∷ [] → Sounds most s t l
same-documents most s t l are same is more =
    record {
      documents = subst (λ (ds : List Document). AreDocumentsWithin BLOCK_LIMIT most ds) (sym same) are;
      part = is;
      lines = ap (λ (ds : List Document). documents_lines ds ++ part_lines t.version t.place t.part t.left) same
          ∙ ap (λ (x : List DocumentLine). documents_lines s.documents ++ x) more ∙ sym (append_assoc (documents_lines s.documents) (part_lines s.version s.place s.part s.left) (l ∷ []));
    }

instruction-sound : (most : ℕ) (version : Version) (count : ℕ) (documents : List Document) (part : Parts) (left splits : ℕ) (text : List ℕ) → IsInstruction text → AreDocumentsWithin BLOCK_LIMIT most documents →
    IsPart most version AtInstruction part left splits →
    Sounds most (at version count documents AtInstruction part left splits) (at version (suc count) documents (place_of_instruction (left - 1)) (record part { block = part.block ++ text ∷ [] }) (left - 1) 0) (Instruction text)
instruction-sound most version count documents part zero splits text is are h = absurd (omega (arith, h.1))
instruction-sound most version count documents part (suc zero) splits text is are h =
    let counted : length (part.block ++ text ∷ []) ≡ length part.block + 1 = length-append part.block (text ∷ []) in
    let less : 1 - 1 ≡ 0 = refl in
    same-documents most (at version count documents AtInstruction part 1 splits) (at version (suc count) documents AtTime (record part { block = part.block ++ text ∷ [] }) 0 0) (Instruction text) are refl
    (h.0, omega (arith, counted), omega (arith, counted, h.2), texts-more part.block text h.3 is)
    (ap (λ n. heading_lines version (record part { block = part.block ++ text ∷ [] }) n []) counted ∙ ap (λ x. Header version ∷ Profile part.profile ∷ Block (length part.block + 1) ∷ x) (instructions-more part.block text []) ∙ heading-more version part (length part.block + 1) [] (Instruction text))
instruction-sound most version count documents part (suc (suc left)) splits text is are h =
    let counted : length (part.block ++ text ∷ []) ≡ length part.block + 1 = length-append part.block (text ∷ []) in
    let sum : length (part.block ++ text ∷ []) + suc left ≡ length part.block + suc (suc left) = omega (arith, counted) in
    let less : suc (suc left) - 1 ≡ suc left = omega arith in
    rw less (rw (place-instruction left) (same-documents most (at version count documents AtInstruction part (suc (suc left)) splits) (at version (suc count) documents AtInstruction (record part { block = part.block ++ text ∷ [] }) (suc left) 0) (Instruction text) are refl
    (h.0, omega arith, omega (arith, sum, h.2), texts-more part.block text h.3 is)
    (ap (λ n. heading_lines version (record part { block = part.block ++ text ∷ [] }) n []) sum ∙ ap (λ x. Header version ∷ Profile part.profile ∷ Block (length part.block + suc (suc left)) ∷ x) (instructions-more part.block text []) ∙ heading-more version part (length part.block + suc (suc left)) [] (Instruction text))))

-- a line of the tree, after which this many trees are to come
tree-sound : (most : ℕ) (version : Version) (count : ℕ) (documents : List Document) (part : Parts) (left to splits after : ℕ) (vertex : Vertex Ending) → AreDocumentsWithin BLOCK_LIMIT most documents → IsPart most version AtTree part left splits →
    Leave 1 (part.vertices ++ vertex ∷ []) to → after ≡ split_count (part.vertices ++ vertex ∷ []) → after ≤ most → is_leaf_of part vertex ≡ true →
    Sounds most (at version count documents AtTree part left splits) (at version (suc count) documents (place_of_tree to) (with_vertex part vertex) to after) (OfTree vertex)
tree-sound most version count documents part left to splits after vertex are h leave counted few allowed =
    let front : List DocumentLine = Time part.time ∷ Bound part.bound ∷ Order part.numbers ∷ (facts_of part.facts ++ vertices_of part.vertices) in
    let more : heading_lines version (with_vertex part vertex) (length part.block) (Time part.time ∷ Bound part.bound ∷ Order part.numbers ∷ (facts_of part.facts ++ vertices_of (part.vertices ++ vertex ∷ []))) ≡ heading_lines version part (length part.block) front ++ OfTree vertex ∷ [] =
    ap (λ x. heading_lines version part (length part.block) (Time part.time ∷ Bound part.bound ∷ Order part.numbers ∷ (facts_of part.facts ++ x))) (vertices-more part.vertices vertex)
    ∙ ap (λ x. heading_lines version part (length part.block) (Time part.time ∷ Bound part.bound ∷ Order part.numbers ∷ x)) (sym (append_assoc (facts_of part.facts) (vertices_of part.vertices) (OfTree vertex ∷ [])))
    ∙ heading-more version part (length part.block) front (OfTree vertex) in
    let has : HasTree most version (with_vertex part vertex) to after = (h.1.0, h.1.1, h.1.2, h.1.3, leave, counted, few, every-append (is_leaf_of part) part.vertices (vertex ∷ []) h.1.7 (rw allowed refl)) in
    by to has more
  where
    by : (to : ℕ) → HasTree most version (with_vertex part vertex) to after → part_lines version AtTree (with_vertex part vertex) to ≡ part_lines version AtTree part left ++ OfTree vertex ∷ [] →
        Sounds most (at version count documents AtTree part left splits) (at version (suc count) documents (place_of_tree to) (with_vertex part vertex) to after) (OfTree vertex)
    by zero has more = same-documents most (at version count documents AtTree part left splits) (at version (suc count) documents AtEnd (with_vertex part vertex) 0 after) (OfTree vertex) are refl has more
    by (suc to) has more =
        rw (place-tree to) (same-documents most (at version count documents AtTree part left splits) (at version (suc count) documents AtTree (with_vertex part vertex) (suc to) after) (OfTree vertex) are refl (omega arith, has) more)

chosen-true : {X : Type 0} (test : Bool) (e : CertError) (x y : X) → cond test (Ok x) (Err e) ≡ Ok y → (test ≡ true) × (x ≡ y)
chosen-true true e x y h = (refl, (cc))
chosen-true false e x y h = absurd (cc)

chosen-false : {X : Type 0} (test : Bool) (e : CertError) (x y : X) → cond test (Err e) (Ok x) ≡ Ok y → (test ≡ false) × (x ≡ y)
chosen-false true e x y h = absurd (cc)
chosen-false false e x y h = (refl, (cc))

vertex-sound : (most : ℕ) (version : Version) (count : ℕ) (documents : List Document) (part : Parts) (left splits : ℕ) (t : DocumentState) (vertex : Vertex Ending) → IsLineInRange BLOCK_LIMIT (OfTree vertex) → AreDocumentsWithin BLOCK_LIMIT most documents → IsPart most version AtTree part left splits →
    vertex_step most (at version count documents AtTree part left splits) vertex ≡ Ok t → Sounds most (at version count documents AtTree part left splits) t (OfTree vertex)
vertex-sound most version count documents part zero splits t vertex is are h made = absurd (omega (arith, h.0))
vertex-sound most version count documents part (suc left) splits t (AtTerminal leaf) is are h made =
    let less : suc left - 1 ≡ left = omega arith in
    let got = chosen-true (is_leaf_of part (AtTerminal leaf)) (BadLine (suc count)) (at version (suc count) documents (place_of_tree (suc left - 1)) (with_vertex part (AtTerminal leaf)) (suc left - 1) splits) t made in
    let leave : Leave 1 (part.vertices ++ AtTerminal leaf ∷ []) left = leave-terminal 1 left part.vertices leaf is h.1.4 in
    subst (λ (u : DocumentState). Sounds most (at version count documents AtTree part (suc left) splits) u (OfTree (AtTerminal leaf))) got.1
    (rw less (tree-sound most version count documents part (suc left) left splits splits (AtTerminal leaf) are h leave (omega (arith, count-append part.vertices (AtTerminal leaf ∷ []), h.1.5)) h.1.6 got.0))
vertex-sound most version count documents part (suc left) splits t (AtSplit numbers) is are h made =
    let got = chosen-false (leb most splits) TooManyNodes (at version (suc count) documents (place_of_tree (suc left - 1 + length numbers)) (with_vertex part (AtSplit numbers)) (suc left - 1 + length numbers) (suc splits)) t made in
    let few : splits < most = leb-false most splits got.0 in
    let leave : Leave 1 (part.vertices ++ AtSplit numbers ∷ []) (suc left - 1 + length numbers) = leave-split 1 left (suc left - 1 + length numbers) part.vertices numbers is h.1.4 (omega arith) in
    subst (λ (u : DocumentState). Sounds most (at version count documents AtTree part (suc left) splits) u (OfTree (AtSplit numbers))) got.1
    (tree-sound most version count documents part (suc left) (suc left - 1 + length numbers) splits (suc splits) (AtSplit numbers) are h leave (omega (arith, count-append part.vertices (AtSplit numbers ∷ []), h.1.5)) (omega arith) refl)

-- FACT LINES

steps-more : (steps : List FactStep) (step : FactStep) → steps_of (steps ++ step ∷ []) ≡ steps_of steps ++ OfFact step ∷ []
steps-more [] step = refl
steps-more (other ∷ steps) step = ap (λ x. OfFact other ∷ x) (steps-more steps step)

steps-fit : (steps : List FactStep) (step : FactStep) → AreFactSteps BLOCK_LIMIT steps → IsFactStep BLOCK_LIMIT step → AreFactSteps BLOCK_LIMIT (steps ++ step ∷ [])
steps-fit [] step are is = (is, tt)
steps-fit (other ∷ steps) step are is = (are.0, steps-fit steps step are.1 is)

-- with one more, for which there is room
abbrev more_facts : Option (List FactStep) → FactStep → Option (List FactStep)
more_facts facts step = option_map (λ steps. steps ++ step ∷ []) facts

facts-more : (facts : Option (List FactStep)) (step : FactStep) → has_room facts ≡ true → facts_of (more_facts facts step) ≡ facts_of facts ++ OfFact step ∷ []
facts-more None step room = absurd (cc)
facts-more (Some steps) step room = steps-more steps step

facts-fit-more : (version : Version) (rule : Rule) (facts : Option (List FactStep)) (step : FactStep) → has_room facts ≡ true → is_step_of version step ≡ true → AreOfVersion version rule facts → IsFactStep BLOCK_LIMIT step →
    AreOfVersion version rule (more_facts facts step)
facts-fit-more version rule None step room comes are is = absurd (cc)
facts-fit-more version rule (Some steps) step room comes are is =
    record {
      ruled = are.ruled;
      some = are.some;
      fit = (are.fit.0, omega (arith, ltb-true (length steps) FACT_LIMIT room, length-append steps (step ∷ [])), steps-fit steps step are.fit.2 is);
      supposed = λ has. supposed-more (may_suppose version) steps step are.supposed comes has;
    }

no-vertices : (vertices : List (Vertex Ending)) → eqb (length vertices) 0 ≡ true → vertices ≡ []
no-vertices [] h = refl
no-vertices (vertex ∷ vertices) h = absurd (let e = eqb-true (length (vertex ∷ vertices)) 0 h in omega (arith, e))

fact-sound : (most : ℕ) (version : Version) (count : ℕ) (documents : List Document) (part : Parts) (left splits : ℕ) (t : DocumentState) (step : FactStep) → IsFactStep BLOCK_LIMIT step → AreDocumentsWithin BLOCK_LIMIT most documents →
    IsPart most version AtTree part left splits → fact_step (at version count documents AtTree part left splits) step ≡ Ok t → Sounds most (at version count documents AtTree part left splits) t (OfFact step)
fact-sound most version count documents part left splits t step is are h made =
    let new : Parts = with_fact part step in
    let got = chosen-true (takes_fact part && is_step_of version step) (BadLine (suc count)) (at version (suc count) documents AtTree new left splits) t made in
    let both = and_parts (takes_fact part) (is_step_of version step) got.0 in
    let takes = and_parts (eqb (length part.vertices) 0) (has_room part.facts) both.0 in
    let none : part.vertices ≡ [] = no-vertices part.vertices takes.0 in
    let few : AreOfVersion version part.rule new.facts = facts-fit-more version part.rule part.facts step takes.1 both.1 h.1.0.0.2 is in
    let allowed : every (is_leaf_of new) part.vertices ≡ true = subst (λ (vertices : List (Vertex Ending)). every (is_leaf_of new) vertices ≡ true) (sym none) refl in
    let has : HasTree most version new left splits = (((h.1.0.0.0, h.1.0.0.1, few), h.1.0.1, h.1.0.2, h.1.0.3), h.1.1, h.1.2, h.1.3, h.1.4, h.1.5, h.1.6, allowed) in
    let front : List DocumentLine = Time part.time ∷ Bound part.bound ∷ Order part.numbers ∷ (facts_of part.facts ++ vertices_of part.vertices) in
    let body : facts_of new.facts ++ vertices_of part.vertices ≡ (facts_of part.facts ++ vertices_of part.vertices) ++ OfFact step ∷ [] =
    rw none (append-nil (facts_of new.facts) ∙ facts-more part.facts step takes.1 ∙ ap (λ (x : List DocumentLine). x ++ OfFact step ∷ []) (sym (append-nil (facts_of part.facts)))) in
    let more : part_lines version AtTree new left ≡ part_lines version AtTree part left ++ OfFact step ∷ [] =
    ap (λ x. heading_lines version part (length part.block) (Time part.time ∷ Bound part.bound ∷ Order part.numbers ∷ x)) body ∙ heading-more version part (length part.block) front (OfFact step) in
    subst (λ (u : DocumentState). Sounds most (at version count documents AtTree part left splits) u (OfFact step)) got.1
    (same-documents most (at version count documents AtTree part left splits) (at version (suc count) documents AtTree new left splits) (OfFact step) are refl (h.0, has) more)

within-more : (most : ℕ) (ds : List Document) (d : Document) → AreDocumentsWithin BLOCK_LIMIT most ds → IsDocumentWithin BLOCK_LIMIT most d → AreDocumentsWithin BLOCK_LIMIT most (ds ++ d ∷ [])
within-more most [] d are is = (is, tt)
within-more most (other ∷ ds) d are is = (are.0, within-more most ds d are.1 is)

documents-more : (ds : List Document) (d : Document) → documents_lines (ds ++ d ∷ []) ≡ documents_lines ds ++ document_lines d
documents-more [] d = append-nil (document_lines d)
documents-more (other ∷ ds) d = ap (λ x. document_lines other ++ x) (documents-more ds d) ∙ sym (append_assoc (document_lines other) (documents_lines ds) (document_lines d))

-- the parts by this rule are a document
by-rule : (most : ℕ) (version : Version) (part : Parts) (splits : ℕ) (rule : Rule) → HasTree most version part 0 splits → AreFacts BLOCK_LIMIT rule part.facts → HasItsLeaves rule part.facts (tree_of_lines part.vertices) → IsDocumentWithin BLOCK_LIMIT most (record (document_of part) { rule = rule })
by-rule most version part splits rule h facts leaves =
    let tree = whole-tree part.vertices h.4 in
    record {
      profile = (h.0.0.0, h.0.0.1);
      block = (h.0.1, h.0.2, h.0.3);
      time = h.1;
      bound = h.2;
      numbers = h.3;
      tree = tree.1;
      splits = omega (arith, tree.2, h.5, h.6);
      facts = facts;
      leaves = leaves;
    }

-- each line of its tree is allowed
tree-allowed : (most : ℕ) (version : Version) (part : Parts) (splits : ℕ) → HasTree most version part 0 splits → AreAllowed part.rule part.facts (flat (tree_of_lines part.vertices))
tree-allowed most version part splits h = subst (λ (vertices : List (Vertex Ending)). every (is_leaf_of part) vertices ≡ true) (sym (whole-tree part.vertices h.4).0) h.7

pub whole-document : (most : ℕ) (version : Version) (part : Parts) (splits : ℕ) → HasTree most version part 0 splits → wants_dominated part ≡ false → IsDocumentWithin BLOCK_LIMIT most (document_of part)
whole-document most version part splits h none =
    let same : wants_dominated part ≡ wants_dominated (record part { vertices = flat (tree_of_lines part.vertices) }) =
    ap (λ (vertices : List (Vertex Ending)). wants_dominated (record part { vertices = vertices })) (sym (whole-tree part.vertices h.4).0) in
    by-rule most version part splits part.rule h h.0.0.2.fit (leaves-whole part.rule part.facts (tree_of_lines part.vertices) (tree-allowed most version part splits h) (sym same ∙ none))

-- by its own rule, or by none if a dominated leaf is missing
pub open-document : (most : ℕ) (version : Version) (part : Parts) (splits : ℕ) → HasTree most version part 0 splits → (rule : Rule) × IsOpenWithin BLOCK_LIMIT most version (record (document_of part) { rule = rule })
open-document most version part splits h =
    let of = h.0.0.2 in
    elim (leaves-open part.rule part.facts (tree_of_lines part.vertices) of.fit (tree-allowed most version part splits h)) [
      | inl own ↦ (part.rule, (by-rule most version part splits part.rule h own.0 own.1, head-own version part.rule part.facts of))
      | inr none ↦ (NoneNamed, (by-rule most version part splits NoneNamed h none.0 none.1, head-plain version part.rule part.facts of none.0))
    ]

-- the lines of the open document, if only the last is to come
pub open-is : (version : Version) (part : Parts) (left splits most : ℕ) → HasTree most version part 0 splits → part_lines version AtEnd part left ≡ open_lines version (document_of part)
open-is version part left splits most h =
    ap (λ (k : List (Vertex Ending)). heading_lines version part (length part.block) (Time part.time ∷ Bound part.bound ∷ Order part.numbers ∷ (facts_of part.facts ++ vertices_of k))) (sym (whole-tree part.vertices h.4).0)

end-sound : (most : ℕ) (version : Version) (count : ℕ) (documents : List Document) (part : Parts) (left splits : ℕ) → AreDocumentsWithin BLOCK_LIMIT most documents → IsPart most version AtEnd part left splits →
    wants_dominated part ≡ false → wants_supposition version part ≡ false →
    Sounds most (at version count documents AtEnd part left splits) (at BoundsAlone (suc count) (documents ++ document_of part ∷ []) AtHeader nothing 0 0) End
end-sound most version count documents part left splits are h none supposed =
    let is : IsDocumentWithin BLOCK_LIMIT most (document_of part) = whole-document most version part splits h none in
    let lines : document_lines (document_of part) ≡ part_lines version AtEnd part left ++ End ∷ [] =
    ap (λ (v : Version). open_lines v (document_of part) ++ End ∷ []) (version-is version part.rule part.facts h.0.0.2 supposed) ∙ ap (λ (l : List DocumentLine). l ++ End ∷ []) (sym (open-is version part left splits most h)) in
    record {
      documents = within-more most documents (document_of part) are is;
      part = tt;
      lines = append-nil (documents_lines (documents ++ document_of part ∷ [])) ∙ documents-more documents (document_of part)
          ∙ ap (λ x. documents_lines documents ++ x) lines ∙ sym (append_assoc (documents_lines documents) (part_lines version AtEnd part left) (End ∷ []));
    }

pub neither : (a b : Bool) → (a || b) ≡ false → (a ≡ false) × (b ≡ false)
neither true b h = absurd (cc)
neither false b h = (refl, h)

first-none : (facts : Bool) → facts_of (first_facts facts) ≡ []
first-none true = refl
first-none false = refl

step-sound : (most : ℕ) (version : Version) (count : ℕ) (documents : List Document) (place : DocumentPlace) (part : Parts) (left splits : ℕ) (t : DocumentState) (l : DocumentLine) → IsLineInRange BLOCK_LIMIT l → AreDocumentsWithin BLOCK_LIMIT most documents → IsPart most version place part left splits →
    step_at most (at version count documents place part left splits) place l ≡ Ok t → Sounds most (at version count documents place part left splits) t l
step-sound most version count documents AtHeader part left splits t (Header head) is are h made =
    let begun : Parts = headed head in
    let e : at head (suc count) documents AtProfile begun 0 0 ≡ t = (cc) in
    subst (λ (u : DocumentState). Sounds most (at version count documents AtHeader part left splits) u (Header head)) e
    (same-documents most (at version count documents AtHeader part left splits) (at head (suc count) documents AtProfile begun 0 0) (Header head) are refl (headed-fit head) refl)
step-sound most version count documents AtProfile part left splits t (Profile numbers) is are h made =
    let e : at version (suc count) documents AtBlock (record part { profile = numbers }) 0 0 ≡ t = (cc) in
    subst (λ (u : DocumentState). Sounds most (at version count documents AtProfile part left splits) u (Profile numbers)) e
    (same-documents most (at version count documents AtProfile part left splits) (at version (suc count) documents AtBlock (record part { profile = numbers }) 0 0) (Profile numbers) are refl (is.0, is.1, h) refl)
step-sound most version count documents AtBlock part left splits t (Block number) is are h made =
    let e : at version (suc count) documents AtInstruction (record part { block = [] }) number 0 ≡ t = (cc) in
    let sum : 0 + number ≡ number = omega arith in
    subst (λ (u : DocumentState). Sounds most (at version count documents AtBlock part left splits) u (Block number)) e
    (same-documents most (at version count documents AtBlock part left splits) (at version (suc count) documents AtInstruction (record part { block = [] }) number 0) (Block number) are refl (h, is.0, omega (arith, is.1), tt) (ap (λ n. Header version ∷ Profile part.profile ∷ Block n ∷ []) sum))
step-sound most version count documents AtInstruction part left splits t (Instruction text) is are h made =
    let e : at version (suc count) documents (place_of_instruction (left - 1)) (record part { block = part.block ++ text ∷ [] }) (left - 1) 0 ≡ t = (cc) in
    subst (λ (u : DocumentState). Sounds most (at version count documents AtInstruction part left splits) u (Instruction text)) e (instruction-sound most version count documents part left splits text is are h)
step-sound most version count documents AtTime part left splits t (Time time) is are h made =
    let e : at version (suc count) documents AtBound (record part { time = time }) 0 0 ≡ t = (cc) in
    subst (λ (u : DocumentState). Sounds most (at version count documents AtTime part left splits) u (Time time)) e
    (same-documents most (at version count documents AtTime part left splits) (at version (suc count) documents AtBound (record part { time = time }) 0 0) (Time time) are refl (h, is) (heading-more version part (length part.block) [] (Time time)))
step-sound most version count documents AtBound part left splits t (Bound bound) is are h made =
    let e : at version (suc count) documents AtOrder (record part { bound = bound }) 0 0 ≡ t = (cc) in
    subst (λ (u : DocumentState). Sounds most (at version count documents AtBound part left splits) u (Bound bound)) e
    (same-documents most (at version count documents AtBound part left splits) (at version (suc count) documents AtOrder (record part { bound = bound }) 0 0) (Bound bound) are refl (h.0, h.1, is) (heading-more version part (length part.block) (Time part.time ∷ []) (Bound bound)))
step-sound most version count documents AtOrder part left splits t (Order numbers) is are h made =
    let next : Parts = record part { facts = first_facts (is_some part.facts); numbers = numbers; vertices = [] } in
    let e : at version (suc count) documents AtTree next 1 0 ≡ t = (cc) in
    let profile : HasProfile version next = (h.0.0.0, h.0.0.1, anew-fit version part.rule part.facts h.0.0.2) in
    let none : facts_of next.facts ≡ [] = first-none (is_some part.facts) in
    subst (λ (u : DocumentState). Sounds most (at version count documents AtOrder part left splits) u (Order numbers)) e
    (same-documents most (at version count documents AtOrder part left splits) (at version (suc count) documents AtTree next 1 0) (Order numbers) are refl
    (omega arith, ((profile, h.0.1, h.0.2, h.0.3), h.1, h.2, is, refl, refl, omega arith, refl))
    (ap (λ (x : List DocumentLine). heading_lines version part (length part.block) (Time part.time ∷ Bound part.bound ∷ Order numbers ∷ (x ++ []))) none
    ∙ heading-more version part (length part.block) (Time part.time ∷ Bound part.bound ∷ []) (Order numbers)))
step-sound most version count documents AtTree part left splits t (OfFact step) is are h made = fact-sound most version count documents part left splits t step is are h made
step-sound most version count documents AtTree part left splits t (OfTree vertex) is are h made = vertex-sound most version count documents part left splits t vertex is are h made
step-sound most version count documents AtEnd part left splits t End is are h made =
    let got = chosen-false (wants_dominated part || wants_supposition version part) (BadLine (suc count)) (at BoundsAlone (suc count) (documents ++ document_of part ∷ []) AtHeader nothing 0 0) t made in
    subst (λ (u : DocumentState). Sounds most (at version count documents AtEnd part left splits) u End) got.1 (end-sound most version count documents part left splits are h (neither (wants_dominated part) (wants_supposition version part) got.0).0 (neither (wants_dominated part) (wants_supposition version part) got.0).1)
step-sound most version count documents place part left splits t l is are h made = absurd (cc)

-- ALL LINES

-- the lines that were read
abbrev pub all_lines : DocumentState → List DocumentLine
all_lines s = documents_lines s.documents ++ part_lines s.version s.place s.part s.left

one-line : (most : ℕ) (s t : DocumentState) (bytes : List ℕ) (o : Option DocumentLine) → line_read BLOCK_LIMIT bytes ≡ o → IsFine most s → step_if most s o ≡ Ok t →
    IsFine most t × (map line_bytes (all_lines t) ≡ map line_bytes (all_lines s) ++ bytes ∷ [])
one-line most s t bytes None read fine made = absurd (cc)
one-line most s t bytes (Some l) read fine made =
    let is = line-is BLOCK_LIMIT bytes l (omega arith) read in
    let sound = step-sound most s.version s.count s.documents s.place s.part s.left s.splits t l is.1 fine.0 fine.1 made in
    ((sound.documents, sound.part), ap (map line_bytes) sound.lines ∙ map-append line_bytes (all_lines s) (l ∷ []) ∙ ap (λ b. map line_bytes (all_lines s) ++ b ∷ []) (sym is.0))

pub after-ok : {A B : Type 0} (r : Result A CertError) (f : A → Result B CertError) (y : B) → and_then r f ≡ Ok y → (x : A) × (r ≡ Ok x) × (f x ≡ Ok y)
after-ok (Ok x) f y h = (x, refl, h)
after-ok (Err e) f y h = absurd (cc)

pub steps-sound : (most : ℕ) (s t : DocumentState) (lines : List (List ℕ)) → IsFine most s → steps BLOCK_LIMIT most s lines ≡ Ok t →
    IsFine most t × (map line_bytes (all_lines t) ≡ map line_bytes (all_lines s) ++ lines)
steps-sound most s t [] fine run =
    let e : s ≡ t = (cc) in
    subst (λ (u : DocumentState). IsFine most u × (map line_bytes (all_lines u) ≡ map line_bytes (all_lines s) ++ [])) e (fine, sym (append-nil (map line_bytes (all_lines s))))
steps-sound most s t (line ∷ lines) fine run =
    let (u, one, more) = after-ok (step BLOCK_LIMIT most s line) (λ t. steps BLOCK_LIMIT most t lines) t run in
    let first = one-line most s u line (line_read BLOCK_LIMIT line) refl fine one in
    let rest = steps-sound most u t lines first.0 more in
    (rest.0, rest.1 ∙ ap (λ x. x ++ lines) first.1 ∙ append_assoc (map line_bytes (all_lines s)) (line ∷ []) lines)

nothing-open : (version : Version) (place : DocumentPlace) (o : Parts) (left : ℕ) → is_header place ≡ true → part_lines version place o left ≡ []
nothing-open version AtHeader o left h = refl
nothing-open version AtProfile o left h = absurd (cc)
nothing-open version AtBlock o left h = absurd (cc)
nothing-open version AtInstruction o left h = absurd (cc)
nothing-open version AtTime o left h = absurd (cc)
nothing-open version AtBound o left h = absurd (cc)
nothing-open version AtOrder o left h = absurd (cc)
nothing-open version AtTree o left h = absurd (cc)
nothing-open version AtEnd o left h = absurd (cc)

no-bytes : (rest : List ℕ) → eqb (length rest) 0 ≡ true → rest ≡ []
no-bytes [] h = refl
no-bytes (b ∷ rest) h = absurd (let e = eqb-true (length (b ∷ rest)) 0 h in omega (arith, e))

ended-ok : {X : Type 0} (test : Bool) (x y : X) → cond test (Ok x) (Err Truncated) ≡ Ok y → (test ≡ true) × (x ≡ y)
ended-ok true x y h = (refl, (cc))
ended-ok false x y h = absurd (cc)

pub read-sound : (most : ℕ) (text : List ℕ) (ds : List Document) → read_within BLOCK_LIMIT most text ≡ Ok ds → IsTextWithin BLOCK_LIMIT most text ds
read-sound most text ds read =
    let (s, run, end) = after-ok (steps BLOCK_LIMIT most first_state (whole_lines [] text)) (ended (last_bytes [] text)) ds read in
    let sound = steps-sound most first_state s (whole_lines [] text) (tt, tt) run in
    let got = ended-ok (is_header s.place && eqb (length (last_bytes [] text)) 0) s.documents ds end in
    let both = and_parts (is_header s.place) (eqb (length (last_bytes [] text)) 0) got.0 in
    let lines : map line_bytes (documents_lines s.documents) ≡ whole_lines [] text =
    ap (map line_bytes) (sym (append-nil (documents_lines s.documents)) ∙ ap (λ x. documents_lines s.documents ++ x) (sym (nothing-open s.version s.place s.part s.left both.0))) ∙ sound.1 in
    let all : text ≡ documents_text s.documents =
    cut text ∙ ap (λ x. with_newlines (whole_lines [] text) ++ x) (no-bytes (last_bytes [] text) both.1) ∙ append-nil (with_newlines (whole_lines [] text)) ∙ ap with_newlines (sym lines) ∙ sym (documents-text s.documents) in
    subst (λ (d : List Document). IsTextWithin BLOCK_LIMIT most text d) got.1 (sound.0.0, all)

pub step-fine : (most : ℕ) (s t : DocumentState) (l : DocumentLine) → IsLineInRange BLOCK_LIMIT l → IsFine most s → step_at most s s.place l ≡ Ok t → IsFine most t
step-fine most s t l is fine made =
    let sound = step-sound most s.version s.count s.documents s.place s.part s.left s.splits t l is fine.0 fine.1 made in
    (sound.documents, sound.part)
