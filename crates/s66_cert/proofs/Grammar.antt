-- The lines of a document, read one after the other, give the document.
use Rattle.std.proofs.Common.{◌≡◌, ◌≤◌, ◌<◌, ◌+◌, ◌-◌, ◌^◌, ◌&&◌, not, ℕ, suc, Bool, true, false, List, [], ◌∷◌, ◌++◌, length, map, Option, None, Some, is_some, refl, sym, ap, ◌∙◌, arith}
use Rattle.std.proofs.Common.{append_assoc, length-append, lt-ltb, append-nil, Result, Ok}
use Rattle.std.proofs.lemmas.Bool.{lt-leb, and_parts}
use Rattle.std.proofs.lemmas.List.{map-append}
use Rattle.s66_isa.specs.{every}
use Rattle.s66_model.specs.{Rule, Whole, Tree, Alone, Parted, Siblings, NoMore, Unsplit, Split, Vertex, AtTerminal, AtSplit, flat_siblings, flat, sibling_splits, splits, Ending, Bounding}
use Rattle.s66_model.specs.{SiblingsMatch, TreeMatches, has_dominated_line}
use Rattle.s66_model.proofs.Forests.{read-flat}
use Rattle.s66_moments.specs.{FactStep}
use Rattle.s66_cert.specs.{names_nodes, Document, IsDocumentWithin, AreDocumentsWithin, AreInstructions, AreFactSteps, AreFacts, SiblingsFit, TreeFits, DocumentLine, Header, Profile, Block}
use Rattle.s66_cert.specs.{Instruction, Time, Bound, Order, OfFact, OfTree, End, line_bytes, IsLineInRange, Parts, tree_of_lines, Version, BoundsAlone, has_suppositions, version, version_rule}
use Rattle.s66_cert.specs.{has_facts, may_suppose, end_step, nothing, headed, first_facts, DocumentState, place_of_instruction, place_of_tree, is_leaf_of, is_step_of, step_at, step_if, and_then}
use Rattle.s66_cert.specs.{steps, FACT_LIMIT, CertError, AtHeader, AtProfile, AtBlock, AtInstruction, AtTime, AtBound, AtOrder}
use Rattle.s66_cert.proofs.DocumentLines.{open_lines, document_lines, documents_lines, instructions_of, steps_of, facts_of, vertices_of}
use Rattle.s66_cert.proofs.LineTexts.{line-again}
use Rattle.s66_cert.proofs.DominatedLines.{every-parts, leaves-wanting, first-some}
use Rattle.s66_cert.proofs.Heads.{AreReadUnder, steps-allowed, own-rule, own-wanted, read-own}
use Rattle.s66_cert.proofs.States.{at, place-instruction, place-tree}

-- THE TREE OF ITS LINES

siblings-match : (limit : ℕ) (ns : List ℕ) (siblings : Siblings Ending) → SiblingsFit limit ns siblings → SiblingsMatch ns siblings
siblings-match limit [] NoMore fits = tt
siblings-match limit [] (Unsplit leaf siblings) fits = absurd fits
siblings-match limit [] (Split numbers sub siblings) fits = absurd fits
siblings-match limit (n ∷ ns) NoMore fits = absurd fits
siblings-match limit (n ∷ ns) (Unsplit leaf siblings) fits = siblings-match limit ns siblings fits.1
siblings-match limit (n ∷ ns) (Split numbers sub siblings) fits = (siblings-match limit numbers sub fits.1, siblings-match limit ns siblings fits.2)

tree-match : (limit : ℕ) (tree : Tree Ending) → TreeFits limit tree → TreeMatches tree
tree-match limit (Alone leaf) fits = tt
tree-match limit (Parted numbers siblings) fits = siblings-match limit numbers siblings fits.1

pub tree-again : (limit : ℕ) (tree : Tree Ending) → TreeFits limit tree → tree_of_lines (flat tree) ≡ tree
tree-again limit tree fits = read-flat (Bounding Whole) tree (tree-match limit tree fits)

-- between two documents
abbrev between : ℕ → List Document → DocumentState
between count documents = at BoundsAlone count documents AtHeader nothing 0 0

module _ (limit most : ℕ) (narrow : limit < 2 ^ 64) where
  -- ONE LINE AFTER THE OTHER

  pub step-line : (s t : DocumentState) (l : DocumentLine) (lines : List (List ℕ)) → IsLineInRange limit l → step_at most s s.place l ≡ Ok t → steps limit most s (line_bytes l ∷ lines) ≡ steps limit most t lines
  step-line s t l lines is made =
      ap (λ (o : Option DocumentLine). and_then (step_if most s o) (λ t. steps limit most t lines)) (line-again limit l narrow is) ∙ ap (λ (r : Result DocumentState CertError). and_then r (λ t. steps limit most t lines)) made

  vertices-cut : (xs ys : List (Vertex Ending)) (lines : List (List ℕ)) → map line_bytes (vertices_of (xs ++ ys)) ++ lines ≡ map line_bytes (vertices_of xs) ++ (map line_bytes (vertices_of ys) ++ lines)
  vertices-cut [] ys lines = refl
  vertices-cut (x ∷ xs) ys lines = ap (λ z. line_bytes (OfTree x) ∷ z) (vertices-cut xs ys lines)

  lines-cut : (xs ys : List DocumentLine) (lines : List (List ℕ)) → map line_bytes (xs ++ ys) ++ lines ≡ map line_bytes xs ++ (map line_bytes ys ++ lines)
  lines-cut xs ys lines = ap (λ (front : List (List ℕ)). front ++ lines) (map-append line_bytes xs ys) ∙ append_assoc (map line_bytes xs) (map line_bytes ys) lines

module _ (limit most : ℕ) (narrow : limit < 2 ^ 64) (head : Version) where
  -- INSTRUCTIONS

  -- with this many instructions to come
  abbrev in_block : ℕ → List Document → Parts → ℕ → DocumentState
  in_block count documents part left = at head count documents (place_of_instruction left) part left 0

  abbrev with_texts : Parts → List (List ℕ) → Parts
  with_texts o texts = record o { block = o.block ++ texts }

  instruction-step : (count left : ℕ) (documents : List Document) (part : Parts) (text : List ℕ) →
      step_at most (in_block count documents part (suc left)) (place_of_instruction (suc left)) (Instruction text) ≡ Ok (in_block (suc count) documents (with_texts part (text ∷ [])) left)
  instruction-step count left documents part text =
      let less : suc left - 1 ≡ left = omega arith in
      rw (place-instruction left) (rw less refl)

  instructions-run : (count to : ℕ) (documents : List Document) (part : Parts) (texts : List (List ℕ)) (lines : List (List ℕ)) → AreInstructions texts → to ≡ count + length texts →
      steps limit most (in_block count documents part (length texts)) (map line_bytes (instructions_of texts) ++ lines)
      ≡ steps limit most (in_block to documents (with_texts part texts) 0) lines
  instructions-run count to documents part [] lines are e =
      let same : to ≡ count = omega arith in
      rw (same, append-nil part.block) refl
  instructions-run count to documents part (text ∷ texts) lines are e =
      let block : List (List ℕ) = part.block in
      let joined : (block ++ text ∷ []) ++ texts ≡ block ++ text ∷ texts = append_assoc block (text ∷ []) texts in
      step-line limit most narrow (in_block count documents part (suc (length texts))) (in_block (suc count) documents (with_texts part (text ∷ [])) (length texts)) (Instruction text) (map line_bytes (instructions_of texts) ++ lines) are.0 (instruction-step count (length texts) documents part text)
      ∙ instructions-run (suc count) to documents (with_texts part (text ∷ [])) texts lines are.1 (omega arith)
      ∙ ap (λ (b : List (List ℕ)). steps limit most (in_block to documents (record part { block = b }) 0) lines) joined

  -- THE TREE

  -- with this many trees to come
  abbrev in_tree : ℕ → List Document → Parts → List (Vertex Ending) → ℕ → ℕ → DocumentState
  in_tree count documents part vertices left splits = at head count documents (place_of_tree left) (record part { vertices = vertices }) left splits

  terminal-step : (count left splits : ℕ) (documents : List Document) (part : Parts) (vertices : List (Vertex Ending)) (ending : Ending) → is_leaf_of part (AtTerminal ending) ≡ true →
      step_at most (in_tree count documents part vertices (suc left) splits) (place_of_tree (suc left)) (OfTree (AtTerminal ending)) ≡ Ok (in_tree (suc count) documents part (vertices ++ AtTerminal ending ∷ []) left splits)
  terminal-step count left splits documents part vertices ending is =
      let less : suc left - 1 ≡ left = omega arith in
      rw (place-tree left) (rw is (rw less refl))

  split-step : (count left to splits : ℕ) (documents : List Document) (part : Parts) (vertices : List (Vertex Ending)) (numbers : List ℕ) → splits < most → to ≡ length numbers + left →
      step_at most (in_tree count documents part vertices (suc left) splits) (place_of_tree (suc left)) (OfTree (AtSplit numbers)) ≡ Ok (in_tree (suc count) documents part (vertices ++ AtSplit numbers ∷ []) to (suc splits))
  split-step count left to splits documents part vertices numbers few e =
      let less : suc left - 1 + length numbers ≡ to = omega arith in
      rw (place-tree left) (rw (lt-leb most splits few) (rw less refl))

  siblings-run : (count to left here splits after : ℕ) (documents : List Document) (part : Parts) (vertices : List (Vertex Ending)) (ns : List ℕ) (siblings : Siblings Ending) (lines : List (List ℕ)) →
      SiblingsFit limit ns siblings → to ≡ count + length (flat_siblings siblings) → here ≡ length ns + left → after ≡ splits + sibling_splits siblings → after ≤ most →
      every (is_leaf_of part) (flat_siblings siblings) ≡ true →
      steps limit most (in_tree count documents part vertices here splits) (map line_bytes (vertices_of (flat_siblings siblings)) ++ lines)
      ≡ steps limit most (in_tree to documents part (vertices ++ flat_siblings siblings) left after) lines
  siblings-run count to left here splits after documents part vertices [] NoMore lines fits e f g few allowed =
      let same : to ≡ count = omega arith in
      let less : here ≡ left = omega arith in
      let none : after ≡ splits = omega arith in
      rw (same, less, none, append-nil vertices) refl
  siblings-run count to left here splits after documents part vertices [] (Unsplit ending siblings) lines fits e f g few allowed = absurd fits
  siblings-run count to left here splits after documents part vertices [] (Split numbers sub siblings) lines fits e f g few allowed = absurd fits
  siblings-run count to left here splits after documents part vertices (n ∷ ns) NoMore lines fits e f g few allowed = absurd fits
  siblings-run count to left here splits after documents part vertices (n ∷ ns) (Unsplit ending siblings) lines fits e f g few allowed =
      let more : here ≡ suc (length ns + left) = omega arith in
      let each = and_parts (is_leaf_of part (AtTerminal ending)) (every (is_leaf_of part) (flat_siblings siblings)) allowed in
      let joined : (vertices ++ AtTerminal ending ∷ []) ++ flat_siblings siblings ≡ vertices ++ AtTerminal ending ∷ flat_siblings siblings = append_assoc vertices (AtTerminal ending ∷ []) (flat_siblings siblings) in
      rw more (
      step-line limit most narrow (in_tree count documents part vertices (suc (length ns + left)) splits) (in_tree (suc count) documents part (vertices ++ AtTerminal ending ∷ []) (length ns + left) splits) (OfTree (AtTerminal ending)) (map line_bytes (vertices_of (flat_siblings siblings)) ++ lines) fits.0 (terminal-step count (length ns + left) splits documents part vertices ending each.0)
      ∙ siblings-run (suc count) to left (length ns + left) splits after documents part (vertices ++ AtTerminal ending ∷ []) ns siblings lines fits.1 (omega arith) refl g few each.1
      ∙ ap (λ (k : List (Vertex Ending)). steps limit most (in_tree to documents part k left after) lines) joined
      )
  siblings-run count to left here splits after documents part vertices (n ∷ ns) (Split numbers sub siblings) lines fits e f g few allowed =
      let more : here ≡ suc (length ns + left) = omega arith in
      let trees : ℕ = length numbers + (length ns + left) in
      let each = every-parts (is_leaf_of part) (flat_siblings sub) (flat_siblings siblings) allowed in
      let count2 : ℕ = suc count + length (flat_siblings sub) in
      let splits2 : ℕ = suc splits + sibling_splits sub in
      let before : List (Vertex Ending) = vertices ++ AtSplit numbers ∷ [] in
      let joined : (before ++ flat_siblings sub) ++ flat_siblings siblings ≡ vertices ++ AtSplit numbers ∷ (flat_siblings sub ++ flat_siblings siblings) =
      append_assoc before (flat_siblings sub) (flat_siblings siblings) ∙ append_assoc vertices (AtSplit numbers ∷ []) (flat_siblings sub ++ flat_siblings siblings) in
      let cut : map line_bytes (vertices_of (flat_siblings sub ++ flat_siblings siblings)) ++ lines ≡ map line_bytes (vertices_of (flat_siblings sub)) ++ (map line_bytes (vertices_of (flat_siblings siblings)) ++ lines) = vertices-cut limit most narrow (flat_siblings sub) (flat_siblings siblings) lines in
      rw more (
      step-line limit most narrow (in_tree count documents part vertices (suc (length ns + left)) splits) (in_tree (suc count) documents part before trees (suc splits)) (OfTree (AtSplit numbers)) (map line_bytes (vertices_of (flat_siblings sub ++ flat_siblings siblings)) ++ lines) fits.0 (split-step count (length ns + left) trees splits documents part vertices numbers (omega arith) refl)
      ∙ ap (λ (l : List (List ℕ)). steps limit most (in_tree (suc count) documents part before trees (suc splits)) l) cut
      ∙ siblings-run (suc count) count2 (length ns + left) trees (suc splits) splits2 documents part before numbers sub (map line_bytes (vertices_of (flat_siblings siblings)) ++ lines) fits.1 refl refl refl (omega arith) each.0
      ∙ siblings-run count2 to left (length ns + left) splits2 after documents part (before ++ flat_siblings sub) ns siblings lines fits.2 (omega (arith, length-append {A = Vertex Ending})) refl (omega arith) few each.1
      ∙ ap (λ (k : List (Vertex Ending)). steps limit most (in_tree to documents part k left after) lines) joined
      )

  tree-run : (count : ℕ) (documents : List Document) (part : Parts) (tree : Tree Ending) (lines : List (List ℕ)) → TreeFits limit tree → splits tree ≤ most → every (is_leaf_of part) (flat tree) ≡ true →
      (to : ℕ) × (steps limit most (in_tree count documents part [] 1 0) (map line_bytes (vertices_of (flat tree)) ++ lines) ≡ steps limit most (in_tree to documents part (flat tree) 0 (splits tree)) lines)
  tree-run count documents part (Alone ending) lines fits few allowed =
      (suc count, step-line limit most narrow (in_tree count documents part [] 1 0) (in_tree (suc count) documents part (AtTerminal ending ∷ []) 0 0) (OfTree (AtTerminal ending)) lines fits (terminal-step count 0 0 documents part [] ending (and_parts (is_leaf_of part (AtTerminal ending)) true allowed).0))
  tree-run count documents part (Parted numbers siblings) lines fits few allowed =
      let trees : ℕ = length numbers + 0 in (
        suc count + length (flat_siblings siblings),
        step-line limit most narrow (in_tree count documents part [] 1 0) (in_tree (suc count) documents part (AtSplit numbers ∷ []) trees 1) (OfTree (AtSplit numbers)) (map line_bytes (vertices_of (flat_siblings siblings)) ++ lines) fits.0 (split-step count 0 trees 0 documents part [] numbers (omega arith) refl)
            ∙ siblings-run (suc count) (suc count + length (flat_siblings siblings)) 0 trees 1 (1 + sibling_splits siblings) documents part (AtSplit numbers ∷ []) numbers siblings lines fits.1 refl refl refl few allowed,
      )

  -- DOCUMENTS

  abbrev heading : Document → Parts
  heading d = record { rule = version_rule head; facts = d.facts; profile = d.profile; block = d.block; time = d.time; bound = d.bound; numbers = d.numbers; vertices = [] }

  -- with these fact lines so far
  abbrev with_facts : Parts → Option (List FactStep) → Parts
  with_facts o facts = record o { facts = facts }

  -- PROFILE, BLOCK and the header, the instructions, and TIME, BOUND and ORDER
  heading-run : (count : ℕ) (documents : List Document) (d : Document) (lines : List (List ℕ)) → IsDocumentWithin limit most d →
      (to : ℕ) × (steps limit most (between count documents) (map line_bytes (Header head ∷ Profile d.profile ∷ Block (length d.block) ∷ (instructions_of d.block ++ Time d.time ∷ Bound d.bound ∷ Order d.numbers ∷ [])) ++ lines)
      ≡ steps limit most (in_tree to documents (with_facts (heading d) (first_facts (has_facts head))) [] 1 0) lines)
  heading-run count documents d lines is =
      let rest : List DocumentLine = Time d.time ∷ Bound d.bound ∷ Order d.numbers ∷ [] in
      let begun : Bool = has_facts head in
      let part0 : Parts = headed head in
      let part1 : Parts = record part0 { profile = d.profile } in
      let part2 : Parts = record part1 { block = d.block } in
      let part3 : Parts = record part2 { time = d.time } in
      let part4 : Parts = record part3 { bound = d.bound } in
      let part5 : Parts = with_facts (heading d) (first_facts begun) in
      let to : ℕ = suc (suc (suc count)) + length d.block in
      let after : List (List ℕ) = map line_bytes rest ++ lines in
      let body : List (List ℕ) = map line_bytes (instructions_of d.block ++ rest) ++ lines in
      let in_order : DocumentState = in_block (suc (suc (suc count))) documents part1 (length d.block) in
      let begin : steps limit most in_order (map line_bytes (instructions_of d.block ++ rest) ++ lines) ≡ steps limit most (in_block to documents part2 0) after =
      ap (λ (l : List (List ℕ)). steps limit most in_order l) (lines-cut limit most narrow (instructions_of d.block) rest lines)
      ∙ instructions-run (suc (suc (suc count))) to documents part1 d.block after is.block.2 refl in
      let placed : AtInstruction ≡ place_of_instruction (length d.block) = sym (some-place d.block is.block.0) in
      let again : Ok (in_tree (suc (suc (suc to))) documents (with_facts (heading d) (first_facts (is_some (first_facts begun)))) [] 1 0) ≡ Ok (in_tree (suc (suc (suc to))) documents part5 [] 1 0) =
      ap (λ (b : Bool). Ok (in_tree (suc (suc (suc to))) documents (with_facts (heading d) (first_facts b)) [] 1 0)) (first-some begun) in (
        suc (suc (suc to)),
        step-line limit most narrow (between count documents) (at head (suc count) documents AtProfile part0 0 0) (Header head) (line_bytes (Profile d.profile) ∷ line_bytes (Block (length d.block)) ∷ body) tt refl
            ∙ step-line limit most narrow (at head (suc count) documents AtProfile part0 0 0) (at head (suc (suc count)) documents AtBlock part1 0 0) (Profile d.profile) (line_bytes (Block (length d.block)) ∷ body) is.profile refl
            ∙ step-line limit most narrow (at head (suc (suc count)) documents AtBlock part1 0 0) in_order (Block (length d.block)) body (is.block.0, is.block.1) (rw (← placed) refl)
            ∙ begin
            ∙ step-line limit most narrow (at head to documents AtTime part2 0 0) (at head (suc to) documents AtBound part3 0 0) (Time d.time) (line_bytes (Bound d.bound) ∷ line_bytes (Order d.numbers) ∷ lines) is.time refl
            ∙ step-line limit most narrow (at head (suc to) documents AtBound part3 0 0) (at head (suc (suc to)) documents AtOrder part4 0 0) (Bound d.bound) (line_bytes (Order d.numbers) ∷ lines) is.bound refl
            ∙ step-line limit most narrow (at head (suc (suc to)) documents AtOrder part4 0 0) (in_tree (suc (suc (suc to))) documents part5 [] 1 0) (Order d.numbers) lines is.numbers again,
      )
    where
      some-place : (texts : List (List ℕ)) → 1 ≤ length texts → place_of_instruction (length texts) ≡ AtInstruction
      some-place [] some = absurd (omega arith)
      some-place (text ∷ texts) some = place-instruction (length texts)

  -- FACT LINES

  fact-step : (count : ℕ) (documents : List Document) (part : Parts) (front : List FactStep) (step : FactStep) → length front < FACT_LIMIT → is_step_of head step ≡ true →
      step_at most (in_tree count documents (with_facts part (Some front)) [] 1 0) (place_of_tree 1) (OfFact step) ≡ Ok (in_tree (suc count) documents (with_facts part (Some (front ++ step ∷ []))) [] 1 0)
  fact-step count documents part front step few comes = rw (lt-ltb (length front) FACT_LIMIT few, comes) refl

  steps-run : (count : ℕ) (documents : List Document) (part : Parts) (front facts : List FactStep) (lines : List (List ℕ)) → AreFactSteps limit facts → length front + length facts ≤ FACT_LIMIT → every (is_step_of head) facts ≡ true →
      (to : ℕ) × (steps limit most (in_tree count documents (with_facts part (Some front)) [] 1 0) (map line_bytes (steps_of facts) ++ lines) ≡ steps limit most (in_tree to documents (with_facts part (Some (front ++ facts))) [] 1 0) lines)
  steps-run count documents part front [] lines are few come = (count, ap (λ (fs : List FactStep). steps limit most (in_tree count documents (with_facts part (Some fs)) [] 1 0) lines) (sym (append-nil front)))
  steps-run count documents part front (step ∷ facts) lines are few come =
      let longer : length (front ++ step ∷ []) ≡ length front + 1 = length-append front (step ∷ []) in
      let each = and_parts (is_step_of head step) (every (is_step_of head) facts) come in
      let rest = steps-run (suc count) documents part (front ++ step ∷ []) facts lines are.1 (omega (arith, longer, few)) each.1 in (
        rest.0,
        step-line limit most narrow (in_tree count documents (with_facts part (Some front)) [] 1 0) (in_tree (suc count) documents (with_facts part (Some (front ++ step ∷ []))) [] 1 0) (OfFact step) (map line_bytes (steps_of facts) ++ lines) are.0 (fact-step count documents part front step (omega (arith, few)) each.0)
            ∙ rest.1
            ∙ ap (λ (fs : List FactStep). steps limit most (in_tree rest.0 documents (with_facts part (Some fs)) [] 1 0) lines) (append_assoc front (step ∷ []) facts),
      )

  facts-run : (count : ℕ) (documents : List Document) (part : Parts) (rule : Rule) (facts : Option (List FactStep)) (lines : List (List ℕ)) → AreFacts limit rule facts → (has_suppositions facts ≡ true → may_suppose head ≡ true) →
      (to : ℕ) × (steps limit most (in_tree count documents (with_facts part (first_facts (is_some facts))) [] 1 0) (map line_bytes (facts_of facts) ++ lines) ≡ steps limit most (in_tree to documents (with_facts part facts) [] 1 0) lines)
  facts-run count documents part rule None lines are come = (count, refl)
  facts-run count documents part rule (Some facts) lines are come = steps-run count documents part [] facts lines are.2 (omega (arith, are.1)) (steps-allowed head facts come)

  -- all but the last line of a document, under a version with which its lines may be read
  pub open-run : (count : ℕ) (documents : List Document) (d : Document) (lines : List (List ℕ)) → IsDocumentWithin limit most d → AreReadUnder head d.facts d.tree →
      (to : ℕ) × (steps limit most (between count documents) (map line_bytes (open_lines head d) ++ lines) ≡ steps limit most (in_tree to documents (heading d) (flat d.tree) 0 (splits d.tree)) lines)
  open-run count documents d lines is under =
      let front : List DocumentLine = Header head ∷ Profile d.profile ∷ Block (length d.block) ∷ (instructions_of d.block ++ Time d.time ∷ Bound d.bound ∷ Order d.numbers ∷ []) in
      let body : List DocumentLine = facts_of d.facts ++ vertices_of (flat d.tree) in
      let whole : open_lines head d ≡ front ++ body =
      ap (λ (l : List DocumentLine). Header head ∷ Profile d.profile ∷ Block (length d.block) ∷ l) (sym (append_assoc (instructions_of d.block) (Time d.time ∷ Bound d.bound ∷ Order d.numbers ∷ []) body)) in
      let tree : List (List ℕ) = map line_bytes (vertices_of (flat d.tree)) ++ lines in
      let one = heading-run count documents d (map line_bytes body ++ lines) is in
      let two = facts-run one.0 documents (heading d) d.rule d.facts tree is.facts under.supposed in
      let three = tree-run two.0 documents (heading d) d.tree lines is.tree is.splits under.leaves in (
        three.0,
        ap (λ (l : List DocumentLine). steps limit most (between count documents) (map line_bytes l ++ lines)) whole
            ∙ ap (λ (l : List (List ℕ)). steps limit most (between count documents) l) (lines-cut limit most narrow front body lines)
            ∙ one.1
            ∙ ap (λ (b : Bool). steps limit most (in_tree one.0 documents (with_facts (heading d) (first_facts b)) [] 1 0) (map line_bytes body ++ lines)) (sym under.some)
            ∙ ap (λ (l : List (List ℕ)). steps limit most (in_tree one.0 documents (with_facts (heading d) (first_facts (is_some d.facts))) [] 1 0) l) (lines-cut limit most narrow (facts_of d.facts) (vertices_of (flat d.tree)) lines)
            ∙ two.1 ∙ three.1,
      )

module _ (limit most : ℕ) (narrow : limit < 2 ^ 64) where
  -- ALL LINES OF DOCUMENTS

  document-run : (count : ℕ) (documents : List Document) (d : Document) (lines : List (List ℕ)) → IsDocumentWithin limit most d →
      (to : ℕ) × (steps limit most (between count documents) (map line_bytes (document_lines d) ++ lines) ≡ steps limit most (between to (documents ++ d ∷ [])) lines)
  document-run count documents d lines is =
      let own : Version = version d.facts d.rule in
      let run = open-run limit most narrow own count documents d (line_bytes End ∷ lines) is (read-own limit d.rule d.facts d.tree is.facts is.leaves) in
      let ruled : version_rule own ≡ d.rule = own-rule limit d.rule d.facts is.facts in
      let read : DocumentState = in_tree limit most narrow own run.0 documents (heading limit most narrow own d) (flat d.tree) 0 (splits d.tree) in
      let ended : end_step read ≡ Ok (between (suc run.0) (documents ++ d ∷ [])) = document-end run.0 own documents d is ruled (own-wanted d.rule d.facts) in (
        suc run.0,
        ap (λ (l : List (List ℕ)). steps limit most (between count documents) l) (lines-cut limit most narrow (open_lines own d) (End ∷ []) lines)
            ∙ run.1
            ∙ step-line limit most narrow read (between (suc run.0) (documents ++ d ∷ [])) End lines tt ended,
      )
    where
      document-end : (count : ℕ) (head : Version) (documents : List Document) (d : Document) → IsDocumentWithin limit most d → version_rule head ≡ d.rule → (may_suppose head && not (has_suppositions d.facts)) ≡ false →
          end_step (in_tree limit most narrow head count documents (heading limit most narrow head d) (flat d.tree) 0 (splits d.tree)) ≡ Ok (between (suc count) (documents ++ d ∷ []))
      document-end count head documents d is ruled supposed =
          let same : tree_of_lines (flat d.tree) ≡ d.tree = tree-again limit d.tree is.tree in
          let none : (names_nodes d.rule && not (is_some d.facts) && not (has_dominated_line (flat d.tree))) ≡ false = leaves-wanting d.rule d.facts d.tree is.leaves in
          rw (ruled, none, supposed, same) refl

  pub documents-run : (count : ℕ) (documents ds : List Document) (lines : List (List ℕ)) → AreDocumentsWithin limit most ds →
      (to : ℕ) × (steps limit most (between count documents) (map line_bytes (documents_lines ds) ++ lines) ≡ steps limit most (between to (documents ++ ds)) lines)
  documents-run count documents [] lines are = (count, ap (λ (l : List Document). steps limit most (between count l) lines) (sym (append-nil documents)))
  documents-run count documents (d ∷ ds) lines are =
      let one = document-run count documents d (map line_bytes (documents_lines ds) ++ lines) are.0 in
      let two = documents-run one.0 (documents ++ d ∷ []) ds lines are.1 in (
        two.0,
        ap (λ (l : List (List ℕ)). steps limit most (between count documents) l) (lines-cut limit most narrow (document_lines d) (documents_lines ds) lines)
            ∙ one.1 ∙ two.1
            ∙ ap (λ (l : List Document). steps limit most (between two.0 l) lines) (append_assoc documents (d ∷ []) ds),
      )
