-- What is known of a document whose verdict is yes, and of each leaf of its tree.
use Rattle.std.proofs.Common.{ℕ, suc, zero, ◌≡◌, ◌≤◌, ◌<◌, ◌+◌, ◌*◌, ◌&&◌, ◌∙◌, Bool, true, false, true≢false, cond, not, List, [], ◌∷◌, None, Some, inl, inr, length, map, sym, slice_get, arith}
use Rattle.std.proofs.Common.{nat_le, nat_lt, leb-true, ltb-true}
use Rattle.std.proofs.lemmas.Bool.{and_parts, cases_Bool, not-false}
use Rattle.std.proofs.lemmas.List.{length-map}
use Rattle.std.proofs.lemmas.Option.{slice_get_cases}
use Rattle.s66_isa.specs.{Kind, BLOCK_LIMIT, Among, every, has}
use Rattle.s66_isa.proofs.Lists.{got-among}
use Rattle.s66_model.specs.{Problem, IsBeginning, is_remaining, Leaf, Whole, Chain, Load, Parcels, IsWalk, IsChain, MayStand, value, Vertex, AtTerminal, AtSplit, Ending, Bounding, Dominated, Factual}
use Rattle.s66_model.specs.{Next, Turned, AtLine, LoadFrom}
use Rattle.s66_model.proofs.Remaining.{remaining-parts}
use Rattle.s66_moments.specs.{IsNumber, use_time, Known, are_rising, is_left, is_loaded, is_number, is_turned, kind_of_load, next_value, use_of}
use Rattle.s66_line.specs.{instr_in_text}
use Rattle.s66_cert.specs.{Document, IsDocument, tree_placed, SPLIT_LIMIT}
use Rattle.s66_checker.specs.{is_beginning, Yes, Reason as FaultOf, is_complete, known_of, line_fault, problem_of, verdict, AreTaken}
use Rattle.s66_checker.specs.declared.verdict.Reason.TheVariants as fault
use Rattle.s66_checker.proofs.GoingTo.{goes_on-Decides}
use Rattle.s66_checker.proofs.ReadyByNeeds.{beginning-few}
use Rattle.s66_checker.proofs.Faultless.{leaf-shows, passed}
use Rattle.s66_checker.proofs.GrantedClaims.{granted}
use Rattle.s66_checker.proofs.LoadsLeft.{gone, rising-few}
use Rattle.s66_checker.proofs.Placed.{few-lines}
use Rattle.s66_checker.proofs.TreeClaims.{tree-shows}
use Rattle.s66_reasons.specs.{AreWithin, IsFaultless, IsGranted, IsRight, is_split}
use Rattle.s66_reasons.proofs.Leaves.{tree-count, tree-each, tree-fit, tree-short}

pub faultless : (limit : ℕ) (d : Document) (time bound : ℕ) → IsDocument limit d → verdict d ≡ Yes time bound → AreTaken d × IsFaultless d
faultless limit d time bound is holds =
    let b : Problem = problem_of d in
    let all = ((granted d time bound).0 holds).2 in (
      all.facts,
      (tree-shows d (λ ending. Unit {0}) (λ at ending. IsBeginning b.block at × (line_fault d at (AtTerminal ending) ≡ None)) (λ at ending may begins. ((λ h. (begins, h)), λ h. h.1)) limit d.tree is.tree (λ ending among. tt)).0 all.lines,
    )

pub right : (d : Document) (time bound : ℕ) → IsDocument BLOCK_LIMIT d → verdict d ≡ Yes time bound → IsRight d
right d time bound is holds = let all = faultless BLOCK_LIMIT d time bound is holds in record { document = is; taken = all.0; lines = all.1 }

-- each leaf is at a beginning, and has no fault
pub right-each : (d : Document) (at : List ℕ) (ending : Ending) → IsFaultless d → Among (at, AtTerminal ending) (tree_placed [] d.tree) →
    IsBeginning (problem_of d).block at × (line_fault d at (AtTerminal ending) ≡ None)
right-each d at ending lines among =
    tree-each (problem_of d).block (λ ns e. IsBeginning (problem_of d).block ns × (line_fault d ns (AtTerminal e) ≡ None)) d.tree at ending lines among

pub line-begins : (d : Document) (at : List ℕ) (vertex : Vertex Ending) → is_split vertex ≡ false → IsFaultless d → Among (at, vertex) (tree_placed [] d.tree) →
    is_beginning (problem_of d).block at ≡ true
line-begins d at (AtSplit numbers) split lines among = absurd (true≢false split)
line-begins d at (AtTerminal ending) split lines among = (goes_on-Decides (problem_of d).block [] at).1 (right-each d at ending lines among).0

pub claimed-leaf : (d : Document) (at : List ℕ) (leaf : Leaf) → IsFaultless d → Among (at, AtTerminal (Bounding leaf)) (tree_placed [] d.tree) →
    MayStand (problem_of d) at leaf × (d.bound ≤ value (problem_of d) at leaf)
claimed-leaf d at leaf lines among =
    let each = right-each d at (Bounding leaf) lines among in
    (leaf-shows (problem_of d) d.bound at leaf each.0).0 each.1

-- THE LINES, of which there are few, with prefixes that are no longer than a block

pub few-lines_placed : (d : Document) → IsRight d → length (tree_placed [] d.tree) ≤ 1 + BLOCK_LIMIT * SPLIT_LIMIT
few-lines_placed d right = omega (arith, tree-count d.tree, few-lines BLOCK_LIMIT d.tree right.document.tree, right.document.splits)

pub all-found : (d : Document) (place : ℕ) → IsRight d →
    ((line : List ℕ × Vertex Ending) → slice_get (tree_placed [] d.tree) place ≡ Some line → BLOCK_LIMIT < length line.0) → length (tree_placed [] d.tree) ≤ place
all-found d place right none =
    let lines : List (List ℕ × Vertex Ending) = tree_placed [] d.tree in
    elim (slice_get_cases lines place).1 [
      | inl some ↦
          (let (line, less, found, same) = some in
          let short = tree-short (problem_of d).block (λ ns e. IsBeginning (problem_of d).block ns × (line_fault d ns (AtTerminal e) ≡ None))
          (λ ns e holds. beginning-few (problem_of d).block ns holds.0) d.tree line right.lines (got-among lines place line found) in
          absurd (omega (arith, none line found, short, right.document.block.1, length-map d.block instr_in_text)))
      | inr past ↦ past.0
    ]

-- WHAT IS GRANTED of a leaf by facts that has no fault

-- what is tested is so, if nothing else is the fault
tested : (complete test : Bool) (place other : FaultOf) → cond complete (Some place) (cond (not test) (Some other) None) ≡ None → test ≡ true
tested complete test place other none =
    not-false test ((passed (not test) (Some other) None None (λ h. absurd cc)).0 ((passed complete (Some place) (cond (not test) (Some other) None) None (λ h. absurd cc)).0 none).1).0

remain : (b : Problem) (at : List ℕ) (known : Known) (kind : Kind) (bound after time : ℕ) (ns : List ℕ) → every (is_left b known at kind bound after time) ns ≡ true → every (is_remaining b.block at) ns ≡ true
remain b at known kind bound after time ns left =
    elim (cases_Bool (every (is_remaining b.block at) ns)) [
      | inl so ↦ so
      | inr not ↦ absurd (true≢false (sym left ∙ gone b at known kind bound after time ns not))
    ]

-- some numbers, each of them shown to be so late
loaded-parts : (d : Document) (at : List ℕ) (after : ℕ) (ns : List ℕ) → line_fault d at (AtTerminal (Factual (LoadFrom after ns))) ≡ None →
    (nat_lt 0 (length ns) && are_rising ns ≡ true)
    × (every (is_left (problem_of d) (known_of d) at (kind_of_load (problem_of d) ns) d.bound after (use_time (problem_of d) (kind_of_load (problem_of d) ns) (map (use_of (problem_of d)) ns))) ns ≡ true)
loaded-parts d at after ns none =
    let b : Problem = problem_of d in
    let known : Known = known_of d in
    let kind : Kind = kind_of_load b ns in
    let time : ℕ = use_time b kind (map (use_of b) ns) in
    let all = tested (is_complete b at) (is_loaded b known at d.bound after ns) fault.Place fault.Loaded none in
    and_parts (nat_lt 0 (length ns) && are_rising ns) (every (is_left b known at kind d.bound after time) ns) all

granted-left : (d : Document) (at : List ℕ) (after : ℕ) (ns : List ℕ) → line_fault d at (AtTerminal (Factual (LoadFrom after ns))) ≡ None →
    (0 < length ns) × (length ns ≤ length (problem_of d).block) × (every (is_remaining (problem_of d).block at) ns ≡ true)
granted-left d at after ns none =
    let b : Problem = problem_of d in
    let kind : Kind = kind_of_load b ns in
    let parts = loaded-parts d at after ns none in
    let some = and_parts (nat_lt 0 (length ns)) (are_rising ns) parts.0 in
    let stay = remain b at (known_of d) kind d.bound after (use_time b kind (map (use_of b) ns)) ns parts.1 in
    (ltb-true 0 (length ns) some.0, rising-few b at ns some.1 stay, stay)

pub granted-each : (d : Document) (at : List ℕ) (after : ℕ) (ns : List ℕ) → line_fault d at (AtTerminal (Factual (LoadFrom after ns))) ≡ None →
    every (is_left (problem_of d) (known_of d) at (kind_of_load (problem_of d) ns) d.bound after (use_time (problem_of d) (kind_of_load (problem_of d) ns) (map (use_of (problem_of d)) ns))) ns ≡ true
granted-each d at after ns none = (loaded-parts d at after ns none).1

-- a number that remains, after which the bound is reached
pub granted-next : (d : Document) (at : List ℕ) (n : ℕ) → line_fault d at (AtTerminal (Factual (Next n))) ≡ None →
    (is_remaining (problem_of d).block at n ≡ true) × (nat_le d.bound (next_value (problem_of d) (known_of d) at n) ≡ true)
granted-next d at n none =
    let b : Problem = problem_of d in
    let stays = is_remaining b.block at n in
    let reaches = nat_le d.bound (next_value b (known_of d) at n) in
    and_parts stays reaches (tested (is_complete b at) (stays && reaches) fault.Place fault.Event none)

pub granted-turned : (d : Document) (at : List ℕ) (m n : ℕ) → line_fault d at (AtTerminal (Factual (Turned m n))) ≡ None → is_turned (problem_of d) (known_of d) at m n ≡ true
granted-turned d at m n none = tested (is_complete (problem_of d) at) (is_turned (problem_of d) (known_of d) at m n) fault.Place fault.Pair none

turned-numbers : (d : Document) (at : List ℕ) (m n : ℕ) → is_turned (problem_of d) (known_of d) at m n ≡ true → IsNumber (problem_of d) m × IsNumber (problem_of d) n
turned-numbers d at m n turned =
    let b : Problem = problem_of d in
    let (front, before) = and_parts _ ((known_of d).before m n) turned in
    let (numbers, placed) = and_parts _ (has n at) front in
    let (stays, number) = and_parts (is_remaining b.block at m) (is_number b n) numbers in
    let (low, high, new) = remaining-parts b.block at m stays in
    let (least, most) = and_parts (nat_le 1 n) (nat_le n (length b.block)) number in
    ((low, high), (leb-true 1 n least, leb-true n (length b.block) most))

-- THE NUMBERS OF A CHAIN

walk-within : (b : Problem) (at : List ℕ) (n : ℕ) (ns : List ℕ) → IsWalk b at n ns → AreWithin (length b.block) (n ∷ ns)
walk-within b at n [] walk zero less = (let (low, high, new) = remaining-parts b.block at n walk in (low, high))
walk-within b at n [] walk (suc i) less = absurd (omega (arith, less))
walk-within b at n (m ∷ ms) walk zero less = (let (low, high, new) = remaining-parts b.block at n walk.0 in (low, high))
walk-within b at n (m ∷ ms) walk (suc i) less = walk-within b at m ms walk.2 i (omega (arith, less))

chain-within : (b : Problem) (at ns : List ℕ) → IsChain b at ns → AreWithin (length b.block) ns
chain-within b at [] chain = absurd chain
chain-within b at (n ∷ ns) chain = walk-within b at n ns chain

-- WHAT IS GRANTED of each line of a tree

pub granted-line : (d : Document) (at : List ℕ) (vertex : Vertex Ending) → IsRight d → Among (at, vertex) (tree_placed [] d.tree) → IsGranted d at vertex
granted-line d at (AtSplit numbers) right among = tt
granted-line d at (AtTerminal (Bounding Whole)) right among = tt
granted-line d at (AtTerminal (Bounding (Chain numbers))) right among =
    let fits = tree-fit BLOCK_LIMIT d.tree at (Bounding (Chain numbers)) right.document.tree among in
    (fits.0, fits.1, chain-within (problem_of d) at numbers (claimed-leaf d at (Chain numbers) right.lines among).0.1)
granted-line d at (AtTerminal (Bounding (Load kind))) right among = tt
granted-line d at (AtTerminal (Bounding Parcels)) right among = tt
granted-line d at (AtTerminal (Dominated name)) right among = tt
granted-line d at (AtTerminal (Factual (Next n))) right among =
    let (low, high, new) = remaining-parts (problem_of d).block at n (granted-next d at n (right-each d at (Factual (Next n)) right.lines among).1).0 in
    (low, high)
granted-line d at (AtTerminal (Factual (Turned m n))) right among = turned-numbers d at m n (granted-turned d at m n (right-each d at (Factual (Turned m n)) right.lines among).1)
granted-line d at (AtTerminal (Factual (AtLine line))) right among = tt
granted-line d at (AtTerminal (Factual (LoadFrom after ns))) right among =
    let parts = granted-left d at after ns (right-each d at (Factual (LoadFrom after ns)) right.lines among).1 in
    (parts.0, omega (arith, parts.1, right.document.block.1, length-map d.block instr_in_text), parts.2)
