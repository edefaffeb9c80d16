-- A line of a document where none of its kind may come is refused, and what is known of a reader at each place.
use Rattle.std.proofs.Common.{◌≡◌, ◌≤◌, ◌+◌, ◌*◌, ◌^◌, ℕ, zero, suc, true, false, List, [], ◌∷◌, length, refl, arith, subst, Err}
use Rattle.s66_isa.specs.{BLOCK_LIMIT}
use Rattle.s66_model.specs.{Vertex, AtTerminal, AtSplit, Ending, Bounding, Dominated, Factual}
use Rattle.s66_moments.specs.{FactStep}
use Rattle.s66_cert.specs.{Version, Leave, split_count, IsPart, IsFine, Header, Profile, Block, Instruction, Time, Bound, Order, OfFact, OfTree, End, AreWhole, DocumentState, is_leaf_of}
use Rattle.s66_cert.specs.{wants_dominated, wants_supposition, is_wanting, step_at, SPLIT_LIMIT, BadLine, DocumentPlace, AtHeader, AtProfile, AtBlock, AtInstruction, AtTime, AtBound, AtOrder, AtTree}
use Rattle.s66_cert.specs.{AtEnd}
use Rattle.s66_cert.proofs.Sound.{whole-tree, whole-document, neither}

pub other_header : (most : ℕ) (s : DocumentState) (place : DocumentPlace) (version : Version) → (place ≡ AtHeader → ⊥) → step_at most s place (Header version) ≡ Err (BadLine (suc s.count))
other_header most s AtHeader version other = absurd (other refl)
other_header most s place version other = refl

pub other_profile : (most : ℕ) (s : DocumentState) (place : DocumentPlace) (numbers : List ℕ) → (place ≡ AtProfile → ⊥) → step_at most s place (Profile numbers) ≡ Err (BadLine (suc s.count))
other_profile most s AtProfile numbers other = absurd (other refl)
other_profile most s place numbers other = refl

pub other_block : (most : ℕ) (s : DocumentState) (place : DocumentPlace) (count : ℕ) → (place ≡ AtBlock → ⊥) → step_at most s place (Block count) ≡ Err (BadLine (suc s.count))
other_block most s AtBlock count other = absurd (other refl)
other_block most s place count other = refl

pub other_instruction : (most : ℕ) (s : DocumentState) (place : DocumentPlace) (text : List ℕ) → (place ≡ AtInstruction → ⊥) → step_at most s place (Instruction text) ≡ Err (BadLine (suc s.count))
other_instruction most s AtInstruction text other = absurd (other refl)
other_instruction most s place text other = refl

pub other_time : (most : ℕ) (s : DocumentState) (place : DocumentPlace) (time : ℕ) → (place ≡ AtTime → ⊥) → step_at most s place (Time time) ≡ Err (BadLine (suc s.count))
other_time most s AtTime time other = absurd (other refl)
other_time most s place time other = refl

pub other_bound : (most : ℕ) (s : DocumentState) (place : DocumentPlace) (bound : ℕ) → (place ≡ AtBound → ⊥) → step_at most s place (Bound bound) ≡ Err (BadLine (suc s.count))
other_bound most s AtBound bound other = absurd (other refl)
other_bound most s place bound other = refl

pub other_order : (most : ℕ) (s : DocumentState) (place : DocumentPlace) (numbers : List ℕ) → (place ≡ AtOrder → ⊥) → step_at most s place (Order numbers) ≡ Err (BadLine (suc s.count))
other_order most s AtOrder numbers other = absurd (other refl)
other_order most s place numbers other = refl

pub other_fact : (most : ℕ) (s : DocumentState) (place : DocumentPlace) (step : FactStep) → (place ≡ AtTree → ⊥) → step_at most s place (OfFact step) ≡ Err (BadLine (suc s.count))
other_fact most s AtTree step other = absurd (other refl)
other_fact most s place step other = refl

pub other_vertex : (most : ℕ) (s : DocumentState) (place : DocumentPlace) (vertex : Vertex Ending) → (place ≡ AtTree → ⊥) → step_at most s place (OfTree vertex) ≡ Err (BadLine (suc s.count))
other_vertex most s AtTree vertex other = absurd (other refl)
other_vertex most s place vertex other = refl

pub other_end : (most : ℕ) (s : DocumentState) (place : DocumentPlace) → (place ≡ AtEnd → ⊥) → step_at most s place End ≡ Err (BadLine (suc s.count))
other_end most s AtEnd other = absurd (other refl)
other_end most s place other = refl

-- a leaf of another version
pub refused_vertex : (most : ℕ) (s : DocumentState) (vertex : Vertex Ending) → is_leaf_of s.part vertex ≡ false → step_at most s AtTree (OfTree vertex) ≡ Err (BadLine (suc s.count))
refused_vertex most s (AtTerminal (Bounding leaf)) h = absurd (cc)
refused_vertex most s (AtTerminal (Dominated name)) h = rw h refl
refused_vertex most s (AtTerminal (Factual leaf)) h = rw h refl
refused_vertex most s (AtSplit numbers) h = absurd (cc)

-- the last line if what the version requires is missing
pub wanting_end : (most : ℕ) (s : DocumentState) → is_wanting s.version s.part ≡ true → step_at most s AtEnd End ≡ Err (BadLine (suc s.count))
wanting_end most s h = rw h refl

-- WHERE IT COMES

part-at : (most : ℕ) (s : DocumentState) (place : DocumentPlace) → s.place ≡ place → IsFine most s → IsPart most s.version place s.part s.left s.splits
part-at most s place e fine = subst (λ (p : DocumentPlace). IsPart most s.version p s.part s.left s.splits) e fine.1

pub some_instruction : (most : ℕ) (s : DocumentState) → s.place ≡ AtInstruction → IsFine most s → 1 ≤ s.left
some_instruction most s e fine = (part-at most s AtInstruction e fine).1

pub some_tree : (most : ℕ) (s : DocumentState) → s.place ≡ AtTree → IsFine most s → 1 ≤ s.left
some_tree most s e fine = (part-at most s AtTree e fine).0

-- each split leaves at most BLOCK_LIMIT trees
leave-few : (n left : ℕ) (vertices : List (Vertex Ending)) → Leave n vertices left → left ≤ n + BLOCK_LIMIT * split_count vertices
leave-few n left [] h = omega (arith, h)
leave-few zero left (AtTerminal ending ∷ vertices) h = absurd h
leave-few zero left (AtSplit numbers ∷ vertices) h = absurd h
leave-few (suc n) left (AtTerminal ending ∷ vertices) h = omega (arith, leave-few n left vertices h.1)
leave-few (suc n) left (AtSplit numbers ∷ vertices) h = omega (arith, leave-few (length numbers + n) left vertices h.1, h.0.1)

pub few_trees : (s : DocumentState) → s.place ≡ AtTree → IsFine SPLIT_LIMIT s → s.left ≤ 2 ^ 32
few_trees s e fine =
    let is = part-at SPLIT_LIMIT s AtTree e fine in
    omega (arith, leave-few 1 s.left s.part.vertices is.1.4, is.1.5, is.1.6)

pub whole_end : (s : DocumentState) → s.place ≡ AtEnd → IsFine SPLIT_LIMIT s → is_wanting s.version s.part ≡ false → AreWhole s.part
whole_end s e fine none =
    let h = part-at SPLIT_LIMIT s AtEnd e fine in
    record { document = whole-document SPLIT_LIMIT s.version s.part s.splits h (neither (wants_dominated s.part) (wants_supposition s.version s.part) none).0; preorder = (whole-tree s.part.vertices h.4).0 }
