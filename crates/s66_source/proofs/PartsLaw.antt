-- The blocks of a source are its instruction lines, cut into runs and these into blocks (`parts_law`).
use Rattle.std.proofs.Common.{◌≡◌, ◌≤◌, ◌<◌, ◌+◌, ◌%◌, ℕ, suc, Bool, true, false, List, [], ◌∷◌, length, refl, sym, ap, ◌∙◌, subst, inl, inr, arith, eqb, ◌⊎◌, if◌then◌else◌, eqb-true, mod-eq_of_lt}
use Rattle.std.proofs.lemmas.Nat.{mod_below}
use Rattle.std.proofs.lemmas.Bool.{eqb-false, cases_lt}
use Rattle.std.proofs.Math.Nat.{suc-mod}
use Rattle.s66_isa.specs.{Among, BLOCK_LIMIT}
use Rattle.s66_line.specs.{is_code, Class, Comment, Other, Refused, Pad, Instruction}
use Rattle.s66_source.specs.{Line, run_at, run_after, place_at, place_after, label_at, label_after, classes_from, classed_lines, instructions, begins_block, put_before, parts_of, Reading, Flagged}
use Rattle.s66_source.specs.{class_at, flagged_lines, all_of, AreFull, AreParts}
use Rattle.s66_source.proofs.ReaderBlocks.{put-before}

-- EACH LINE STANDS IN ONE PART

all_of-put : (l : Line) (parts : List (List Line)) → all_of (put_before l parts) ≡ l ∷ all_of parts
all_of-put l [] = refl
all_of-put l ([] ∷ parts) = refl
all_of-put l ((next ∷ more) ∷ parts) =
    elim (begins_block next) as (λ t. all_of (if t then (l ∷ []) ∷ (next ∷ more) ∷ parts else (l ∷ next ∷ more) ∷ parts) ≡ l ∷ all_of ((next ∷ more) ∷ parts)) [ true ↦ refl | false ↦ refl ]

all_of-parts_of : (lines : List Line) → all_of (parts_of lines) ≡ lines
all_of-parts_of [] = refl
all_of-parts_of (l ∷ lines) = all_of-put l (parts_of lines) ∙ ap (λ ls. l ∷ ls) (all_of-parts_of lines)

-- A LINE AFTER ANOTHER: the next of its run, or the first of a later one

abbrev After : ℕ → ℕ → Line → Type 0
After run index l = ((l.run ≡ run) × (l.index ≡ index)) ⊎ ((run < l.run) × (l.index ≡ 0))

abbrev Follow : ℕ → ℕ → List Line → Type 0
Follow run index [] = Unit {0}
Follow run index (l ∷ lines) = After run index l × Follow l.run (suc l.index) lines

After-later : (run index : ℕ) (l : Line) → After (suc run) 0 l → After run index l
After-later run index l (inl h) = inr (omega (arith, h.0), h.1)
After-later run index l (inr h) = inr (omega (arith, h.0), h.1)

Follow-later : (run index : ℕ) (lines : List Line) → Follow (suc run) 0 lines → Follow run index lines
Follow-later run index [] h = tt
Follow-later run index (l ∷ lines) h = (After-later run index l h.0, h.1)

abbrev Followed : List Flagged → Type 0
Followed lines = (number run index : ℕ) (label : List ℕ) (after : Bool) → Follow run index (instructions (classes_from number run index label after lines))

follow-class : (c : Class) (number run index : ℕ) (label line : List ℕ) (lines : List Flagged) → Followed lines →
    Follow run index (instructions (record { number = number; bytes = line; class = c; run = run_at run c; index = place_at index c; label = label_at label c line }
    ∷ classes_from (suc number) (run_after run c) (place_after index c) (label_after label c line) (is_code c) lines))
follow-class Comment number run index label line lines ih = ih (suc number) run index _ false
follow-class Other number run index label line lines ih = Follow-later run index _ (ih (suc number) (suc run) 0 _ false)
follow-class Refused number run index label line lines ih = ih (suc number) run index _ false
follow-class (Pad true) number run index label line lines ih = Follow-later run index _ (ih (suc number) (suc run) 0 _ true)
follow-class (Pad false) number run index label line lines ih = ih (suc number) run index _ true
follow-class (Instruction true n) number run index label line lines ih = (inr (omega arith, refl), ih (suc number) (suc run) 1 _ true)
follow-class (Instruction false n) number run index label line lines ih = (inl (refl, refl), ih (suc number) run (suc index) _ true)

follow : (lines : List Flagged) → Followed lines
follow [] number run index label after = tt
follow (line ∷ lines) number run index label after = follow-class (class_at after line) number run index label line.bytes lines (follow lines)

-- PARTS: each of one run, its lines by rising index, no more than a block may have

abbrev Steady : ℕ → ℕ → List Line → Type 0
Steady run index [] = Unit {0}
Steady run index (l ∷ lines) = (l.run ≡ run) × (l.index ≡ index) × Steady run (suc index) lines

-- the first line of the parts comes after one
abbrev Starts : ℕ → ℕ → List (List Line) → Type 0
Starts run index [] = Unit {0}
Starts run index ([] ∷ parts) = ⊥
Starts run index ((m ∷ more) ∷ parts) = After run index m

-- the next part begins where the run was cut, or with the run
abbrev Next : ℕ → ℕ → List (List Line) → Type 0
Next run index [] = Unit {0}
Next run index ([] ∷ parts) = ⊥
Next run index ((m ∷ more) ∷ parts) = (m.index % BLOCK_LIMIT ≡ 0) × After run index m

abbrev Cut : List (List Line) → Type 0
Cut [] = Unit {0}
Cut ([] ∷ parts) = ⊥
Cut ((l ∷ more) ∷ parts) = Steady l.run (suc l.index) more × (l.index % BLOCK_LIMIT + suc (length more) ≤ BLOCK_LIMIT) × Next l.run (l.index + suc (length more)) parts × Cut parts

next-below : (index : ℕ) → (suc index % BLOCK_LIMIT ≡ 0 → ⊥) → suc index % BLOCK_LIMIT ≡ suc (index % BLOCK_LIMIT)
next-below index h =
    let below : index % BLOCK_LIMIT < BLOCK_LIMIT = mod_below index BLOCK_LIMIT (omega arith) in
    let whole : suc (index % BLOCK_LIMIT) ≡ BLOCK_LIMIT → suc (index % BLOCK_LIMIT) % BLOCK_LIMIT ≡ 0 = λ e. ap (λ n. n % BLOCK_LIMIT) e in
    let wrapped : suc index % BLOCK_LIMIT ≡ suc (index % BLOCK_LIMIT) % BLOCK_LIMIT = suc-mod index BLOCK_LIMIT in
    wrapped ∙ mod-eq_of_lt (elim (cases_lt (suc (index % BLOCK_LIMIT)) BLOCK_LIMIT) [ inl lt ↦ lt | inr ge ↦ absurd (h (wrapped ∙ whole (omega (arith, ge, below)))) ])

Starts-put : (run index : ℕ) (l : Line) (parts : List (List Line)) → After run index l → Starts run index (put_before l parts)
Starts-put run index l parts h = subst (Starts run index) (sym (put-before l parts)) h

-- a line before the first part, which begins anew
cut-begins : (l next : Line) (more : List Line) (parts : List (List Line)) → next.index % BLOCK_LIMIT ≡ 0 → After l.run (suc l.index) next → Cut ((next ∷ more) ∷ parts) → Cut ((l ∷ []) ∷ (next ∷ more) ∷ parts)
cut-begins l next more parts begins h cut =
    let below : l.index % BLOCK_LIMIT < BLOCK_LIMIT = mod_below l.index BLOCK_LIMIT (omega arith) in
    let one : l.index + 1 ≡ suc l.index = omega arith in
    (tt, omega (arith, below), (begins, rw one h), cut)

-- and which it joins
cut-joins : (l next : Line) (more : List Line) (parts : List (List Line)) → (next.index % BLOCK_LIMIT ≡ 0 → ⊥) → After l.run (suc l.index) next → Cut ((next ∷ more) ∷ parts) → Cut ((l ∷ next ∷ more) ∷ parts)
cut-joins l next more parts joins (inl h) cut =
    let up : suc l.index % BLOCK_LIMIT ≡ suc (l.index % BLOCK_LIMIT) = next-below l.index (λ z. joins (ap (λ n. n % BLOCK_LIMIT) h.1 ∙ z)) in
    let here : next.index % BLOCK_LIMIT ≡ suc (l.index % BLOCK_LIMIT) = ap (λ n. n % BLOCK_LIMIT) h.1 ∙ up in
    let end : l.index + suc (suc (length more)) ≡ next.index + suc (length more) = omega (arith, h.1) in
    let steady : Steady l.run (suc (suc l.index)) more = rw (← h.0, ← h.1) cut.0 in
    let last : Next l.run (l.index + suc (suc (length more))) parts = rw (end, ← h.0) cut.2 in
    ((h.0, h.1, steady), omega (arith, here, cut.1), last, cut.3)
cut-joins l next more parts joins (inr h) cut = absurd (joins (ap (λ n. n % BLOCK_LIMIT) h.1))

cut-either : (t : Bool) (l next : Line) (more : List Line) (parts : List (List Line)) → eqb (next.index % BLOCK_LIMIT) 0 ≡ t → After l.run (suc l.index) next → Cut ((next ∷ more) ∷ parts) →
    Cut (if t then (l ∷ []) ∷ (next ∷ more) ∷ parts else (l ∷ next ∷ more) ∷ parts)
cut-either true l next more parts stated h cut = cut-begins l next more parts (eqb-true (next.index % BLOCK_LIMIT) 0 stated) h cut
cut-either false l next more parts stated h cut = cut-joins l next more parts (eqb-false (next.index % BLOCK_LIMIT) 0 stated) h cut

Cut-put : (l : Line) (parts : List (List Line)) → Starts l.run (suc l.index) parts → Cut parts → Cut (put_before l parts)
Cut-put l [] h cut = (tt, (let below = mod_below l.index BLOCK_LIMIT (omega arith) in omega (arith, below)), tt, tt)
Cut-put l ([] ∷ parts) h cut = absurd h
Cut-put l ((next ∷ more) ∷ parts) h cut = cut-either (begins_block next) l next more parts refl h cut

cut-parts_of : (run index : ℕ) (lines : List Line) → Follow run index lines → Starts run index (parts_of lines) × Cut (parts_of lines)
cut-parts_of run index [] h = (tt, tt)
cut-parts_of run index (l ∷ lines) h =
    let rest = cut-parts_of l.run (suc l.index) lines h.1 in
    (Starts-put run index l (parts_of lines) h.0, Cut-put l (parts_of lines) rest.0 rest.1)

-- WHAT THE PARTS ARE

run-steady : (run index : ℕ) (lines : List Line) → Steady run index lines → (m : Line) → Among m lines → m.run ≡ run
run-steady run index [] h m among = absurd among
run-steady run index (l ∷ lines) h m (inl same) = ap (λ (x : Line). x.run) same ∙ h.0
run-steady run index (l ∷ lines) h m (inr among) = run-steady run (suc index) lines h.2 m among

run-part : (l : Line) (more : List Line) → Steady l.run (suc l.index) more → (m : Line) → Among m (l ∷ more) → m.run ≡ l.run
run-part l more h m (inl same) = ap (λ (x : Line). x.run) same
run-part l more h m (inr among) = run-steady l.run (suc l.index) more h m among

cut-sizes : (parts : List (List Line)) → Cut parts → (part : List Line) → Among part parts → (1 ≤ length part) × (length part ≤ BLOCK_LIMIT)
cut-sizes [] cut part among = absurd among
cut-sizes ([] ∷ parts) cut part among = absurd cut
cut-sizes ((l ∷ more) ∷ parts) cut part (inl same) = rw same (omega arith, omega (arith, cut.1))
cut-sizes ((l ∷ more) ∷ parts) cut part (inr among) = cut-sizes parts cut.3 part among

cut-runs : (parts : List (List Line)) → Cut parts → (part : List Line) → Among part parts → (l m : Line) → Among l part → Among m part → l.run ≡ m.run
cut-runs [] cut part among l m in_l in_m = absurd among
cut-runs ([] ∷ parts) cut part among l m in_l in_m = absurd cut
cut-runs ((k ∷ more) ∷ parts) cut part (inl same) l m in_l in_m =
    run-part k more cut.0 l (subst (Among l) same in_l) ∙ sym (run-part k more cut.0 m (subst (Among m) same in_m))
cut-runs ((k ∷ more) ∷ parts) cut part (inr among) l m in_l in_m = cut-runs parts cut.3 part among l m in_l in_m

-- from one cut of a run to the next there are BLOCK_LIMIT instructions
between-cuts : (first next count : ℕ) → first % BLOCK_LIMIT ≡ 0 → next % BLOCK_LIMIT ≡ 0 → next ≡ first + suc count → suc count ≤ BLOCK_LIMIT → suc count ≡ BLOCK_LIMIT
between-cuts first next count a b c d = omega (arith, a, b, c, d)

full-part : (a b : Line) (more others : List Line) → a.index % BLOCK_LIMIT ≡ 0 → Steady a.run (suc a.index) more → Steady b.run (suc b.index) others → length (a ∷ more) ≤ BLOCK_LIMIT →
    (b.index % BLOCK_LIMIT ≡ 0) × After a.run (a.index + suc (length more)) b →
    (l m : Line) → Among l (a ∷ more) → Among m (b ∷ others) → l.run ≡ m.run → length (a ∷ more) ≡ BLOCK_LIMIT
full-part a b more others zeroth steady_a steady_b few next l m in_l in_m same =
    let one_run : a.run ≡ b.run = sym (run-part a more steady_a l in_l) ∙ same ∙ run-part b others steady_b m in_m in
    elim next.1 [
      | inl h ↦ between-cuts a.index b.index (length more) zeroth next.0 h.1 few
      | inr h ↦ absurd (omega (arith, one_run, h.0))
    ]

-- the first part begins where its run begins or was cut
abbrev Zeroth : List (List Line) → Type 0
Zeroth [] = Unit {0}
Zeroth ([] ∷ parts) = ⊥
Zeroth ((m ∷ more) ∷ parts) = m.index % BLOCK_LIMIT ≡ 0

Zeroth-starts : (run : ℕ) (parts : List (List Line)) → Starts run 0 parts → Zeroth parts
Zeroth-starts run [] h = tt
Zeroth-starts run ([] ∷ parts) h = h
Zeroth-starts run ((m ∷ more) ∷ parts) (inl h) = ap (λ n. n % BLOCK_LIMIT) h.1
Zeroth-starts run ((m ∷ more) ∷ parts) (inr h) = ap (λ n. n % BLOCK_LIMIT) h.1

cut-full : (parts : List (List Line)) → Zeroth parts → Cut parts → AreFull parts
cut-full [] zeroth cut = tt
cut-full ([] ∷ parts) zeroth cut = absurd zeroth
cut-full ((a ∷ more) ∷ []) zeroth cut = tt
cut-full ((a ∷ more) ∷ ([] ∷ parts)) zeroth cut = absurd cut.2
cut-full ((a ∷ more) ∷ ((b ∷ others) ∷ parts)) zeroth cut =
    (full-part a b more others zeroth cut.0 cut.3.0 (omega (arith, cut.1)) cut.2, cut-full ((b ∷ others) ∷ parts) cut.2.0 cut.3)

pub parts : (source : Reading) → AreParts (classed_lines source) (parts_of (instructions (classed_lines source)))
parts source =
    let cut = cut-parts_of 0 0 (instructions (classed_lines source)) (follow (flagged_lines source) 1 0 0 [] false) in
    record {
      whole = all_of-parts_of (instructions (classed_lines source));
      sizes = cut-sizes (parts_of (instructions (classed_lines source))) cut.1;
      runs = cut-runs (parts_of (instructions (classed_lines source))) cut.1;
      full = cut-full (parts_of (instructions (classed_lines source))) (Zeroth-starts 0 (parts_of (instructions (classed_lines source))) cut.0) cut.1;
    }
