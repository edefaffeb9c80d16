-- Two frames that are gone over part by part first differ where the definition says (`difference_of`).
use Rattle.std.proofs.Common.{ℕ, suc, ◌+◌, ◌≡◌, ◌≢◌, ◌≤◌, ◌<◌, ◌∙◌, Bool, true, false, true≢false, not, if◌then◌else◌, List, [], ◌∷◌, Option, None, Some, length, drop, refl, ap, ap₂, sym, inl, inr}
use Rattle.std.proofs.Common.{bytes_eq, slice_index_or}
use Rattle.std.proofs.lemmas.Bool.{and_from, and_parts, cases_Bool, not-true}
use Rattle.std.proofs.lemmas.List.{drop_all}
use Rattle.std.proofs.lemmas.Slice.Eq.{bytes_eq-Decides}
use Rattle.s66_source.specs.{FramePart}
use Rattle.s66_compare.specs.{DifferFirst, Shape, first_difference, is_alike, shape_of, shapes}
use Rattle.s66_compare.specs.declared.difference.Difference.{Difference}
use Rattle.s66_compare.proofs.RowSteps.{drop_at}

-- PART BY PART

pub alike_next : (old new : List FramePart) (i : ℕ) (p q : FramePart) → i < length old → i < length new → p ≡ slice_index_or old i p → q ≡ slice_index_or new i q → is_alike p q ≡ true →
    first_difference (drop i old) (drop i new) ≡ first_difference (drop (i + 1) old) (drop (i + 1) new)
alike_next old new i p q below within at is alike = ap₂ first_difference (drop_at old i p below at) (drop_at new i q within is) ∙ rw alike refl

pub alike_not : (old new : List FramePart) (i : ℕ) (p q : FramePart) → i < length old → i < length new → p ≡ slice_index_or old i p → q ≡ slice_index_or new i q → is_alike p q ≡ false →
    first_difference (drop i old) (drop i new) ≡ Some (record { old = Some p.line; new = Some q.line })
alike_not old new i p q below within at is other = ap₂ first_difference (drop_at old i p below at) (drop_at new i q within is) ∙ rw other refl

pub old_more : (old new : List FramePart) (i : ℕ) (p : FramePart) → i < length old → length new ≤ i → p ≡ slice_index_or old i p → first_difference (drop i old) (drop i new) ≡ Some (record { old = Some p.line; new = None })
old_more old new i p below past at = ap₂ first_difference (drop_at old i p below at) (drop_all i new past)

pub new_more : (old new : List FramePart) (i : ℕ) (q : FramePart) → length old ≤ i → i < length new → q ≡ slice_index_or new i q → first_difference (drop i old) (drop i new) ≡ Some (record { old = None; new = Some q.line })
new_more old new i q past below is = ap₂ first_difference (drop_all i old past) (drop_at new i q below is)

pub no_more : (old new : List FramePart) (i : ℕ) → length old ≤ i → length new ≤ i → first_difference (drop i old) (drop i new) ≡ None
no_more old new i past ended = ap₂ first_difference (drop_all i old past) (drop_all i new ended)

-- WHAT IT MEANS

same-sort : (a b : Bool) → (if a then b else not b) ≡ true → a ≡ b
same-sort true b h = sym h
same-sort false b h = sym (not-true b h)

sort-same : (a : Bool) → (if a then a else not a) ≡ true
sort-same true = refl
sort-same false = refl

alike-same : (p q : FramePart) → is_alike p q ≡ true → shape_of p ≡ shape_of q
alike-same p q alike =
    let both = and_parts (if p.is_block then q.is_block else not q.is_block) (bytes_eq p.bytes q.bytes) alike in
    ap₂ (λ (b : Bool) (bytes : List ℕ). record { is_block = b; bytes = bytes }) (same-sort p.is_block q.is_block both.0) ((bytes_eq-Decides p.bytes q.bytes).0 both.1)

pub same-alike : (p q : FramePart) → shape_of p ≡ shape_of q → is_alike p q ≡ true
same-alike p q same =
    let sort : p.is_block ≡ q.is_block = ap (λ (s : Shape). s.is_block) same in
    let bytes : p.bytes ≡ q.bytes = ap (λ (s : Shape). s.bytes) same in
    and_from (if p.is_block then q.is_block else not q.is_block) (bytes_eq p.bytes q.bytes)
    (ap (λ b. if p.is_block then b else not b) (sym sort) ∙ sort-same p.is_block) ((bytes_eq-Decides p.bytes q.bytes).1 bytes)

pub none-same : (old new : List FramePart) → first_difference old new ≡ None → shapes new ≡ shapes old
none-same [] [] none = refl
none-same [] (q ∷ qs) none = cc
none-same (p ∷ ps) [] none = cc
none-same (p ∷ ps) (q ∷ qs) none =
    elim (cases_Bool (is_alike p q)) [
      | inl alike ↦ (let later : first_difference ps qs ≡ None = rw alike at none in ap₂ (λ s ss. s ∷ ss) (sym (alike-same p q alike)) (none-same ps qs later))
      | inr other ↦ (let found : Some (difference (Some p.line) (Some q.line)) ≡ None = rw other at none in cc)
    ]
  where
    difference : Option ℕ → Option ℕ → Difference
    difference o w = record { old = o; new = w }

some-is : (d e : Difference) → Some d ≡ Some e → d ≡ e
some-is d e h = cc

no-shape : (s : Shape) → Some s ≢ None
no-shape s h = cc

none-shape : (s : Shape) → None ≢ Some s
none-shape s h = cc

shape-is : (s t : Shape) → Some s ≡ Some t → s ≡ t
shape-is s t h = cc

pub some-first : (old new : List FramePart) (d : Difference) → first_difference old new ≡ Some d → DifferFirst old new d
some-first [] [] d is = cc
some-first [] (q ∷ qs) d is =
    let same = some-is (record { old = None; new = Some q.line }) d is in
    record { place = 0; before = refl; here = none-shape (shape_of q); old_line = ap (λ (e : Difference). e.old) (sym same); new_line = ap (λ (e : Difference). e.new) (sym same) }
some-first (p ∷ ps) [] d is =
    let same = some-is (record { old = Some p.line; new = None }) d is in
    record { place = 0; before = refl; here = no-shape (shape_of p); old_line = ap (λ (e : Difference). e.old) (sym same); new_line = ap (λ (e : Difference). e.new) (sym same) }
some-first (p ∷ ps) (q ∷ qs) d is =
    elim (cases_Bool (is_alike p q)) [
      | inl alike ↦ (
          let later = some-first ps qs d (rw alike at is) in
          record {
            place = suc later.place;
            before = ap₂ (λ s ss. s ∷ ss) (alike-same p q alike) later.before;
            here = later.here;
            old_line = later.old_line;
            new_line = later.new_line;
          })
      | inr other ↦ (
          let same = some-is (record { old = Some p.line; new = Some q.line }) d (rw other at is) in
          record {
            place = 0;
            before = refl;
            here = (λ alike. absurd (true≢false (sym (same-alike p q (shape-is (shape_of p) (shape_of q) alike)) ∙ other)));
            old_line = ap (λ (e : Difference). e.old) (sym same);
            new_line = ap (λ (e : Difference). e.new) (sym same);
          })
    ]
