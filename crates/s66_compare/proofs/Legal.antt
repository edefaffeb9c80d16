-- A block whose instructions all have their partners, and in whose order nothing is missing, is the old one in a legal order.
use Rattle.std.proofs.Common.{ℕ, ◌+◌, ◌≡◌, ◌≢◌, ◌≤◌, ◌∙◌, Bool, true, false, true≢false, ◌&&◌, not, if◌then◌else◌, List, [], ◌∷◌, ◌++◌, length, map, refl, ap, ap₂, sym, subst, arith, inl, inr}
use Rattle.std.proofs.Common.{append_assoc, eqb, ◌==◌, bytes_eq, nat_lt, eqb-true, ltb-false, append-nil}
use Rattle.std.proofs.lemmas.Bool.{and_parts, cases_Bool, not-true}
use Rattle.std.proofs.lemmas.List.{length-map}
use Rattle.std.proofs.lemmas.Slice.Eq.{bytes_eq-Decides}
use Rattle.s66_isa.specs.{has, numbers, Instr}
use Rattle.s66_model.specs.{depends, GoesOn, IsLegal}
use Rattle.s66_model.proofs.Beginnings.{beginning-front, length-rising}
use Rattle.s66_model.proofs.LegalOrders.{depends-from, depends-lt, each-needs, ready-from, ready-parts}
use Rattle.s66_model.proofs.Remaining.{legal-parts}
use Rattle.s66_line.specs.{Block, instrs_of, line_of, whole_text_of}
use Rattle.s66_compare.specs.{AreWithin, first_left, is_untaken, paired, partner, partners, texts_of, by_order, first_missing, is_kept, is_missing, kept_verdict, verdict_of, BlockVerdict, NotLegal}
use Rattle.s66_compare.specs.{OtherNew, OtherOld}
use Rattle.s66_compare.proofs.Firsts.{first_passes, none_passes}

-- NUMBERS OF THE BLOCK, each for the first time, after those before

abbrev Fresh : ℕ → List ℕ → List ℕ → Type 0
Fresh count before [] = Unit {0}
Fresh count before (n ∷ ns) = (1 ≤ n) × (n ≤ count) × (has n before ≡ false) × Fresh count (before ++ n ∷ []) ns

pub fresh-within : (count : ℕ) (before ns : List ℕ) → Fresh count before ns → AreWithin count ns
fresh-within count before [] fresh = tt
fresh-within count before (n ∷ ns) fresh = (fresh.0, fresh.1, fresh-within count (before ++ n ∷ []) ns fresh.3)

-- what was taken, and then numbers that have the texts as far as they go
record Takes (old : Block) (taken : List ℕ) (texts : List (List ℕ)) : Type 0 where
  more : List ℕ
  all : partners old taken texts ≡ taken ++ more
  fresh : Fresh (length (instrs_of old)) taken more
  same : length texts ≤ length more → map (whole_text_of old) more ≡ texts

no_more : (old : Block) (taken : List ℕ) (text : List ℕ) (texts : List (List ℕ)) → (partner old taken text == 0) ≡ true → Takes old taken (text ∷ texts)
no_more old taken text texts none =
    record {
      more = [];
      all = rw none (sym (append-nil taken));
      fresh = tt;
      same = (λ enough. absurd (omega (arith, enough)));
    }

takes-next : (old : Block) (taken : List ℕ) (text : List ℕ) (texts : List (List ℕ)) → (partner old taken text == 0) ≡ false → Takes old (taken ++ partner old taken text ∷ []) texts → Takes old taken (text ∷ texts)
takes-next old taken text texts some later =
    let n = partner old taken text in
    let count = length (instrs_of old) in
    let other : n ≢ 0 = λ none. true≢false (sym (ap (λ k. k == 0) none) ∙ some) in
    let first = first_passes (is_untaken old taken text) count 1 n (omega arith) refl other in
    let stated = and_parts (bytes_eq (whole_text_of old n) text) (not (has n taken)) first.2 in
    record {
      more = n ∷ later.more;
      all = rw some (later.all ∙ append_assoc taken (n ∷ []) later.more);
      fresh = (first.0, omega (arith, first.1), not-true (has n taken) stated.1, later.fresh);
      same = (λ enough. ap₂ (λ t ts. t ∷ ts) ((bytes_eq-Decides (whole_text_of old n) text).0 stated.0) (later.same (omega (arith, enough))));
    }

takes : (old : Block) (taken : List ℕ) (texts : List (List ℕ)) → Takes old taken texts
takes old taken [] = record { more = []; all = sym (append-nil taken); fresh = tt; same = (λ enough. refl) }
takes old taken (text ∷ texts) =
    elim (cases_Bool (partner old taken text == 0)) [
      | inl none ↦ no_more old taken text texts none
      | inr some ↦ takes-next old taken text texts some (takes old (taken ++ partner old taken text ∷ []) texts)
    ]

pub paired-fresh : (old new : Block) → Fresh (length (instrs_of old)) [] (paired old new)
paired-fresh old new = (let all = takes old [] (texts_of new) in subst (Fresh (length (instrs_of old)) []) (sym all.all) all.fresh)

pub length-texts : (block : Block) → length (texts_of block) ≡ length (instrs_of block)
length-texts block = length-map (numbers (instrs_of block)) (whole_text_of block) ∙ length-rising (length (instrs_of block)) 1

pub paired-texts : (old new : Block) → length (instrs_of new) ≤ length (paired old new) → map (whole_text_of old) (paired old new) ≡ texts_of new
paired-texts old new enough =
    let all = takes old [] (texts_of new) in
    ap (map (whole_text_of old)) all.all ∙ all.same (omega (arith, enough, length-texts new, ap (λ (ns : List ℕ). length ns) all.all))

-- NOTHING IS MISSING

pub needed : (d h : Bool) → (d && not h) ≡ false → d ≡ true → h ≡ true
needed true true h is = refl
needed true false h is = absurd (true≢false h)
needed false h none is = absurd (true≢false (sym is))

met : (block : List Instr) (before : List ℕ) (n : ℕ) → n ≤ length block → first_missing block before n ≡ 0 → (a : ℕ) → depends block a n ≡ true → has a before ≡ true
met block before n most none a is =
    let low = depends-from block a n is in
    let high = depends-lt block a n is in
    needed (depends block a n) (has a before) (none_passes (is_missing block before n) (length block) 1 (omega arith) none a low (omega (arith, high, most))) is

not-kept : (n a : ℕ) → is_kept (NotLegal n a) ≡ true → ⊥
not-kept n a h = true≢false (sym h)

goes : (block : List Instr) (kept : BlockVerdict) (before ns : List ℕ) → Fresh (length block) before ns → is_kept (by_order block kept before ns) ≡ true → GoesOn block before ns
goes block kept before [] fresh is = tt
goes block kept before (n ∷ ns) fresh is =
    elim (cases_Bool (first_missing block before n == 0)) [
      | inl none ↦ (
          let later : is_kept (by_order block kept (before ++ n ∷ []) ns) ≡ true = rw none at is in
          let all = met block before n fresh.1 (eqb-true (first_missing block before n) 0 none) in
          (ready-from block before n fresh.0 fresh.1 fresh.2 (each-needs block before n all n), goes block kept (before ++ n ∷ []) ns fresh.3 later))
      | inr some ↦ absurd (not-kept n (first_missing block before n) (rw some at is))
    ]

-- NONE IS LEFT

present : (h : Bool) → not h ≡ false → h ≡ true
present true is = refl
present false is = absurd (true≢false is)

all-there : (old : Block) (ns : List ℕ) → first_left old ns ≡ 0 → (n : ℕ) → 1 ≤ n → n ≤ length (instrs_of old) → has n ns ≡ true
all-there old ns none n least most = present (has n ns) (none_passes (λ m. not (has m ns)) (length (instrs_of old)) 1 (omega arith) none n least (omega (arith, most)))

whole : (block : List Instr) (ns rest : List ℕ) → ((n : ℕ) → 1 ≤ n → n ≤ length block → has n ns ≡ true) → IsLegal block (ns ++ rest) → IsLegal block ns
whole block ns [] there legal = subst (IsLegal block) (append-nil ns) legal
whole block ns (n ∷ rest) there legal =
    let parts = legal-parts block ns (n ∷ rest) legal in
    let ready = ready-parts block ns n parts.1.0.0 in
    absurd (true≢false (sym (there n ready.0 ready.1) ∙ ready.2))

-- THE VERDICT

new-not_kept : (line : ℕ) → is_kept (OtherNew line) ≡ true → ⊥
new-not_kept line h = true≢false (sym h)

old-not_kept : (line : ℕ) → is_kept (OtherOld line) ≡ true → ⊥
old-not_kept line h = true≢false (sym h)

-- by which a new block is the old one in a legal order
pub kept-legal : (old new : Block) → is_kept (verdict_of old new (paired old new)) ≡ true → IsLegal (instrs_of old) (paired old new) × (texts_of new ≡ map (whole_text_of old) (paired old new))
kept-legal old new is =
    elim (cases_Bool (nat_lt (length (paired old new)) (length (instrs_of new)))) [
      | inl few ↦ absurd (new-not_kept (line_of new (length (paired old new) + 1)) (rw few at is))
      | inr enough ↦ by_left (first_left old (paired old new) == 0) refl (ltb-false (length (paired old new)) (length (instrs_of new)) enough) (rw enough at is)
    ]
  where
    by_left : (t : Bool) → (first_left old (paired old new) == 0) ≡ t → length (instrs_of new) ≤ length (paired old new) →
        is_kept (if t then by_order (instrs_of old) (kept_verdict (instrs_of old) (paired old new)) [] (paired old new) else OtherOld (line_of old (first_left old (paired old new)))) ≡ true →
        IsLegal (instrs_of old) (paired old new) × (texts_of new ≡ map (whole_text_of old) (paired old new))
    by_left false some enough is = absurd (old-not_kept (line_of old (first_left old (paired old new))) is)
    by_left true none enough is =
        let block = instrs_of old in
        let ns = paired old new in
        let goes_on = goes block (kept_verdict block ns) [] ns (paired-fresh old new) is in
        let front = beginning-front block ns goes_on in
        (whole block ns front.0 (all-there old ns (eqb-true (first_left old ns) 0 none)) front.1, sym (paired-texts old new enough))
