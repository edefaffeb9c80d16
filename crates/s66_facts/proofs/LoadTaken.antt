-- Load lines: what their tests say, and that an arc more leaves no ring.
use Rattle.std.proofs.Common.{ℕ, zero, suc, ◌+◌, ◌-◌, ◌^◌, ◌≤◌, ◌<◌, ◌≡◌, ◌&&◌, false, true, true≢false, List, [], ◌∷◌, ◌++◌, length, get_or, drop, refl, sym, ap, arith, inl, inr, leb, ◌∙◌, subst}
use Rattle.std.proofs.Common.{leb-true}
use Rattle.std.proofs.lemmas.Bool.{and_parts, and_cases, and_left, and_right}
use Rattle.std.proofs.lemmas.List.{at_drop_more}
use Rattle.s66_isa.specs.{Kind, every, Among, has, numbers_in, no_set}
use Rattle.s66_isa.proofs.Lists.{split-among}
use Rattle.s66_model.specs.{Problem}
use Rattle.s66_moments.specs.{LoadLine, KnownArc, IsNumber, Network, is_number, are_rising, is_used, is_arc_up}
use Rattle.s66_facts.specs.{is_in, before_in, Ground, IsAcyclic}

-- nothing stands before what isn't of the block
pub outside : (g : Ground) (m n : ℕ) → length g.marks ≡ length g.problem.block → (is_number g.problem m && is_number g.problem n) ≡ false → before_in g.marks m n ≡ false
outside g m n count off =
    let same : (is_in g.marks m && is_in g.marks n) ≡ (is_number g.problem m && is_number g.problem n) = ap (λ c. (leb 1 m && leb m c) && (leb 1 n && leb n c)) count in
    and_left (is_in g.marks m && is_in g.marks n) (has m (numbers_in (get_or g.marks (n - 1) no_set))) (same ∙ off)

-- no number is left to be compared
pub rising-end : (ns : List ℕ) (i : ℕ) → length ns ≤ i + 1 → are_rising (drop i ns) ≡ true
rising-end [] zero few = refl
rising-end [] (suc i) few = refl
rising-end (n ∷ []) zero few = refl
rising-end (m ∷ (n ∷ ns)) zero few = absurd (omega (arith, few))
rising-end (n ∷ ns) (suc i) few = rising-end ns i (omega (arith, few))

-- the first of those that are left
pub number-at : (b : Problem) (ns : List ℕ) (i : ℕ) → every (is_number b) (drop i ns) ≡ true → i < length ns → IsNumber b (get_or ns i 0)
number-at b ns i all less =
    let n : ℕ = get_or ns i 0 in
    let (is_n, rest) = and_parts (is_number b n) (every (is_number b) (drop (i + 1) ns)) (sym (at_drop_more (every (is_number b)) ns i 0 less) ∙ all) in
    let (low, high) = and_parts (leb 1 n) (leb n (length b.block)) is_n in
    (leb-true 1 n low, leb-true n (length b.block) high)

-- what isn't of the block isn't used
pub unused : (b : Problem) (arcs : Network) (line : LoadLine) (kind : Kind) (time : ℕ) (ns : List ℕ) → every (is_number b) ns ≡ false → every (is_used b arcs line kind time) ns ≡ false
unused b arcs line kind time [] off = absurd (true≢false off)
unused b arcs line kind time (n ∷ ns) off =
    elim (and_cases (is_number b n) (every (is_number b) ns) off) [
      | inl first ↦ and_left (is_used b arcs line kind time n) (every (is_used b arcs line kind time) ns) (rw first refl)
      | inr rest ↦ and_right (is_used b arcs line kind time n) (every (is_used b arcs line kind time) ns) (unused b arcs line kind time ns rest)
    ]

-- all arcs lead up, with one more that does
pub load-ordered : (g : Ground) (last : KnownArc) → IsAcyclic g → last.wait ≤ 2 ^ 32 - 1 → is_arc_up g.problem (before_in g.marks) last.from last.to ≡ true → IsAcyclic (record { problem = g.problem; marks = g.marks; loads = g.loads ++ last ∷ [] })
load-ordered g last ordered small up =
    record {
      few = ordered.few;
      count = ordered.count;
      transitive = ordered.transitive;
      no_ring = ordered.no_ring;
      up = λ (load : KnownArc) among. each (λ l. is_arc_up g.problem (before_in g.marks) l.from l.to ≡ true) ordered.up up load among;
      short = λ (load : KnownArc) among. each (λ l. l.wait ≤ 2 ^ 32 - 1) ordered.short small load among;
    }
  where
    each : (P : KnownArc → Type 0) → ((load : KnownArc) → Among load g.loads → P load) → P last → (load : KnownArc) → Among load (g.loads ++ last ∷ []) → P load
    each P old new load among =
        elim (split-among load g.loads (last ∷ []) among) [
          | inl before ↦ old load before
          | inr here ↦ elim here [
            | inl is ↦ subst P (sym is) new
            | inr none ↦ absurd none
          ]
        ]
