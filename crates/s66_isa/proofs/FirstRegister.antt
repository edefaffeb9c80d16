-- The register of the lowest index in a set, and the others.
use Rattle.std.specs.Int.{bit_at, trailing_zeros}
use Rattle.std.proofs.Common.{ℕ, zero, suc, ◌-◌, ◌<◌, ◌≡◌, ◌==◌, Bool, List, [], ◌∷◌, map, filter, bit_and, w32, refl, sym, ap, ◌∙◌, inl, inr, arith, eq-eqb, ne_eqb}
use Rattle.std.proofs.lemmas.Bool.{cases_lt, cond_both}
use Rattle.std.proofs.lemmas.Nat.Bits.{shr_and_one, bit_at-zero, bit_at_above}
use Rattle.s66_isa.specs.declared.registers.Registers.{Registers}
use Rattle.s66_isa.specs.{rising, register_at, is_there, registers_in, register_at-index}
use Rattle.s66_isa.specs.Table.{Reg}
use Rattle.s66_isa.proofs.Lists.{filter-same, among-rising}
use Rattle.s66_isa.proofs.Lowest.{filter-first, lowest-bit}

filter-map : (test : Reg → Bool) (g : ℕ → Reg) (ns : List ℕ) → filter test (map g ns) ≡ map g (filter (λ n. test (g n)) ns)
filter-map test g [] = refl
filter-map test g (n ∷ ns) =
    cond_both (test (g n)) (n ∷ filter (λ m. test (g m)) ns) (filter (λ m. test (g m)) ns) (λ ms. filter test (map g (n ∷ ns)) ≡ map g ms)
    (λ is. rw is (ap (λ rs. g n ∷ rs) (filter-map test g ns)))
    (λ off. rw off (filter-map test g ns))

abbrev pub has_bit : ℕ → ℕ → Bool
has_bit word i = bit_at word i == 1

-- those of the bits that are set
by-bits : (set : Registers) → registers_in set ≡ map register_at (filter (has_bit set.bits) (rising 24 0))
unfolding registers_in
by-bits set =
    filter-map (is_there set.bits) register_at (rising 24 0)
    ∙ ap (map register_at) (filter-same (λ i. is_there set.bits (register_at i)) (has_bit set.bits) (rising 24 0) (λ i among.
    let (low, high) = among-rising 24 0 i among in
    ap (λ bit. bit == 1) (shr_and_one set.bits _) ∙ ap (has_bit set.bits) (register_at-index i (omega (arith, high)))))

pub lowest-few : (set : Registers) → 0 < set.bits → trailing_zeros w32 set.bits < 24
lowest-few set some =
    let (few, own, lower, none, same) = lowest-bit w32 set.bits some (omega (arith, set.few)) in
    elim (cases_lt (trailing_zeros w32 set.bits) 24) [
      | inl below ↦ below
      | inr past ↦ absurd (omega (arith, own, bit_at_above set.bits 24 (trailing_zeros w32 set.bits) set.few past))
    ]

pub first-out : (set rest : Registers) (r : Reg) → 0 < set.bits → rest.bits ≡ bit_and set.bits (set.bits - 1) → r ≡ register_at (trailing_zeros w32 set.bits) → registers_in set ≡ r ∷ registers_in rest
first-out set rest r some is first =
    let t = trailing_zeros w32 set.bits in
    let (few, own, lower, none, same) = lowest-bit w32 set.bits some (omega (arith, set.few)) in
    by-bits set
    ∙ ap (map register_at) (filter-first (has_bit set.bits) (has_bit rest.bits) 24 0 t (omega arith) (lowest-few set some)
    (eq-eqb (bit_at set.bits t) 1 own)
    (λ m low lt. ne_eqb (bit_at set.bits m) 1 (λ e. omega (arith, e, lower m lt)))
    (λ m low le. ne_eqb (bit_at rest.bits m) 1 (λ e. omega (arith, e, none m le, ap (λ word. bit_at word m) is)))
    (λ m lt high. ap (λ bit. bit == 1) (same m lt ∙ ap (λ word. bit_at word m) (sym is))))
    ∙ (ap (λ rs. register_at t ∷ rs) (sym (by-bits rest)) ∙ ap (λ x. x ∷ registers_in rest) (sym first))

pub none-left : (set : Registers) → set.bits ≡ 0 → registers_in set ≡ []
none-left set is = by-bits set ∙ ap (map register_at) (empty 24 0)
  where
    empty : (k low : ℕ) → filter (has_bit set.bits) (rising k low) ≡ []
    empty zero low = refl
    empty (suc k) low = rw (ne_eqb (bit_at set.bits low) 1 (λ e. omega (arith, e, ap (λ word. bit_at word low) is, bit_at-zero low))) (empty k (suc low))
