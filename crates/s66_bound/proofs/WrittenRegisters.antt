-- Which registers the instructions of a block write, by their costs.
use Rattle.std.proofs.Common.{ℕ, zero, suc, ◌+◌, ◌-◌, ◌≤◌, ◌<◌, ◌≡◌, Bool, true, false, true≢false, List, [], ◌∷◌, ◌++◌, length, get_or, sym, subst, ap, arith, inl, inr, ◌∙◌}
use Rattle.std.proofs.lemmas.Bool.{or_left, or_right, cases_eq, cases_lt}
use Rattle.s66_isa.specs.{some_of, Among, Write, same_reg, has_reg, index_of, registers_in}
use Rattle.s66_isa.specs.Table.{Reg}
use Rattle.s66_isa.proofs.RegisterBits.{has-none, index-apart}
use Rattle.s66_isa.proofs.SameRegister.{has_reg-append, same_reg-self, same_reg-true}
use Rattle.s66_model.specs.{Problem, row_at}
use Rattle.s66_bound.specs.{Cost, IsCostOf, AreCosts, AreRegisters}

some-written : (ws : List Write) (w : Write) → Among w ws → some_of (λ (v : Write). same_reg v.reg w.reg) ws ≡ true
some-written [] w among = absurd among
some-written (v ∷ ws) w among =
    elim among [
      | inl here ↦ or_left (same_reg v.reg w.reg) (some_of (λ (u : Write). same_reg u.reg w.reg) ws) (subst (λ (u : Write). same_reg u.reg w.reg ≡ true) here (same_reg-self w.reg))
      | inr past ↦ or_right (same_reg v.reg w.reg) (some_of (λ (u : Write). same_reg u.reg w.reg) ws) (some-written ws w past)
    ]

abbrev pub writes : Reg → Cost → Bool
writes x e = some_of (λ (w : Write). same_reg w.reg x) e.writes.items

some-cost : (x : Reg) (es : List Cost) (i : ℕ) (d : Cost) → i < length es → writes x (get_or es i d) ≡ true → some_of (writes x) es ≡ true
some-cost x [] i d lt is = absurd (omega (arith, lt))
some-cost x (e ∷ es) zero d lt is = or_left (writes x e) (some_of (writes x) es) is
some-cost x (e ∷ es) (suc i) d lt is = or_right (writes x e) (some_of (writes x) es) (some-cost x es i d (omega (arith, lt)) is)

-- there is a cost at each number
a-cost : (es : List Cost) (i : ℕ) → i < length es → Cost
a-cost [] i lt = absurd (omega (arith, lt))
a-cost (e ∷ es) i lt = e

-- what an instruction writes is in some cost, and it is a register of the machine
pub written-by : (b : Problem) (es : List Cost) (n : ℕ) (w : Write) → AreCosts b es → 1 ≤ n → n ≤ length b.block → Among w (row_at b n).writes →
    (w.reg.digit ≤ 7) × (some_of (λ (e : Cost). some_of (λ (v : Write). same_reg v.reg w.reg) e.writes.items) es ≡ true)
written-by b es n w are low high among =
    let lt : n - 1 < length es = omega (arith, are.count, low, high) in
    let d : Cost = a-cost es (n - 1) lt in
    let e : Cost = get_or es (n - 1) d in
    let back : n - 1 + 1 ≡ n = omega (arith, low) in
    let is : IsCostOf (row_at b n) e = subst (λ m. IsCostOf (row_at b m) e) back (are.each (n - 1) d lt) in
    let written : some_of (λ (v : Write). same_reg v.reg w.reg) (row_at b n).writes ≡ true = some-written (row_at b n).writes w among in
    let used : has_reg w.reg (registers_in e.used) ≡ true = is.used w.reg ∙ or_right (has_reg w.reg (row_at b n).reads) (some_of (λ (v : Write). same_reg v.reg w.reg) (row_at b n).writes) written in
    let digit : w.reg.digit ≤ 7 = elim (cases_lt 7 w.reg.digit) [ inl more ↦ absurd (true≢false (sym used ∙ has-none e.used w.reg more)) | inr few ↦ omega (arith, few) ] in
    (digit, some-cost w.reg es (n - 1) d lt (ap (some_of (λ (v : Write). same_reg v.reg w.reg)) is.writes ∙ written))

pub registers-push : (xs : List Reg) (r : Reg) → r.digit ≤ 7 → AreRegisters xs → AreRegisters (xs ++ r ∷ [])
registers-push [] r low are x (inl is) = subst (λ (y : Reg). y.digit ≤ 7) (sym is) low
registers-push [] r low are x (inr none) = absurd none
registers-push (y ∷ ys) r low are x (inl is) = are x (inl is)
registers-push (y ∷ ys) r low are x (inr among) = registers-push ys r low (λ z later. are z (inr later)) x among

-- each of the first registers that is written in some cost is listed
abbrev pub AreListed : List Cost → ℕ → List Reg → Type 0
AreListed es index listed = (x : Reg) → x.digit ≤ 7 → index_of x < index → some_of (λ (e : Cost). some_of (λ (w : Write). same_reg w.reg x) e.writes.items) es ≡ true → has_reg x listed ≡ true

pub listed-push : (es : List Cost) (index : ℕ) (listed : List Reg) (r : Reg) → r.digit ≤ 7 → index_of r ≡ index → AreListed es index listed → AreListed es (index + 1) (listed ++ r ∷ [])
listed-push es index listed r digit here known x low lt written =
    has_reg-append x listed (r ∷ [])
    ∙ elim (cases_eq (index_of x) index) [
      | inl same ↦ or_right (has_reg x listed) (has_reg x (r ∷ [])) (or_left (same_reg x r) false (index-apart x r low digit (same ∙ sym here)))
      | inr past ↦ or_left (has_reg x listed) (has_reg x (r ∷ [])) (known x low (omega (arith, past, lt)) written)
    ]

pub listed-pass : (es : List Cost) (index : ℕ) (listed : List Reg) (r : Reg) → r.digit ≤ 7 → index_of r ≡ index → some_of (λ (e : Cost). some_of (λ (w : Write). same_reg w.reg r) e.writes.items) es ≡ false →
    AreListed es index listed → AreListed es (index + 1) listed
listed-pass es index listed r digit here none known x low lt written =
    elim (cases_eq (index_of x) index) [
      | inl same ↦
          let is : x ≡ r = same_reg-true x r (index-apart x r low digit (same ∙ sym here)) in
          absurd (true≢false (sym written ∙ (ap (λ (y : Reg). some_of (λ (e : Cost). some_of (λ (w : Write). same_reg w.reg y) e.writes.items) es) is ∙ none)))
      | inr past ↦ known x low (omega (arith, past, lt)) written
    ]
