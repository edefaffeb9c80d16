-- The tests of `src/replay/dominance.rt` decide what they state: registers, places in a word, and units, each by itself.
use Rattle.std.proofs.Common.{ℕ, ◌≤◌, ◌<◌, ◌≡◌, ◌&&◌, Bool, true, false, max, List, ◌++◌, map, get_or, refl, sym, arith, inl, inr, leb, Decides, le-leb, leb-true}
use Rattle.std.proofs.lemmas.Bool.{and_left, and_right}
use Rattle.s66_isa.specs.{Kind, Boolean, Shift, Add, LongAdd, Multiply, Divide, Increment, Profile, Bank, A, B, X, Reg, Among, rising, all_registers, a_reg, b_reg, x_reg, copies_of, all_kinds}
use Rattle.s66_isa.proofs.Lists.{every-each, each-every, among-front, among-rest, rising-among, among-rising, among-map}
use Rattle.s66_model.specs.{Point, free_times}
use Rattle.s66_checker.specs.{are_registers_no_later, are_places_no_later, are_units_no_later}

pub le-Decides : (a b : ℕ) → Decides (leb a b) (a ≤ b)
le-Decides a b = (leb-true a b, le-leb a b)

-- REGISTERS

among-all : (bank : Bank) (digit : ℕ) → digit ≤ 7 → Among (record { bank = bank; digit = digit }) all_registers
among-all A digit low =
    among-front (a_reg digit) (map a_reg (rising 8 0)) (map b_reg (rising 8 0) ++ map x_reg (rising 8 0)) (among-map a_reg digit (rising 8 0) (rising-among 8 0 digit (omega arith) (omega (arith, low))))
among-all B digit low =
    among-rest (b_reg digit) (map a_reg (rising 8 0)) (map b_reg (rising 8 0) ++ map x_reg (rising 8 0))
    (among-front (b_reg digit) (map b_reg (rising 8 0)) (map x_reg (rising 8 0)) (among-map b_reg digit (rising 8 0) (rising-among 8 0 digit (omega arith) (omega (arith, low)))))
among-all X digit low =
    among-rest (x_reg digit) (map a_reg (rising 8 0)) (map b_reg (rising 8 0) ++ map x_reg (rising 8 0))
    (among-rest (x_reg digit) (map b_reg (rising 8 0)) (map x_reg (rising 8 0)) (among-map x_reg digit (rising 8 0) (rising-among 8 0 digit (omega arith) (omega (arith, low)))))

all-low : (r : Reg) → Among r all_registers → r.digit ≤ 7
all-low r among = leb-true r.digit 7 (every-each (λ (s : Reg). leb s.digit 7) r all_registers refl among)

pub registers-Decides : (clamp : ℕ) (f g : Reg → ℕ) → Decides (are_registers_no_later clamp f g) ((r : Reg) → r.digit ≤ 7 → f r ≤ max (g r) clamp)
registers-Decides clamp f g =
    let test = λ (r : Reg). leb (f r) (max (g r) clamp) in (
      λ h r low. leb-true (f r) (max (g r) clamp) (every-each test r all_registers h (among-all r.bank r.digit low)),
      λ each. each-every test all_registers (λ r among. le-leb (f r) (max (g r) clamp) (each r (all-low r among))),
    )

-- UNITS

pub places-Decides : (count clamp : ℕ) (xs ys : List ℕ) → Decides (are_places_no_later count clamp xs ys) ((i : ℕ) → i < count → get_or xs i 0 ≤ max (get_or ys i 0) clamp)
places-Decides count clamp xs ys =
    let test = λ (i : ℕ). leb (get_or xs i 0) (max (get_or ys i 0) clamp) in (
      λ h i lt. leb-true (get_or xs i 0) (max (get_or ys i 0) clamp) (every-each test i (rising count 0) h (rising-among count 0 i (omega arith) (omega (arith, lt)))),
      λ each. each-every test (rising count 0) (λ i among. le-leb (get_or xs i 0) (max (get_or ys i 0) clamp) (each i (omega (arith, (among-rising count 0 i among).1)))),
    )

among-kinds : (kind : Kind) → Among kind all_kinds
among-kinds Boolean = inl refl
among-kinds Shift = inr (inl refl)
among-kinds Add = inr (inr (inl refl))
among-kinds LongAdd = inr (inr (inr (inl refl)))
among-kinds Multiply = inr (inr (inr (inr (inl refl))))
among-kinds Divide = inr (inr (inr (inr (inr (inl refl)))))
among-kinds Increment = inr (inr (inr (inr (inr (inr (inl refl))))))

pub units-Decides : (profile : Profile) (clamp : ℕ) (q p : List Point) → Decides (are_units_no_later profile clamp q p) ((kind : Kind) (i : ℕ) → i < copies_of profile kind → get_or (free_times kind q) i 0 ≤ max (get_or (free_times kind p) i 0) clamp)
units-Decides profile clamp q p =
    let test = λ (kind : Kind). are_places_no_later (copies_of profile kind) clamp (free_times kind q) (free_times kind p) in (
      λ h kind. (places-Decides (copies_of profile kind) clamp (free_times kind q) (free_times kind p)).0 (every-each test kind all_kinds h (among-kinds kind)),
      λ each. each-every test all_kinds (λ kind among. (places-Decides (copies_of profile kind) clamp (free_times kind q) (free_times kind p)).1 (each kind)),
    )

-- SEVEN TESTS OF WHICH ONE FAILS, or only the last is left

module _ (a b c d e f g : Bool) where
  abbrev pub All : Bool
  All = a && b && c && d && e && f && g

  -- all fail if the first n do
  upto-f : (a && b && c && d && e && f) ≡ false → false ≡ All
  upto-f h = sym (and_left _ g h)

  upto-e : (a && b && c && d && e) ≡ false → false ≡ All
  upto-e h = upto-f (and_left _ f h)

  upto-d : (a && b && c && d) ≡ false → false ≡ All
  upto-d h = upto-e (and_left _ e h)

  upto-c : (a && b && c) ≡ false → false ≡ All
  upto-c h = upto-d (and_left _ d h)

  pub third-fails : c ≡ false → false ≡ All
  third-fails h = upto-c (and_right (a && b) c h)

  pub fourth-fails : d ≡ false → false ≡ All
  fourth-fails h = upto-d (and_right (a && b && c) d h)

  pub fifth-fails : e ≡ false → false ≡ All
  fifth-fails h = upto-e (and_right (a && b && c && d) e h)

  pub sixth-fails : f ≡ false → false ≡ All
  sixth-fails h = upto-f (and_right (a && b && c && d && e) f h)

  pub last-left : a ≡ true → b ≡ true → c ≡ true → d ≡ true → e ≡ true → f ≡ true → g ≡ All
  last-left ha hb hc hd he hf = rw (ha, hb, hc, hd, he, hf) refl
