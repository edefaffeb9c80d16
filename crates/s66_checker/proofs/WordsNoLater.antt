-- What the words of pasts say of the tests of dominance.
use Rattle.std.proofs.Common.{ℕ, ◌+◌, ◌≤◌, ◌<◌, ◌≡◌, ◌==◌, ◌↔◌, Bool, IsTrue, true, false, cond, max, List, get_or, reverse, sym, ap, subst, ◌∙◌, arith, leb, le-leb, eq-eqb}
use Rattle.std.proofs.lemmas.Bool.{lt-leb}
use Rattle.std.proofs.lemmas.Bool.Decides.{Decides-like, same_from_decides}
use Rattle.s66_isa.specs.declared.instr.Memory.TheVariants as memory
use Rattle.s66_isa.specs.{Profile, Reg, index_of, register_at, word_of, register_at-index, has_reg, memory_pair, touches, stores}
use Rattle.s66_isa.proofs.Lists.{greatest-same}
use Rattle.s66_isa.proofs.RegisterBits.{index-few, register_at-digit}
use Rattle.s66_model.specs.{Point, next, done_at, done_of, readers_wait, place_in_word, references_wait, stores_wait, Clamp}
use Rattle.s66_model.proofs.PushedBoth.{pair-store, pair-load}
use Rattle.s66_checker.specs.{AreWords, Words, are_registers_no_later, are_units_no_later, is_no_later}
use Rattle.s66_checker.proofs.NoLater.{registers-Decides, third-fails, fourth-fails, fifth-fails, sixth-fails, last-left}
use Rattle.s66_checker.proofs.Reversed.{greatest-reverse}

-- REGISTERS

abbrev Tells : List ℕ → (Reg → ℕ) → Type 0
Tells words f = (r : Reg) → r.digit ≤ 7 → word_of words r ≡ f r

-- no word is later than the other of its index, or than the clamp
abbrev pub AreWithin : List ℕ → List ℕ → ℕ → Type 0
AreWithin ws vs clamp = (i : ℕ) → i < 24 → get_or ws i 0 ≤ max (get_or vs i 0) clamp

registers-stated : (f g : Reg → ℕ) (ws vs : List ℕ) (clamp : ℕ) (stated : Bool) → Tells ws f → Tells vs g → IsTrue stated ↔ AreWithin ws vs clamp → stated ≡ are_registers_no_later clamp f g
registers-stated f g ws vs clamp stated own other is =
    same_from_decides stated (are_registers_no_later clamp f g)
    (Decides-like stated
    (λ within r low. omega (arith, own r low, other r low, within (index_of r) (index-few r low)))
    (λ each i lt.
    let r : Reg = register_at i in
    let low : r.digit ≤ 7 = register_at-digit i in
    subst (λ k. get_or ws k 0 ≤ max (get_or vs k 0) clamp) (register_at-index i lt) (omega (arith, own r low, other r low, each r low)))
    is)
    (registers-Decides clamp f g)

module _ (xs ys : List Point) (w v : Words) (own : AreWords xs w) (other : AreWords ys v) where
  pub writers-stated : (clamp : ℕ) (stated : Bool) → IsTrue stated ↔ AreWithin w.done.words v.done.words clamp → stated ≡ are_registers_no_later clamp (done_of (reverse xs)) (done_of (reverse ys))
  writers-stated clamp stated is =
      registers-stated (done_of (reverse xs)) (done_of (reverse ys)) w.done.words v.done.words clamp stated
      (λ r low. own.done r low ∙ sym (greatest-reverse (λ (p : Point). done_at p r) xs)) (λ r low. other.done r low ∙ sym (greatest-reverse (λ (p : Point). done_at p r) ys)) is

  pub readers-stated : (clamp : ℕ) (stated : Bool) → IsTrue stated ↔ AreWithin w.read.words v.read.words clamp → stated ≡ are_registers_no_later clamp (readers_wait (reverse xs)) (readers_wait (reverse ys))
  readers-stated clamp stated is =
      registers-stated (readers_wait (reverse xs)) (readers_wait (reverse ys)) w.read.words v.read.words clamp stated
      (λ r low. own.read r low ∙ sym (greatest-reverse (λ (p : Point). cond {A = ℕ} (has_reg r p.row.reads) (p.start + 1) 0) xs))
      (λ r low. other.read r low ∙ sym (greatest-reverse (λ (p : Point). cond {A = ℕ} (has_reg r p.row.reads) (p.start + 1) 0) ys)) is

-- MEMORY: a store waits for each reference, and a load for each store

pub references-stated : (xs : List Point) (w : Words) → AreWords xs w → w.store ≡ references_wait (reverse xs)
references-stated xs w are =
    are.store
    ∙ greatest-same (λ (p : Point). cond {A = ℕ} (memory_pair p.row.memory memory.Store) (p.start + 1) 0) (λ (p : Point). cond {A = ℕ} (touches p.row.memory) (p.start + 1) 0) xs (λ p among. ap (λ b. cond {A = ℕ} b (p.start + 1) 0) (pair-store p.row.memory))
    ∙ sym (greatest-reverse (λ (p : Point). cond {A = ℕ} (touches p.row.memory) (p.start + 1) 0) xs)

pub stores-stated : (xs : List Point) (w : Words) → AreWords xs w → w.load ≡ stores_wait (reverse xs)
stores-stated xs w are =
    are.load
    ∙ greatest-same (λ (p : Point). cond {A = ℕ} (memory_pair p.row.memory memory.Load) (p.start + 1) 0) (λ (p : Point). cond {A = ℕ} (stores p.row.memory) (p.start + 1) 0) xs (λ p among. ap (λ b. cond {A = ℕ} b (p.start + 1) 0) (pair-load p.row.memory))
    ∙ sym (greatest-reverse (λ (p : Point). cond {A = ℕ} (stores p.row.memory) (p.start + 1) 0) xs)

-- THE TESTS IN TURN, each by what is stated of it

module _ (profile : Profile) (c : Clamp) (q p : List Point) where
  abbrev pub Slot : Bool
  Slot = leb (next q) (next p)

  abbrev pub Phase : Bool
  Phase = place_in_word q == place_in_word p

  abbrev pub Writers : Bool
  Writers = are_registers_no_later c.others (done_of q) (done_of p)

  abbrev pub Readers : Bool
  Readers = are_registers_no_later c.readers (readers_wait q) (readers_wait p)

  abbrev pub Units : Bool
  Units = are_units_no_later profile c.others q p

  abbrev pub References : Bool
  References = leb (references_wait q) (max (references_wait p) c.others)

  abbrev pub Stores : Bool
  Stores = leb (stores_wait q) (max (stores_wait p) c.others)

  pub writers-fail : (stated : Bool) → stated ≡ Writers → stated ≡ false → false ≡ is_no_later profile c q p
  writers-fail stated e h = third-fails Slot Phase Writers Readers Units References Stores (sym e ∙ h)

  pub readers-fail : (stated : Bool) → stated ≡ Readers → stated ≡ false → false ≡ is_no_later profile c q p
  readers-fail stated e h = fourth-fails Slot Phase Writers Readers Units References Stores (sym e ∙ h)

  pub units-fail : (stated : Bool) → stated ≡ Units → stated ≡ false → false ≡ is_no_later profile c q p
  units-fail stated e h = fifth-fails Slot Phase Writers Readers Units References Stores (sym e ∙ h)

  pub references-fail : max (references_wait p) c.others < references_wait q → false ≡ is_no_later profile c q p
  references-fail late = sixth-fails Slot Phase Writers Readers Units References Stores (lt-leb (references_wait q) (max (references_wait p) c.others) late)

  pub stores-left : next q ≤ next p → place_in_word q ≡ place_in_word p → (writers readers units : Bool) → writers ≡ Writers → writers ≡ true → readers ≡ Readers → readers ≡ true → units ≡ Units → units ≡ true →
      references_wait q ≤ max (references_wait p) c.others → (stated : Bool) → stated ≡ Stores → stated ≡ is_no_later profile c q p
  stores-left slot phase writers readers units ew hw er hr eu hu references stated e =
      e
      ∙ last-left Slot Phase Writers Readers Units References Stores (le-leb (next q) (next p) slot) (eq-eqb (place_in_word q) (place_in_word p) phase) (sym ew ∙ hw) (sym er ∙ hr) (sym eu ∙ hu)
      (le-leb (references_wait q) (max (references_wait p) c.others) references)
