-- What an instruction writes, and how late.
use Rattle.std.proofs.Common.{ℕ, ◌≤◌, ◌≡◌, Bool, true, false, cond, ◌&&◌, leb, ltb, eqb, ◌||◌, List, [], ◌∷◌, ◌++◌, map, max, true≢false, arith, refl, sym, ap, ◌∙◌, leb-true, le-ltb}
use Rattle.std.proofs.lemmas.List.{map-append}
use Rattle.std.proofs.lemmas.Bool.{and_parts}
use Rattle.s66_isa.specs.declared.instr.Memory.TheVariants as memory
use Rattle.s66_isa.specs.{Profile, greatest, Write, Row, row, register_latency, writes_of, hold_of, latency_of, held_registers, loaded_registers, memory_of, touches, a_reg}
use Rattle.s66_isa.specs.Table.{Reg, Instr}

-- a result that the unit holds
abbrev pub held_write : ℕ → Reg → Write
held_write hold r = record { reg = r; latency = hold; held = true }

-- a result that it doesn't hold
abbrev pub loaded_write : ℕ → Reg → Write
loaded_write load r = record { reg = r; latency = load; held = false }

-- AS REGISTERS WITH THEIR LATENCIES

seen-each : (latency : ℕ) (held : Bool) (rs : List Reg) → map register_latency (map (λ r. record { reg = r; latency = latency; held = held }) rs) ≡ map (λ r. (r, latency)) rs
seen-each latency held [] = refl
seen-each latency held (r ∷ rs) = ap (λ (ws : List (Reg × ℕ)). (r, latency) ∷ ws) (seen-each latency held rs)

-- what timing sees of the results is what is written
pub row-writes : (p : Profile) (n : Instr) → map register_latency (row p n).writes ≡ writes_of p n
unfolding row
row-writes p n =
    let hold = hold_of p n.op.code in
    let held = held_registers n in
    let loaded = loaded_registers (memory_of n) n in
    map-append register_latency (map (held_write hold) held) (map (loaded_write p.load) loaded)
    ∙ (ap (λ (ws : List (Reg × ℕ)). ws ++ map register_latency (map (loaded_write p.load) loaded)) (seen-each hold true held)
    ∙ ap (λ (ws : List (Reg × ℕ)). map (λ r. (r, hold)) held ++ ws) (seen-each p.load false loaded))

-- HOW LONG A UNIT WORKS

either : (test : Bool) (t u : ℕ) → (1 ≤ t) × (t ≤ 100) → (1 ≤ u) × (u ≤ 100) → (1 ≤ cond test t u) × (cond test t u ≤ 100)
either true t u ht hu = ht
either false t u ht hu = hu

pub hold_range : (p : Profile) (code : ℕ) → (1 ≤ hold_of p code) × (hold_of p code ≤ 100)
hold_range p code =
    either (ltb code 0o20) p.boolean _ (p.least.0, p.greatest.0)
    (either (eqb code 0o24 || eqb code 0o25) p.normalise _ (p.least.2, p.greatest.2)
    (either (ltb code 0o30) p.shift _ (p.least.1, p.greatest.1)
    (either (ltb code 0o36) p.add _ (p.least.3, p.greatest.3)
    (either (ltb code 0o40) p.longadd _ (p.least.4, p.greatest.4)
    (either (ltb code 0o43) p.multiply _ (p.least.5, p.greatest.5)
    (either (eqb code 0o43) p.shift _ (p.least.1, p.greatest.1)
    (either (eqb code 0o47) p.population _ (p.least.7, p.greatest.7)
    (either (ltb code 0o50) p.divide p.increment (p.least.6, p.greatest.6) (p.least.8, p.greatest.8)))))))))

-- THE GREATEST LATENCY

-- none is later than the later of the hold and a load
pairs-most : (hold load : ℕ) (held loaded : List Reg) → greatest (λ (w : Reg × ℕ). w.1) (map (λ r. (r, hold)) held ++ map (λ r. (r, load)) loaded) ≤ max hold load
pairs-most hold load [] [] = omega arith
pairs-most hold load [] (r ∷ rs) = omega (arith, pairs-most hold load [] rs)
pairs-most hold load (r ∷ rs) loaded = omega (arith, pairs-most hold load rs loaded)

pub writes-most : (p : Profile) (n : Instr) → greatest (λ (w : Reg × ℕ). w.1) (writes_of p n) ≤ 100
writes-most p n = omega (arith, pairs-most (hold_of p n.op.code) p.load (held_registers n) (loaded_registers (memory_of n) n), hold_range p n.op.code, p.greatest.9)

-- only a load references memory in this way, and it holds its address alone
is-load : (set low : Bool) → cond set (cond low memory.Load memory.Store) memory.None ≡ memory.Load → set ≡ true
is-load true low h = refl
is-load false low h = absurd (true≢false (sym (ap touches h)))

pub load-holds : (n : Instr) → memory_of n ≡ memory.Load → held_registers n ≡ a_reg n.i ∷ []
load-holds n h =
    let set = (leb 0o50 n.op.code && ltb n.op.code 0o60) && ltb 0 n.i in
    let parts = and_parts (leb 0o50 n.op.code && ltb n.op.code 0o60) (ltb 0 n.i) (is-load set (ltb n.i 6) h) in
    let (low, high) = and_parts (leb 0o50 n.op.code) (ltb n.op.code 0o60) parts.0 in
    rw (le-ltb n.op.code 0o50 (leb-true 0o50 n.op.code low), high) refl

-- a row whose results are all held
held-greatest : (hold : ℕ) (r : Reg) (rs : List Reg) → greatest (λ (w : Write). w.latency) (map (held_write hold) (r ∷ rs) ++ []) ≡ hold
held-greatest hold r [] = omega arith
held-greatest hold r (s ∷ rs) = omega (arith, held-greatest hold s rs)

held-latency : (r : Row) (held : List Reg) → r.writes ≡ map (held_write r.hold) held ++ [] → latency_of r ≡ r.hold
held-latency r [] is = rw is refl
held-latency r (x ∷ xs) is = rw is (held-greatest r.hold x xs)

-- if nothing is fetched, the greatest latency is the hold
pub unloaded-latency : (p : Profile) (n : Instr) → loaded_registers (memory_of n) n ≡ [] → latency_of (row p n) ≡ hold_of p n.op.code
unfolding row
unloaded-latency p n none = held-latency (row p n) (held_registers n) (ap (λ rs. map (held_write (hold_of p n.op.code)) (held_registers n) ++ map (loaded_write p.load) rs) none)

-- of a load it is the later of the hold and the time of a load
pub loaded-latency : (p : Profile) (n : Instr) → memory_of n ≡ memory.Load → latency_of (row p n) ≡ max (hold_of p n.op.code) p.load
unfolding row
loaded-latency p n load = rw (load-holds n load, load) (omega arith)
