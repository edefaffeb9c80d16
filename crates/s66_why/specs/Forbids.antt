-- To be believed: what it is that a cause forbids an instruction to issue, to start or to be done a minor cycle sooner, by the rules of Timing.
use Rattle.std.specs.Prelude.{ℕ, ◌+◌, ◌-◌, ◌≡◌, ◌≤◌, ◌<◌, true, List, map}
use Rattle.s66_isa.specs.{Among, tally, Write, has_reg, memory_pair}
use Rattle.s66_model.specs.{Problem, Point, ResultAt, CanIssue, busy_at, copies, done_at, last_done, slot_of}
use Rattle.s66_why.specs.declared.cause.Cause.{Cause}
use Rattle.s66_why.specs.declared.cause.Cause.TheVariants.{Writes, Takes, References, Reads}
use Rattle.s66_why.specs.declared.stretch.Conflict.{Conflict}
use Rattle.s66_why.specs.declared.stretch.Conflict.TheVariants.{First, Second, Third}
use Rattle.s66_why.specs.declared.stretch.Stretch.{Stretch}

-- FIRST ORDER: at t, q has yet to write a register that p writes, or it takes one of the units, none of which is free
abbrev pub KeepsFromIssue : Problem → List Point → Point → ℕ → Cause → Point → Type 0
KeepsFromIssue b s p t (Writes r) q = Among r (map (λ (w : Write). w.reg) p.row.writes) × (t < done_at q r)
KeepsFromIssue b s p t (Takes kind) q =
    (kind ≡ p.row.kind) × (busy_at kind t q ≡ true) × (q.free ≡ t + 1) × (copies b kind ≤ tally (busy_at kind t) s)
KeepsFromIssue b s p t cause q = ⊥

-- SECOND ORDER: at t, q has yet to write a register that p reads, whose latest writer it is, or a reference has yet to follow that of q
abbrev pub KeepsFromStart : List Point → Point → ℕ → Cause → Point → Type 0
KeepsFromStart s p t (Writes r) q = Among r p.row.reads × (t < done_at q r) × (done_at q r ≡ last_done r s)
KeepsFromStart s p t (References memory) q = (memory ≡ p.row.memory) × (memory_pair q.row.memory memory ≡ true) × (t < q.start + 1)
KeepsFromStart s p t cause q = ⊥

-- THIRD ORDER: p makes a result by from, and q reads its register at t, after which it is done
abbrev pub KeepsResult : Point → (from t : ℕ) → Cause → Point → Type 0
KeepsResult p from t (Reads r) q =
    ((w : Write) × Among w p.row.writes × (w.reg ≡ r) × (from ≡ p.start + w.latency))
    × ((d : ResultAt) × Among d p.results × (d.reg ≡ r) × (d.time ≡ t + 1))
    × (has_reg r q.row.reads ≡ true) × (q.start ≡ t)
KeepsResult p from t cause q = ⊥

-- the instruction p, after the points s, is kept back by q until the end of the stretch, a minor cycle before which a rule forbids it
abbrev pub IsKeptBack : Problem → List Point → Point → Conflict → (from to : ℕ) → Cause → Point → Type 0
IsKeptBack b s p First from to cause q =
    (from ≡ slot_of s p.row.parcels) × (to ≡ p.issue) × (CanIssue b s p.row (to - 1) → ⊥) × KeepsFromIssue b s p (to - 1) cause q
IsKeptBack b s p Second from to cause q = (from ≡ p.issue) × (to ≡ p.start) × KeepsFromStart s p (to - 1) cause q
IsKeptBack b s p Third from to cause q = KeepsResult p from (to - 1) cause q

-- the stretch is such a one, and its holder an earlier instruction
abbrev pub IsForbidden : Problem → List Point → Point → Stretch → Type 0
IsForbidden b s p x =
    (x.number ≡ p.number) × (x.from < x.to)
    × ((q : Point) × Among q s × (q.number ≡ x.holder.number) × IsKeptBack b s p x.conflict x.from x.to x.holder.cause q)

-- numbers from 1
abbrev pub AreFromOne : List ℕ → Type 0
AreFromOne ns = (n : ℕ) → Among n ns → 1 ≤ n
