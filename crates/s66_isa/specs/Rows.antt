-- To be believed: what holds of the row of every instruction under every profile.
use Rattle.std.specs.Prelude.{ℕ, ◌≡◌, ◌≤◌, ◌⊎◌, if◌then◌else◌, [], length}
use Rattle.s66_isa.specs.Lists.{greatest, Among}
use Rattle.s66_isa.specs.Table.{Row, Write}

abbrev pub held_latency : Write → ℕ
held_latency w = if w.held then w.latency else 0

-- if something is written, the greatest latency of a held result is the hold
pub record IsInRange (r : Row) : Type 0 where
  pub parcels : (1 ≤ r.parcels) × (r.parcels ≤ 2)
  pub hold : (1 ≤ r.hold) × (r.hold ≤ 100)
  pub latencies : (w : Write) → Among w r.writes → (1 ≤ w.latency) × (w.latency ≤ 100)
  pub results : length r.writes ≤ 2
  pub unit : (r.writes ≡ []) ⊎ (r.hold ≡ greatest held_latency r.writes)
