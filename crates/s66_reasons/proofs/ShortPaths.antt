-- Longest paths are far shorter than the machine's numbers are great, so sums of some of them fit.
use Rattle.std.proofs.Common.{ℕ, ◌+◌, ◌*◌, ◌^◌, ◌≤◌, ◌≡◌, cond, not, List, [], ◌∷◌, length, arith, inl, inr, sym, Option, None, Some, unwrap_or}
use Rattle.std.proofs.lemmas.Bool.{cases_Bool, cond-true, cond-false}
use Rattle.s66_isa.specs.{Reg, Write, instr_at, same_reg}
use Rattle.s66_isa.proofs.Lists.{greatest-le}
use Rattle.s66_isa.proofs.GoodRows.{row-good}
use Rattle.s66_model.specs.{Problem, row_at}
use Rattle.s66_moments.specs.{Stage, Issue, Start, Done, Free, Moment, Origin, At, End, fetches, own_arc, later_arc, arc, latency_to, Hop as Step, waits, Network, network, IsNetworkPath, span}
use Rattle.s66_moments.proofs.TableArcs.{Some-same, None-none, only_if-parts}
use Rattle.s66_moments.proofs.Tails.{network-parts, path-short}
use Rattle.s66_moments.proofs.Spans.{span-path}
use Rattle.s66_facts.specs.{before_in, Ground, IsAcyclic, ground_arcs}
use Rattle.s66_facts.proofs.Edges.{at-cases, later-cases, loads-cases, rises}

-- an arc of the table
module _ (b : Problem) where
  latency-short : (n : ℕ) (x : Reg) → latency_to (row_at b n) x ≤ 100
  latency-short n x =
      greatest-le (λ (w : Write). cond {A = ℕ} (same_reg w.reg x) w.latency 0) 100 (row_at b n).writes (λ w among.
      elim (cases_Bool (same_reg w.reg x)) [
        | inl is ↦ omega (arith, cond-true {A = ℕ} (same_reg w.reg x) w.latency 0 is, ((row-good b.profile (instr_at b.block n)).latencies w among).1)
        | inr off ↦ omega (arith, cond-false {A = ℕ} (same_reg w.reg x) w.latency 0 off)
      ])

  own-short : (n : ℕ) (s t : Stage) (v : ℕ) → own_arc (row_at b n) s t ≡ Some v → v ≤ 101
  own-short n Issue Start v is = omega (arith, Some-same 0 v is)
  own-short n Start (Done x) v is = omega (arith, Some-same (latency_to (row_at b n) x) v is, latency-short n x)
  own-short n Start Free v is = omega (arith, Some-same ((row_at b n).hold + 1) v is, (row-good b.profile (instr_at b.block n)).hold.1)
  own-short n (Done x) Free v is = omega (arith, (only_if-parts (not (fetches (row_at b n) x)) 1 v is).1)
  own-short n _ _ v is = absurd (None-none v is)

  later-short : (m n : ℕ) (s t : Stage) (v : ℕ) → later_arc b (row_at b m) (row_at b n) s t ≡ Some v → v ≤ 101
  later-short m n =
      later-cases b m n (λ s t v. v ≤ 101) (omega (arith, (row-good b.profile (instr_at b.block m)).parcels.1))
      (λ x is. omega arith) (λ is. omega arith) (λ x is. omega arith) (λ is. omega arith) (λ x is. omega arith)

  arc-short : (e f : Moment) (v : ℕ) → arc b e f ≡ Some v → v ≤ 101
  arc-short Origin (At n f) v is = omega (arith, Some-same 0 v is)
  arc-short Origin End v is = omega (arith, Some-same 0 v is)
  arc-short (At m e) (At n f) v is =
      elim (at-cases b m n e f v is) [
        | inl (same, own) ↦ own-short m e f v own
        | inr (other, later) ↦ later-short m n e f v later
      ]
  arc-short (At m (Done x)) End v is = omega (arith, Some-same 0 v is)
  arc-short (At m Free) End v is = omega (arith, Some-same 0 v is)
  arc-short _ _ v is = absurd (None-none v is)

module _ (g : Ground) (ordered : IsAcyclic g) where
  abbrev arcs : Network
  arcs = ground_arcs g

  arcs-short : (e f : Moment) (v : ℕ) → arcs e f ≡ Some v → v ≤ 2 ^ 32
  arcs-short e f v is =
      elim (loads-cases (network g.problem (before_in g.marks)) g.loads e f v is) [
        | inl table ↦ omega (arith, arc-short g.problem e f v (network-parts g.problem (before_in g.marks) e f v table).3)
        | inr load ↦ (let (l, among, from, to, wait) = load in omega (arith, wait, ordered.short l among))
      ]

  waits-short : (e : Moment) (hops : List Step) (f : Moment) → IsNetworkPath arcs e hops f → waits hops ≤ length hops * 2 ^ 32
  waits-short e [] f path = omega arith
  waits-short e (hop ∷ hops) f path = omega (arith, arcs-short e hop.to hop.wait path.0, waits-short hop.to hops f path.1)

  span-short : (e f : Moment) (o : Option ℕ) → span g.problem arcs e f ≡ o → unwrap_or o 0 ≤ 2 ^ 48
  span-short e f None is = omega arith
  span-short e f (Some w) is =
      let (hops, path, takes) = span-path g.problem arcs e f w is in
      omega (arith, takes, waits-short e hops f path, path-short g.problem arcs (rises g ordered) e hops f path, ordered.few)

  -- as it is found
  pub found-short : (e f : Moment) (o : Option ℕ) → o ≡ span g.problem arcs e f → unwrap_or o 0 ≤ 2 ^ 48
  found-short e f o is = span-short e f o (sym is)
