-- To be believed: what a path is: the instructions that the time of an order comes from, and the minor cycles that each of them adds,
-- by the rules of Timing.
use Rattle.std.specs.Prelude.{ℕ, ◌+◌, ◌-◌, ◌<◌, ◌≡◌, ◌⊎◌, true, false, List, [], ◌∷◌, ◌++◌, map, reverse}
use Rattle.s66_isa.specs.{has, weigh, Write}
use Rattle.s66_model.specs.{Problem, Point, ResultAt, free_after, total}
use Rattle.s66_why.specs.declared.cause.Cause.{Cause}
use Rattle.s66_why.specs.declared.cause.Cause.TheVariants.{Writes, Takes, Reads, Ends}
use Rattle.s66_why.specs.declared.path.Link.{Link}
use Rattle.s66_why.specs.declared.path.Link.TheVariants.{Held, InLine}
use Rattle.s66_why.specs.declared.path.Step.{Step}
use Rattle.s66_why.specs.declared.stretch.Conflict.{Conflict}
use Rattle.s66_why.specs.declared.stretch.Conflict.TheVariants.{First, Second, Third}
use Rattle.s66_why.specs.Why.{lets_go, slot, steps}
use Rattle.s66_why.specs.Forbids.{IsKeptBack}

-- p is one of these points, and e are those before it
abbrev pub StandsAfter : List Point → Point → List Point → Type 0
StandsAfter s p e = (later : List Point) × (s ≡ later ++ p ∷ e)

-- WORK

-- a result that waits for no reader
abbrev pub made_at : ℕ → Write → ResultAt
made_at start w = record { reg = w.reg; time = start + w.latency; held = w.held }

-- the instruction as it would be if it started then and none of its results waited
abbrev pub unhindered : Point → Point
unhindered p = record p { results = map (made_at p.start) p.row.writes; free = free_after p.start p.row.hold (map (made_at p.start) p.row.writes) }

-- p, whose result a reader held up until `from`, lets go with that result, or a minor cycle later with its unit
abbrev pub LetsGoWith : Cause → Point → Cause → (from t : ℕ) → Type 0
LetsGoWith (Writes r) p reader from t = (reader ≡ Reads r) × (t ≡ from)
LetsGoWith (Takes kind) p reader from t = (t ≡ p.free) × (t ≡ from + 1)
LetsGoWith Ends p reader from t = (t ≡ from) ⊎ ((t ≡ p.free) × (t ≡ from + 1))
LetsGoWith cause p reader from t = ⊥

-- THE PATH

-- a link leads to p at t: p lets go for its cause then, or issues then
abbrev pub Leads : Link → Point → ℕ → Type 0
Leads (Held h) p t = (p.number ≡ h.number) × (lets_go h.cause t p ≡ true)
Leads InLine p t = t ≡ p.issue

-- once p has waited to issue, to start or for a reader until `from`, it waits for nothing more until t, when a link leads to it
abbrev pub WaitGoesOn : Conflict → Link → Point → Cause → (from t : ℕ) → Type 0
WaitGoesOn First (Held h) p cause from t = (p.start ≡ p.issue) × (lets_go h.cause t (unhindered p) ≡ true)
WaitGoesOn Second (Held h) p cause from t = lets_go h.cause t (unhindered p) ≡ true
WaitGoesOn Third (Held h) p cause from t = LetsGoWith h.cause p cause from t
WaitGoesOn First InLine p cause from t = t ≡ from
WaitGoesOn conflict InLine p cause from t = ⊥

-- p waits for q, which stands among the points s after those of e, until `to`, and for nothing more until t
abbrev pub WaitsFor : Problem → List Point → Point → Link → (to t : ℕ) → Cause → Point → List Point → Type 0
WaitsFor b s p link to t cause q e =
    StandsAfter s q e
    × ((conflict : Conflict) × (from : ℕ) × (from < to) × IsKeptBack b s p conflict from to cause q × WaitGoesOn conflict link p cause to t)

-- p issues in its slot, and waits for nothing until t
abbrev pub WaitsForNothing : List Point → Point → Link → ℕ → Type 0
WaitsForNothing s p link t = (p.issue ≡ slot s p) × WaitGoesOn First link p Ends p.issue t

-- p issues as many minor cycles after q as it stands parcels behind it
abbrev pub IsInLine : List Point → Point → Point → List Point → Type 0
IsInLine s p q e = StandsAfter s q e × (p.issue ≡ q.issue + (p.parcel - q.parcel))

-- The steps of a path, the latest first, to p, which stands after the points s and to which a link leads at t. Either p waits for an
-- earlier instruction, which lets go then, and the path goes on from that one. Or p waits for nothing: then it stands in line behind
-- an earlier one, from which the path goes on; or in line from minor cycle 0, where the path begins.
abbrev pub IsPath : Problem → List Point → Point → Link → ℕ → List Step → Type 0
IsPath b s p link t [] = ⊥
IsPath b s p link t (x ∷ xs) =
    (x.number ≡ p.number) × Leads link p t
    × (((to : ℕ) × (cause : Cause) × (q : Point) × (e : List Point) × WaitsFor b s p link to t cause q e × (t ≡ to + x.adds)
    × IsPath b e q (Held (record { cause = cause; number = q.number })) to xs)
    ⊎ (WaitsForNothing s p link t
    × (((xs ≡ []) × (p.issue ≡ p.parcel) × (t ≡ x.adds))
    ⊎ ((q : Point) × (e : List Point) × IsInLine s p q e × (t ≡ q.issue + x.adds) × IsPath b e q InLine q.issue xs))))

-- each number once
abbrev pub AreEachOnce : List ℕ → Type 0
AreEachOnce [] = Unit {0}
AreEachOnce (n ∷ ns) = (has n ns ≡ false) × AreEachOnce ns

-- the steps of the points of an order, whose numbers are printed, are those of a path: they go from minor cycle 0 to the end of the
-- instruction that ends last, and add the time of the order
abbrev pub AddsUp : Problem → List Point → Type 0
AddsUp b s =
    (weigh (λ (x : Step). x.adds) (steps s) ≡ total s)
    × ((p : Point) × (e : List Point) × StandsAfter s p e
    × IsPath b e p (Held (record { cause = Ends; number = p.number })) (total s) (reverse (steps s)))
