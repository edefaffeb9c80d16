-- Used by contracts within the crate alone: what the words of a clock are, by the points of what was pushed.
use Rattle.std.specs.Prelude.{map, ◌==◌, ◌||◌, ℕ, ◌+◌, ◌≡◌, ◌≤◌, ◌<◌, if◌then◌else◌, max, min, List, [], ◌∷◌, length, get_or, set, take, nat_lt, ◌-◌}
use Rattle.s66_isa.specs.Table.{Reg}
use Rattle.s66_isa.specs.{Row, touches, stores, kind_number, copies_of, same_reg, has_reg, Kind, KIND_COUNT, Memory, Profile, greatest, tally, weigh, has, BLOCK_LIMIT, numbers_in, word_of}
use Rattle.s66_isa.specs.declared.instr.Memory.TheVariants as memory
use Rattle.s66_model.specs.{Problem, Point, ResultAt, end_of, done_of, last_done, readers_wait, busy_at, next, next_parcel, total, point_of, work_of, references_wait, stores_wait}
use Rattle.s66_time.specs.declared.limits.TheConstants.{TOTAL_LIMIT, UNIT_LIMIT}
use Rattle.s66_time.specs.Places.{first_unit, units_of, put_back}
use Rattle.s66_time.specs.declared.copies.Copies.{Copies}
use Rattle.s66_time.specs.declared.words.Words.{Words}
use Rattle.s66_time.specs.declared.tick.Tick.{Tick}
use Rattle.s66_time.specs.declared.step.Step.{Step}

-- a point depends on the block only by its row
abbrev pub under : Profile → Problem
under p = record { block = []; profile = p }

-- what a reference waits for
abbrev pub wait_of : Memory → ℕ → ℕ → ℕ
wait_of memory.None refs stored = 0
wait_of memory.Load refs stored = stored
wait_of memory.Store refs stored = refs

-- for how long those of a kind take a unit, summed
abbrev pub worked_of : Kind → List Point → ℕ
worked_of kind s = weigh (λ (p : Point). work_of kind p.row) s

-- of each kind as many units as the profile has
abbrev pub AreCopies : Profile → Copies → Type 0
AreCopies p c = (kind : Kind) → get_or c.counts (kind_number kind) 0 ≡ copies_of p kind

-- the words of registers are those that f gives
abbrev pub Tells : List ℕ → (Reg → ℕ) → Type 0
Tells words f = (r : Reg) → r.digit ≤ 7 → word_of words r ≡ f r

pub record IsWords (p : Profile) (s : List Point) (w : Words) : Type 0 where
  pub done : Tells w.done.words (done_of s)
  pub read : Tells w.read.words (readers_wait s)
  -- of each kind as many words are later than t as units are busy, if there are as many words
  pub units : (kind : Kind) (t : ℕ) → tally (λ (f : ℕ). nat_lt t f) (units_of p kind w.units.words) ≡ min (copies_of p kind) (tally (busy_at kind t) s)
  pub size : length w.units.words ≡ UNIT_LIMIT
  pub kinds : length w.worked ≡ KIND_COUNT
  pub worked : (kind : Kind) → get_or w.worked (kind_number kind) 0 ≡ worked_of kind s
  pub refs : w.progress.refs ≡ references_wait s
  pub stores : w.progress.stores ≡ stores_wait s
  pub parcel : w.progress.parcel ≡ next_parcel s
  pub next : w.progress.next ≡ next s
  pub total : w.progress.total ≡ total s
  pub pushed : (m : ℕ) → has m (numbers_in w.progress.pushed) ≡ has m (map (λ (p : Point). p.number) s)

-- no unit of the kind is free before the one at this place
pub record IsSoonest (p : Profile) (kind : Kind) (words : List ℕ) (place : ℕ) : Type 0 where
  pub own : first_unit kind ≤ place
  pub copy : place - first_unit kind < copies_of p kind
  pub least : (i : ℕ) → i < copies_of p kind → get_or words place 0 ≤ get_or words (first_unit kind + i) 0

-- points whose times are small, and in which each register's latest writer is done last
pub record InTurn (s : List Point) : Type 0 where
  pub early : total s ≤ TOTAL_LIMIT
  pub starts : greatest (λ (p : Point). max p.issue p.start + 1) s ≤ total s
  pub parcels : greatest (λ (p : Point). p.row.parcels) s ≤ 2
  pub latest : (r : Reg) → last_done r s ≡ done_of s r
  pub parcel : next_parcel s ≤ next s
  pub few : length s ≤ BLOCK_LIMIT
  pub holds : greatest (λ (p : Point). p.row.hold) s ≤ 100

-- the words are those of some points
abbrev pub AreWordsInTurn : Profile → Words → Type 0
AreWordsInTurn p w = (s : List Point) × IsWords p s w × InTurn s

-- what contracts see of a tick
abbrev pub point_of_tick : ℕ → Row → Tick → Point
point_of_tick n r t =
    record {
      number = n;
      row = r;
      parcel = t.parcel;
      issue = t.issue;
      start = t.start;
      results = t.results.items;
      free = t.free;
    }

-- the words that a point leaves
pub record Takes (w w2 : Words) (q : Point) (place : ℕ) : Type 0 where
  pub done : (r : Reg) → r.digit ≤ 7 → word_of w2.done.words r ≡ max (word_of w.done.words r) (greatest (λ (d : ResultAt). if same_reg d.reg r then d.time else 0) q.results)
  pub read : (r : Reg) → r.digit ≤ 7 → word_of w2.read.words r ≡ max (word_of w.read.words r) (if has_reg r q.row.reads then q.start + 1 else 0)
  pub units : w2.units.words ≡ set w.units.words place q.free
  pub worked : w2.worked ≡ set w.worked (kind_number q.row.kind) (get_or w.worked (kind_number q.row.kind) 0 + (q.row.hold + 1))
  pub refs : w2.progress.refs ≡ max w.progress.refs (if touches q.row.memory then q.start + 1 else 0)
  pub stores : w2.progress.stores ≡ max w.progress.stores (if stores q.row.memory then q.start + 1 else 0)
  pub parcel : w2.progress.parcel ≡ q.parcel + q.row.parcels
  pub next : w2.progress.next ≡ q.issue + q.row.parcels
  pub total : w2.progress.total ≡ max w.progress.total (end_of q)
  pub pushed : (m : ℕ) → has m (numbers_in w2.progress.pushed) ≡ (m == q.number || has m (numbers_in w.progress.pushed))

-- what a step wrote over is put back
abbrev pub after_undo : Words → Step → Words
after_undo w k =
    record {
      done = record { words = put_back (take k.done_count k.done) w.done.words };
      read = record { words = put_back (take k.read_count k.read) w.read.words };
      units = record { words = set w.units.words k.unit k.free };
      worked = set w.worked k.kind k.worked;
      progress = k.progress;
    }

-- the points of steps, the newest first
abbrev pub points_of_steps : Problem → List Step → List Point
points_of_steps b [] = []
points_of_steps b (k ∷ ks) = point_of b (points_of_steps b ks) k.number ∷ points_of_steps b ks

-- the words are those of the steps, and so they are again after each undo
abbrev pub AreKept : Problem → Words → List Step → Type 0
AreKept b w [] = IsWords b.profile [] w
AreKept b w (k ∷ ks) = IsWords b.profile (points_of_steps b (k ∷ ks)) w × AreKept b (after_undo w k) ks
