-- To be believed: for how long each instruction of a timed order is kept back and what holds it, and the chain of waits that its time comes from.
--
-- `FORMATS.md`, under `s66 why`, says from when to when each stretch is, and what is waited for.
use Rattle.std.specs.Prelude.{ℕ, ◌+◌, ◌-◌, Bool, false, if◌then◌else◌, ◌&&◌, ◌||◌, ◌==◌, not, min, List, [], ◌∷◌, ◌++◌, codes, decimal, flat_map, length, map, nat_lt, replicate, reverse}
use Rattle.s66_isa.specs.{kind_name, after_blanks, weigh, Write, same_reg, same_kind, has_reg, memory_pair, Bank, A, B, X}
use Rattle.s66_isa.specs.Table.{Reg}
use Rattle.s66_model.specs.{Point, done_at, end_of, points_of, readers_wait, total}
use Rattle.s66_line.specs.{Block, text_of}
use Rattle.s66_time.specs.TimedOrder.{TimedOrder}
use Rattle.s66_why.specs.TextChart.{in_places, text_width}
use Rattle.s66_why.specs.declared.cause.Cause.{Cause}
use Rattle.s66_why.specs.declared.cause.Cause.TheVariants.{Writes, Takes, References, Reads, Ends}
use Rattle.s66_why.specs.declared.cause.Holder.{Holder}
use Rattle.s66_why.specs.declared.stretch.Conflict.{Conflict}
use Rattle.s66_why.specs.declared.stretch.Conflict.TheVariants.{First, Second, Third}
use Rattle.s66_why.specs.declared.stretch.Stretch.{Stretch}
use Rattle.s66_why.specs.declared.path.Link.{Link}
use Rattle.s66_why.specs.declared.path.Link.TheVariants.{Held, InLine}
use Rattle.s66_why.specs.declared.path.Milestone.{Milestone}
use Rattle.s66_why.specs.declared.path.Step.{Step}
use Rattle.s66_why.specs.declared.path.Wait.{Wait}
-- the examples open it, to compute numbers
unfoldable pub use Rattle.std.specs.Fmt.{digits}

-- Points are in order, the newest first, as in Timing: s are all points before p.

-- WHAT HOLDS

-- an instruction stops to be a cause to wait at t
abbrev pub lets_go : Cause → ℕ → Point → Bool
lets_go (Writes r) t q = done_at q r == t
lets_go (Takes kind) t q = same_kind q.row.kind kind && q.free == t
lets_go (References memory) t q = memory_pair q.row.memory memory && q.start + 1 == t
lets_go (Reads r) t q = has_reg r q.row.reads && q.start + 1 == t
lets_go Ends t q = end_of q == t

-- the lower of two numbers, of which 0 is none
abbrev pub lower : ℕ → ℕ → ℕ
lower n m = if m == 0 then n else min n m

-- the lowest number of those that let go then, 0 if none does
abbrev pub lowest : Cause → ℕ → List Point → ℕ
lowest cause t [] = 0
lowest cause t (q ∷ s) = if lets_go cause t q then lower q.number (lowest cause t s) else lowest cause t s

abbrev pub holder : Cause → ℕ → List Point → Holder
holder cause t s = record { cause = cause; number = lowest cause t s }

abbrev pub nobody : Holder
nobody = record { cause = Ends; number = 0 }

-- the first, unless the second has a lower number, or there is no first
abbrev pub sooner : Holder → Holder → Holder
sooner a b = if not (b.number == 0) && (a.number == 0 || nat_lt b.number a.number) then b else a

-- the first, or the second if there is no first
abbrev pub holder_or_else : Holder → Holder → Holder
holder_or_else a b = if a.number == 0 then b else a

-- of those whose results in these registers are done then the one of the lowest number, and of equal ones the first register;
-- or the holder so far, if that is sooner
abbrev pub soonest : Holder → ℕ → List Point → List Reg → Holder
soonest best t s [] = best
soonest best t s (r ∷ rs) = soonest (sooner best (holder (Writes r) t s)) t s rs

-- what p waits for until it issues: a result in a register that it writes, or else a unit
abbrev pub first_holder : List Point → Point → Holder
first_holder s p = holder_or_else (soonest nobody p.issue s (map (λ (w : Write). w.reg) p.row.writes)) (holder (Takes p.row.kind) p.issue s)

-- until it starts: a result in a register that it reads, or else a reference to memory
abbrev pub second_holder : List Point → Point → Holder
second_holder s p = holder_or_else (soonest nobody p.start s p.row.reads) (holder (References p.row.memory) p.start s)

-- until its result is done: a reader of the register
abbrev pub third_holder : List Point → Write → Holder
third_holder s w = holder (Reads w.reg) (readers_wait s w.reg) s

-- FOR HOW LONG

-- the minor cycle in which p issues if only the parcels before it are waited for
abbrev pub slot : List Point → Point → ℕ
slot [] p = 0
slot (q ∷ s) p = q.issue + (p.parcel - q.parcel)

-- the instruction is kept back from one minor cycle to another, if the second is later
abbrev pub stretch : Point → Conflict → (from to : ℕ) → Holder → List Stretch
stretch p conflict from to holder =
    if nat_lt from to then record { number = p.number; conflict = conflict; from = from; to = to; holder = holder } ∷ [] else []

abbrev pub first_stretch : List Point → Point → List Stretch
first_stretch s p = stretch p First (slot s p) p.issue (first_holder s p)

abbrev pub second_stretch : List Point → Point → List Stretch
second_stretch s p = stretch p Second p.issue p.start (second_holder s p)

abbrev pub third_stretch : List Point → Point → Write → List Stretch
third_stretch s p w = stretch p Third (p.start + w.latency) (readers_wait s w.reg) (third_holder s w)

abbrev pub stretches_at : List Point → Point → List Stretch
stretches_at s p = first_stretch s p ++ second_stretch s p ++ flat_map (third_stretch s p) p.row.writes

abbrev pub stretches : List Point → List Stretch
stretches [] = []
stretches (p ∷ s) = stretches s ++ stretches_at s p

-- THE PATH

-- what p waited for last until it issued: a holder, or whatever held the line before it
abbrev pub before_issue : List Point → Point → Wait
before_issue s p = record { link = if nat_lt (slot s p) p.issue then Held (first_holder s p) else InLine; until = p.issue }

-- until it started
abbrev pub before_start : List Point → Point → Wait
before_start s p = if nat_lt p.issue p.start then record { link = Held (second_holder s p); until = p.start } else before_issue s p

-- when this result of p is done, p lets go for this cause
abbrev pub decides : Cause → Point → Write → Bool
decides (Writes r) p w = same_reg w.reg r
decides (Takes kind) p w = w.held && done_at p w.reg == p.free - 1
decides (References memory) p w = false
decides (Reads r) p w = false
decides Ends p w = done_at p w.reg == end_of p || (p.free == end_of p && w.held && done_at p w.reg == p.free - 1)

-- the result is held for a reader
abbrev pub is_held : List Point → Point → Write → Bool
is_held s p w = nat_lt (p.start + w.latency) (readers_wait s w.reg)

-- until it let go for this cause, which one of these results may have decided that was held
abbrev pub before : Cause → List Point → Point → List Write → Wait
before cause s p [] = before_start s p
before cause s p (w ∷ ws) =
    if decides cause p w && is_held s p w then record { link = Held (third_holder s w); until = readers_wait s w.reg } else before cause s p ws

-- p is where the link leads
abbrev pub is_linked : Link → List Point → Point → Bool
is_linked (Held h) s p = p.number == h.number
is_linked InLine s p = nat_lt (slot s p) p.issue

-- what p waited for last before the next one of the path went on
abbrev pub next_wait : Link → List Point → Point → Wait
next_wait (Held h) s p = before h.cause s p p.row.writes
next_wait InLine s p = record { link = Held (first_holder s p); until = p.issue }

-- the minor cycle in which p lets the next one go on: that until which it waited, or in line that in which p issues
abbrev pub passes : Link → (until : ℕ) → Point → ℕ
passes (Held h) until p = until
passes InLine until p = p.issue

-- the milestones from a wait on, the latest first
abbrev pub walk : Wait → List Point → List Milestone
walk w [] = []
walk w (p ∷ s) = if is_linked w.link s p then record { number = p.number; time = passes w.link w.until p } ∷ walk (next_wait w.link s p) s else walk w s

-- those of the path to the instruction that ends last, the first first
abbrev pub milestones : List Point → List Milestone
milestones s = reverse (walk (record { link = Held (holder Ends (total s) s); until = total s }) s)

-- the steps to these milestones: how much later each is than the one before it, and the first than this minor cycle
abbrev pub steps_from : ℕ → List Milestone → List Step
steps_from t [] = []
steps_from t (x ∷ xs) = record { number = x.number; adds = x.time - t } ∷ steps_from x.time xs

-- those of the path, from minor cycle 0 on
abbrev pub steps : List Point → List Step
steps s = steps_from 0 (milestones s)

-- the numbers of the path
abbrev pub path : List Point → List ℕ
path s = map (λ (x : Step). x.number) (steps s)

-- what each of its steps adds
abbrev pub added : List Point → List ℕ
added s = map (λ (x : Step). x.adds) (steps s)

-- WHAT IS WRITTEN

abbrev pub bank_name : Bank → List ℕ
bank_name A = codes "A"
bank_name B = codes "B"
bank_name X = codes "X"

abbrev pub register_name : Reg → List ℕ
register_name r = bank_name r.bank ++ decimal r.digit

abbrev pub register_text : Reg → List ℕ
register_text r = codes " REGISTER " ++ register_name r

abbrev pub cause_text : Cause → List ℕ
cause_text (Writes r) = register_text r
cause_text (Takes kind) = codes " UNIT " ++ kind_name kind
cause_text (References memory) = codes " MEMORY"
cause_text (Reads r) = register_text r
cause_text Ends = codes " END"

abbrev pub conflict_name : Conflict → List ℕ
conflict_name First = codes "FIRST"
conflict_name Second = codes "SECOND"
conflict_name Third = codes "THIRD"

-- right in so many places
abbrev pub on_right : (places n : ℕ) → List ℕ
on_right places n = replicate (places - length (decimal n)) 32 ++ decimal n

abbrev pub in_three : ℕ → List ℕ
in_three n = on_right 3 n

-- with texts: that of an instruction, in as many places as those of its block need
abbrev pub text_after_number : Bool → Block → ℕ → List ℕ
text_after_number texts block n = if texts then in_places (text_width block) (text_of block n) else []

-- with texts: that of an instruction after a blank
abbrev pub text_at_end : Bool → Block → ℕ → List ℕ
text_at_end texts block n = if texts then codes " " ++ text_of block n else []

-- from when to when, what is waited for, and who holds it
abbrev pub stretch_text : Stretch → List ℕ
stretch_text x =
    conflict_name x.conflict ++ codes " " ++ decimal x.from ++ codes " TO " ++ decimal x.to ++ cause_text x.holder.cause ++ codes " BY " ++ decimal x.holder.number

abbrev pub stretch_line : Bool → Block → Stretch → List ℕ
stretch_line texts block x =
    in_three x.number ++ codes " " ++ text_after_number texts block x.number ++ stretch_text x ++ text_at_end texts block x.holder.number ++ codes "\n"

abbrev pub path_line : List ℕ → List ℕ
path_line numbers = codes "PATH" ++ after_blanks numbers ++ codes "\n"

-- what each step adds, and the time that this is in sum
abbrev pub steps_line : List Step → (time : ℕ) → List ℕ
steps_line xs time = codes "STEPS" ++ after_blanks (map (λ (x : Step). x.adds) xs) ++ codes " TIME " ++ decimal time ++ codes "\n"

-- of a step: the number, the text, what it adds
abbrev pub step_row : Block → Step → List ℕ
step_row block x = in_three x.number ++ codes " " ++ in_places (text_width block) (text_of block x.number) ++ on_right 4 x.adds ++ codes "\n"

-- below such rows: the time, their sum
abbrev pub time_row : Block → ℕ → List ℕ
time_row block time = codes "TIME" ++ in_places (text_width block) [] ++ on_right 4 time ++ codes "\n"

-- the steps of a path that takes this time: in two lines, or with texts in rows
abbrev pub path_lines : Bool → Block → List Step → (time : ℕ) → List ℕ
path_lines texts block xs time =
    if texts then codes "PATH\n" ++ flat_map (step_row block) xs ++ time_row block time
    else (path_line (map (λ (x : Step). x.number) xs) ++ steps_line xs time)

abbrev pub conflict_number : Conflict → ℕ
conflict_number First = 1
conflict_number Second = 2
conflict_number Third = 3

-- how many minor cycles the stretches of a conflict are long, in sum
abbrev pub lost : Conflict → List Stretch → ℕ
lost conflict xs = weigh (λ (x : Stretch). if conflict_number x.conflict == conflict_number conflict then x.to - x.from else 0) xs

abbrev pub lost_line : List Stretch → List ℕ
lost_line xs =
    codes "LOST FIRST " ++ decimal (lost First xs) ++ codes " SECOND " ++ decimal (lost Second xs) ++ codes " THIRD " ++ decimal (lost Third xs) ++ codes "\n"

-- of the points of an order
abbrev pub text_of_points : Bool → Block → List Point → List ℕ
text_of_points texts block s =
    flat_map (stretch_line texts block) (stretches s) ++ path_lines texts block (steps s) (total s) ++ lost_line (stretches s)

-- of an order of the block, with its texts or without
abbrev pub why_text : Bool → Block → TimedOrder → List ℕ
why_text texts block t = text_of_points texts block (points_of t.problem t.numbers)
