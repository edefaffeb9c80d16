-- Used by contracts within the crate alone: the rule of the lock, and what is learnt from each of its steps. The lock's word is 0
-- while the value is in its slot, and else 1.
use mathlib.Core.Option.{some}
use mathlib.Core.Option as maybe
use lib.ListN.{get_elem?}
use Rattle.std.specs.Prelude.{ℕ, ⊤, ◌≡◌, ◌≢◌, ◌<◌, ◌≤◌, ◌⊎◌, List, [], ◌∷◌, length, map, All, Option, Some, None}
use Rattle.atomic_table.specs.Table.{State, Me, Step}
use Rattle.s66_isa.specs.{weigh}
use Rattle.s66_model.specs.{Summary, SeatRecord, Agrees, opened}
use Rattle.s66_share.specs.SeatViews.{View, Stage, Idle, Founding, Holding, books_of, idle, holding, renewed, SummaryGoesOn}

abbrev pub AllAgree : Summary → List View → Type 0
AllAgree s views = (seat : ℕ) (v : View) → get_elem? views seat ≡ some v → All (Agrees s) v.books

-- no worker has two seat records
abbrev pub IsOnce : List View → Type 0
IsOnce views = (w : ℕ) → weigh (λ v. books_of w v.books) views ≤ 1

-- a seat at this stage has the lock, in which it found s; while it founds it, the slot has nothing yet
abbrev pub Has : {X : Type 0} → Summary → List (maybe.Option (Option X)) → Stage → Type 0
Has s homes Idle = ⊥
Has s homes (Founding t) = (t ≡ s) × (homes ≡ some None ∷ [])
Has s homes (Holding t) = t ≡ s

-- The slot has the value, with which every seat record agrees, and no seat has the lock
pub record IsFree {X : Type 0} (summary : X → Summary) (about : Summary) (s : State (Option X) View) : Type 0 where
  pub value : X
  pub word : s.words ≡ 0 ∷ []
  pub home : s.homes ≡ some (Some value) ∷ []
  pub search : SummaryGoesOn about (summary value)
  pub agree : AllAgree (summary value) s.views
  pub idles : (seat : ℕ) (v : View) → get_elem? s.views seat ≡ some v → v.stage ≡ Idle

-- One seat, which has a seat record, has the lock; with the summary that it found every seat record agrees
pub record IsLockHeld {X : Type 0} (about : Summary) (s : State (Option X) View) : Type 0 where
  pub found : Summary
  pub holder : ℕ
  pub view : View
  pub word : s.words ≡ 1 ∷ []
  pub at : get_elem? s.views holder ≡ some view
  pub has : Has found s.homes view.stage
  pub some_book : 0 < length view.books
  pub search : SummaryGoesOn about found
  pub agree : AllAgree found s.views
  pub others : (seat : ℕ) (v : View) → get_elem? s.views seat ≡ some v → seat ≢ holder → v.stage ≡ Idle

module _ {X : Type 0} (summary : X → Summary) where
  abbrev pub Locked : X → State (Option X) View → Type 0
  Locked key s = IsOnce s.views × (IsFree summary (summary key) s ⊎ IsLockHeld (summary key) s)

  -- the lock was free and is now the seat's, with the value; or it was out, and nothing changed
  abbrev pub Took : Step (Option X) → Me (Option X) View → ℕ → Me (Option X) View → Type 0
  Took st me word after =
      (word ≡ 0 → (x : X) × (after ≡ (holding (summary x) me.0.books, (0, Some x) ∷ me.1)) × All (Agrees (summary x)) me.0.books)
      × (word ≢ 0 → after ≡ me)

  -- the value is back, and the seat records say what it says, with the least times that they had
  abbrev pub keep_least : View → X → View
  keep_least v x = idle (map (λ p. renewed (summary x) p p.least) v.books)

  -- or with the best time
  abbrev pub read_best : View → X → View
  read_best v x = idle (map (λ p. opened (summary x) p.who) v.books)

module _ {X : Type 0} where
  abbrev pub keep_books : View → X → View
  keep_books v x = idle v.books

  -- the seat gave x back, and f is what it then knows
  abbrev pub GaveThat : (View → X → View) → View → Option X → List (ℕ × Option X) → Me (Option X) View → Type 0
  GaveThat f v (Some x) others after = after ≡ (f v x, others)
  GaveThat f v None others after = ⊤

  abbrev pub GaveFirst : (View → X → View) → View → List (ℕ × Option X) → Me (Option X) View → Type 0
  GaveFirst f v [] after = ⊤
  GaveFirst f v (slot ∷ others) after = GaveThat f v slot.1 others after

  abbrev pub Gave : (View → X → View) → Step (Option X) → Me (Option X) View → ℕ → Me (Option X) View → Type 0
  Gave f st me word after = GaveFirst f me.0 me.1 after

  abbrev pub FoundedAt : Stage → List SeatRecord → Me (Option X) View → Type 0
  FoundedAt Idle books after = ⊤
  FoundedAt (Holding s) books after = ⊤
  FoundedAt (Founding s) books after = after ≡ (holding s books, (0, None) ∷ [])

  -- the founding seat has the empty slot
  abbrev pub Founded : Step (Option X) → Me (Option X) View → ℕ → Me (Option X) View → Type 0
  Founded st me word after = FoundedAt me.0.stage me.0.books after
