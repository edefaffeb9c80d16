-- Whether a run has an instruction among lines that come before and among those to come.
use Rattle.std.proofs.Common.{◌≡◌, ◌≢◌, ◌≤◌, ◌<◌, ◌==◌, ◌&&◌, ◌||◌, ◌∙◌, ℕ, zero, suc, Bool, true, false, List, [], ◌∷◌, ◌++◌, refl, sym, ap, ap₂, arith, append_assoc, eqb, eq-eqb, if◌then◌else◌}
use Rattle.std.proofs.Common.{ne_eqb}
use Rattle.std.proofs.Math.Bool.{and-false, or-false}
use Rattle.std.proofs.lemmas.Bool.{eqb-false, or_right}
use Rattle.s66_isa.specs.{some_of}
use Rattle.s66_line.specs.{is_instruction}
use Rattle.s66_source.specs.{has_block, Line, instructions}
use Rattle.s66_source.proofs.PrintedLines.{Ordered, run_behind, run_behind-le}
use Rattle.s66_source.proofs.LineTexts.{some-append}

-- some instructions of a run came
abbrev pub begun : ℕ → Bool
begun zero = false
begun (suc n) = true

abbrev pub has_run : ℕ → List Line → Bool
has_run run lines = some_of (λ (l : Line). l.run == run && is_instruction l.class) lines

pub run-skip : (run : ℕ) (l : Line) (lines : List Line) → is_instruction l.class ≡ false → has_run run (l ∷ lines) ≡ has_run run lines
run-skip run l lines stated = ap (λ t. (eqb l.run run && t) || has_run run lines) stated ∙ ap (λ t. t || has_run run lines) (and-false (eqb l.run run))

pub some-ahead : (run : ℕ) (l : Line) (lines : List Line) → l.run ≡ run → is_instruction l.class ≡ true → has_run run (l ∷ lines) ≡ true
some-ahead run l lines same stated = rw (eq-eqb l.run run same, stated) refl

run-other : (run : ℕ) (l : Line) (lines : List Line) → l.run ≢ run → has_run run (l ∷ lines) ≡ has_run run lines
run-other run l lines other = rw (ne_eqb l.run run other) refl

run-append : (run : ℕ) (before lines : List Line) → has_run run (before ++ lines) ≡ (has_run run before || has_run run lines)
run-append run before lines = some-append (λ (l : Line). l.run == run && is_instruction l.class) before lines

-- of no later run
abbrev UpTo : ℕ → List Line → Type 0
UpTo run [] = Unit {0}
UpTo run (l ∷ lines) = (l.run ≤ run) × UpTo run lines

UpTo-later : (run later : ℕ) (lines : List Line) → run ≤ later → UpTo run lines → UpTo later lines
UpTo-later run later [] least up_to = tt
UpTo-later run later (l ∷ lines) least up_to = (omega (arith, least, up_to.0), UpTo-later run later lines least up_to.1)

UpTo-push : (run : ℕ) (lines : List Line) (l : Line) → UpTo run lines → l.run ≤ run → UpTo run (lines ++ l ∷ [])
UpTo-push run [] l up_to last = (last, tt)
UpTo-push run (m ∷ lines) l up_to last = (up_to.0, UpTo-push run lines l up_to.1 last)

none-past : (run : ℕ) (lines : List Line) → UpTo run lines → has_run (suc run) lines ≡ false
none-past run [] up_to = refl
none-past run (l ∷ lines) up_to = run-other (suc run) l lines (λ same. omega (arith, same, up_to.0)) ∙ none-past run lines up_to.1

pub none-later : (run number low : ℕ) (lines : List Line) → run < low → Ordered number low lines → has_run run lines ≡ false
none-later run number low [] below ordered = refl
none-later run number low (l ∷ lines) below ordered =
    run-other run l lines (λ same. omega (arith, same, below, ordered.1)) ∙ none-later run (suc number) (run_behind l) lines (omega (arith, below, ordered.1, run_behind-le l)) ordered.2

-- these lines come before, and so many instructions of the run are among them
pub record Within (all before lines : List Line) (run index : ℕ) : Type 0 where
  pub whole : all ≡ before ++ lines
  pub past : UpTo run before
  pub begins : has_run run before ≡ begun index

-- one line more, in the run or a later one
within-next : (all before : List Line) (l : Line) (lines : List Line) (run later index i : ℕ) → Within all before (l ∷ lines) run index → run ≤ later → l.run ≤ later → has_run later (before ++ l ∷ []) ≡ begun i → Within all (before ++ l ∷ []) lines later i
within-next all before l lines run later index i within least last is =
    record { whole = within.whole ∙ sym (append_assoc before (l ∷ []) lines); past = UpTo-push later before l (UpTo-later run later before least within.past) last; begins = is }

-- that is no instruction, in the run
pub within-same : (all before : List Line) (l : Line) (lines : List Line) (run index : ℕ) → Within all before (l ∷ lines) run index → l.run ≡ run → is_instruction l.class ≡ false → Within all (before ++ l ∷ []) lines run index
within-same all before l lines run index within same stated =
    within-next all before l lines run run index index within (omega arith) (omega (arith, same))
    (run-append run before (l ∷ []) ∙ ap (λ b. has_run run before || b) (run-skip run l [] stated) ∙ or-false (has_run run before) ∙ within.begins)

-- with which a run ends, or that begins one
pub within-new : (all before : List Line) (l : Line) (lines : List Line) (run index : ℕ) → Within all before (l ∷ lines) run index → l.run ≤ suc run → is_instruction l.class ≡ false → Within all (before ++ l ∷ []) lines (suc run) 0
within-new all before l lines run index within last stated =
    within-next all before l lines run (suc run) index 0 within (omega arith) last
    (run-append (suc run) before (l ∷ []) ∙ ap (λ b. has_run (suc run) before || b) (run-skip (suc run) l [] stated) ∙ or-false (has_run (suc run) before) ∙ none-past run before within.past)

-- an instruction of the run, or the first of the next one
pub within-more : (all before : List Line) (l : Line) (lines : List Line) (run later index i : ℕ) → Within all before (l ∷ lines) run index → run ≤ later → l.run ≡ later → is_instruction l.class ≡ true → Within all (before ++ l ∷ []) lines later (suc i)
within-more all before l lines run later index i within least same stated =
    within-next all before l lines run later index (suc i) within least (omega (arith, same))
    (run-append later before (l ∷ []) ∙ ap (λ b. has_run later before || b) (some-ahead later l [] same stated) ∙ or_right (has_run later before) true refl)

-- whether a NO of the run, or of a new one, is of a run with an instruction
pub block-same : (all before : List Line) (l : Line) (lines : List Line) (run index : ℕ) → Within all before (l ∷ lines) run index → l.run ≡ run → is_instruction l.class ≡ false → has_block all l ≡ (begun index || has_run run lines)
block-same all before l lines run index within same stated =
    ap (λ k. has_run k all) same ∙ ap (has_run run) within.whole ∙ run-append run before (l ∷ lines) ∙ ap₂ (λ a b. a || b) within.begins (run-skip run l lines stated)

pub block-new : (all before : List Line) (l : Line) (lines : List Line) (run index : ℕ) → Within all before (l ∷ lines) run index → l.run ≡ suc run → is_instruction l.class ≡ false → has_block all l ≡ has_run (suc run) lines
block-new all before l lines run index within same stated =
    ap (λ k. has_run k all) same ∙ ap (has_run (suc run)) within.whole ∙ run-append (suc run) before (l ∷ lines) ∙ ap₂ (λ a b. a || b) (none-past run before within.past) (run-skip (suc run) l lines stated)

-- no instruction of the run comes once it has ended
pub none-ahead : (run number : ℕ) (l : Line) (lines : List Line) → Ordered number (suc run) lines → is_instruction l.class ≡ false → has_run run (l ∷ lines) ≡ false
none-ahead run number l lines ordered stated = run-skip run l lines stated ∙ none-later run number (suc run) lines (omega arith) ordered

pub none-behind : (run number : ℕ) (l : Line) (lines : List Line) → Ordered number (suc run) lines → l.run ≡ suc run → has_run run (l ∷ lines) ≡ false
none-behind run number l lines ordered same = run-other run l lines (λ here. omega (arith, here, same)) ∙ none-later run number (suc run) lines (omega arith) ordered

-- THE FIRST INSTRUCTION tells whether its run is the one that is open

abbrev pub first_run : ℕ → List Line → Bool
first_run run [] = false
first_run run (a ∷ more) = a.run == run

pub has_run-first : (run number low : ℕ) (lines : List Line) → run ≤ low → Ordered number low lines → has_run run lines ≡ first_run run (instructions lines)
has_run-first run number low [] least ordered = refl
has_run-first run number low (l ∷ lines) least ordered =
    by_class (is_instruction l.class) refl (has_run-first run (suc number) (run_behind l) lines (omega (arith, least, ordered.1, run_behind-le l)) ordered.2)
  where
    by_run : (t : Bool) → (l.run == run) ≡ t → ((l.run == run && true) || has_run run lines) ≡ (l.run == run)
    by_run true same = rw same refl
    by_run false other =
        rw other (none-later run (suc number) (run_behind l) lines (let unlike = eqb-false l.run run other in omega (arith, unlike, least, ordered.1, run_behind-le l)) ordered.2)

    by_class : (t : Bool) → is_instruction l.class ≡ t → has_run run lines ≡ first_run run (instructions lines) → has_run run (l ∷ lines) ≡ first_run run (if t then l ∷ instructions lines else instructions lines)
    by_class false stated rest = run-skip run l lines stated ∙ rest
    by_class true stated rest = ap (λ t. (l.run == run && t) || has_run run lines) stated ∙ by_run (l.run == run) refl
