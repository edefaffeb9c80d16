-- The front of an input that is kept decides what becomes of the whole input (`run_under`).
use Rattle.std.proofs.Common.{◌≡◌, ◌≤◌, ℕ, true, false, true≢false, List, ◌++◌, length, Option, None, Some, IfSome, Ok, Err, inl, inr, refl, ap, sym, subst, ◌∙◌, append-nil}
use Rattle.s66_isa.specs.{Profile}
use Rattle.s66_command.specs.{Command, Asked, Time, Deps, Chart, Why, Page, Pairs, Json, Order, Prove, Check, Lint, Sum, Compare, Guard, Reads, Documents, Sources, reads_cut, reads_of}
use Rattle.s66_line.specs.{Block}
use Rattle.s66_source.specs.{Reading, source_of, SourceError}
use Rattle.s66_answer.specs.{Status}
use Rattle.s66_program.specs.{SOURCE_FRONT, Remark, IsFull, IsKeptInput, IsAskedOutput, IsOutput, is_source, reads_source, source_in, IsRemark, IsRefusal}
use Rattle.s66_program.specs.declared.fault.Fault.{Fault}
use Rattle.s66_program.specs.declared.fault.Fault.TheVariants as fault
use Rattle.s66_program.proofs.Fronts.{front-refused}

-- the most that a command needs of a source, and None of another input
abbrev pub IsMost : Command → Option ℕ → Type 0
IsMost command most = IfSome most (λ n. (n ≡ SOURCE_FRONT) × (reads_source command.asked ≡ true))

accepted-by : (p : Profile) (asked : Asked) (only : Option ℕ) (source : Reading) (text : List ℕ) (status : Status) → reads_source asked ≡ true → IsAskedOutput p asked only source text status →
    (blocks : List Block) × (source_of source ≡ Ok blocks)
accepted-by p (Time trace) only source text status reads (blocks, ok, is, done) = (blocks, ok)
accepted-by p (Deps texts) only source text status reads (blocks, ok, is, done) = (blocks, ok)
accepted-by p (Chart texts units) only source text status reads (blocks, ok, is, done) = (blocks, ok)
accepted-by p (Why None texts) only source text status reads (blocks, ok, is, done) = (blocks, ok)
accepted-by p (Why (Some strategy) texts) only source text status reads (blocks, ok, is) = (blocks, ok)
accepted-by p (Page strategy) only source text status reads (blocks, ok, is) = (blocks, ok)
accepted-by p (Json None) only source text status reads (blocks, ok, is, done) = (blocks, ok)
accepted-by p (Json (Some strategy)) only source text status reads (blocks, ok, is) = (blocks, ok)
accepted-by p (Order strategy style) only source text status reads (blocks, ok, is) = (blocks, ok)
accepted-by p (Prove strategy) only source text status reads (blocks, ok, is) = (blocks, ok)
accepted-by p (Check texts) only source text status reads is = absurd (cc)
accepted-by p Lint only source text status reads is = absurd (cc)
accepted-by p Guard only source text status reads (blocks, ok, is, done) = (blocks, ok)
accepted-by p (Sum strategy style) only source text status reads (blocks, ok, is) = (blocks, ok)
accepted-by p (Compare texts) only source text status reads is = absurd (cc)
accepted-by p Pairs only source text status reads is = absurd (cc)

accepted : (p : Profile) (command : Command) (input text : List ℕ) (status : Status) → reads_source command.asked ≡ true → IsOutput p command input text status → (blocks : List Block) × (source_of (source_in command input) ≡ Ok blocks)
accepted p command input text status reads is = accepted-by p command.asked command.block (source_in command input) text status reads is

-- a full front is refused, and so is the input, for the same
full-refused : (command : Command) (most : Option ℕ) (held rest : List ℕ) → IsMost command most → IsFull most held →
    (reads_source command.asked ≡ true) × ((e : SourceError) × (source_of (source_in command (held ++ rest)) ≡ Err e) × (source_of (source_in command held) ≡ Err e))
full-refused command None held rest is full = absurd full
full-refused command (Some n) held rest (limit, reads) full = (reads, front-refused (reads_cut command) held rest (subst (λ k. k ≤ length held) limit full))

-- what is kept is the whole input, if the command writes something for it
kept-whole : (p : Profile) (command : Command) (most : Option ℕ) (input held text : List ℕ) (status : Status) → IsMost command most → IsKeptInput most input held → IsOutput p command held text status → held ≡ input
kept-whole p command most input held text status most-is (rest, is, inl none) output = sym (is ∙ ap (λ r. held ++ r) none ∙ append-nil held)
kept-whole p command most input held text status most-is (rest, is, inr full) output =
    let stated = full-refused command most held rest most-is full in
    let known = accepted p command held text status stated.0 output in
    absurd (cc)

pub whole-output : (p : Profile) (command : Command) (most : Option ℕ) (input held text : List ℕ) (status : Status) → IsMost command most → IsKeptInput most input held → IsOutput p command held text status → IsOutput p command input text status
whole-output p command most input held text status most-is kept output =
    subst (λ i. IsOutput p command i text status) (kept-whole p command most input held text status most-is kept output) output

pub whole-remark : (p : Profile) (command : Command) (most : Option ℕ) (input held text : List ℕ) (status : Status) (r : Remark) → IsMost command most → IsKeptInput most input held → IsOutput p command held text status →
    IsRemark command held text r → IsRemark command input text r
whole-remark p command most input held text status r most-is kept output remark =
    subst (λ i. IsRemark command i text r) (kept-whole p command most input held text status most-is kept output) remark

-- what is read for it is one source, so it isn't this
no-other : (asked : Asked) (other : Reads) → is_source other ≡ false → reads_source asked ≡ true → reads_of asked ≡ other → ⊥
no-other asked other not-source reads is = true≢false (sym reads ∙ ap is_source is ∙ not-source)

refused-for : (command : Command) (input held : List ℕ) (f : Fault) → reads_source command.asked ≡ true → source_of (source_in command input) ≡ source_of (source_in command held) → IsRefusal command held f → IsRefusal command input f
refused-for command input held (fault.Source e) reads same (other, inl (is, refused)) = (other, inl (is, same ∙ refused))
refused-for command input held (fault.Source e) reads same (other, inr (two, halves)) = absurd (no-other command.asked Sources refl reads two)
refused-for command input held (fault.NewSource e) reads same (two, other, halves) = absurd (no-other command.asked Sources refl reads two)
refused-for command input held fault.NoNewSource reads same (two, none) = absurd (no-other command.asked Sources refl reads two)
refused-for command input held (fault.Document e) reads same (is, refused) = absurd (no-other command.asked Documents refl reads is)
refused-for command input held fault.Profile reads same h = h
refused-for command input held fault.Memory reads same h = h
refused-for command input held fault.Read reads same h = h
refused-for command input held fault.Write reads same h = h

pub whole-refusal : (command : Command) (most : Option ℕ) (input held : List ℕ) (f : Fault) → IsMost command most → IsKeptInput most input held → IsRefusal command held f → IsRefusal command input f
whole-refusal command most input held f most-is (rest, is, inl none) refusal =
    subst (λ i. IsRefusal command i f) (sym (is ∙ ap (λ r. held ++ r) none ∙ append-nil held)) refusal
whole-refusal command most input held f most-is (rest, is, inr full) refusal =
    let stated = full-refused command most held rest most-is full in
    subst (λ i. IsRefusal command i f) (sym is) (refused-for command (held ++ rest) held f stated.0 (stated.1.1 ∙ sym stated.1.2) refusal)
