-- The blocks of a printed source that is read again are found to be the source's, in legal orders where they don't stand.
use Rattle.std.proofs.Common.{ℕ, zero, suc, ◌≡◌, ◌≤◌, ◌∙◌, true, Option, None, Some, List, [], ◌∷◌, ◌++◌, get_or, length, map, refl, ap, ap₂, sym, arith, inl, inr}
use Rattle.std.proofs.lemmas.Bool.{and_from}
use Rattle.std.proofs.lemmas.List.{length-map}
use Rattle.std.proofs.lemmas.Simd.{map-map}
use Rattle.s66_isa.specs.{Among, every, rising, instr_at, numbers, Instr, Profile}
use Rattle.s66_model.specs.{IsLegal}
use Rattle.s66_model.proofs.Beginnings.{source-legal}
use Rattle.s66_line.specs.{Block, Entry, bytes_of, instrs_of, text_of, whole_text_of, trim, upper, is_trailing, IsTextOf, spelling}
use Rattle.s66_source.specs.{AreGiven, others, Placed, AreComplete, AreGivenAgain, IsGivenAgain, IsPlacedAgain, IsSameAgain}
use Rattle.s66_source.proofs.ReadLine.{characters-again, operand-again, operation-again}
use Rattle.s66_compare.specs.{paired, texts_of, is_legal, rows_of, is_kept, verdict_of}
use Rattle.s66_compare.proofs.KeptPairs.{order-kept}
use Rattle.s66_compare.proofs.Meanings.{IsSpelled, spells-bytes}
use Rattle.s66_compare.proofs.WholeTexts.{whole_text_in}

-- THE TEXTS of a block are those of its bytes

-- without the first instruction each number is one less
texts-behind : (label : List ℕ) (e : Entry) (entries : List Entry) (k low : ℕ) →
    map (whole_text_of (record { label = label; entries = e ∷ entries })) (rising k (suc (suc low))) ≡ map (whole_text_of (record { label = label; entries = entries })) (rising k (suc low))
texts-behind label e entries zero low = refl
texts-behind label e entries (suc k) low = ap (λ ts. whole_text_of (record { label = label; entries = entries }) (suc low) ∷ ts) (texts-behind label e entries k (suc low))

texts-entries : (label : List ℕ) (entries : List Entry) → texts_of (record { label = label; entries = entries }) ≡ map (λ (e : Entry). whole_text_in e.bytes) entries
texts-entries label [] = refl
texts-entries label (e ∷ entries) =
    ap (λ ts. whole_text_in e.bytes ∷ ts) (texts-behind label e entries (length (map (λ (x : Entry). x.instr) entries)) 0 ∙ texts-entries label entries)

-- READ AGAIN, without what ends its line, an instruction has the text that it had

text-again : (block : Block) (n : ℕ) → IsTextOf (text_of block n) (instr_at (instrs_of block) n) → whole_text_in (trim is_trailing (bytes_of block n)) ≡ whole_text_of block n
text-again block n is =
    let bytes : List ℕ = bytes_of block n in
    let instr : Instr = instr_at (instrs_of block) n in
    let spells = spells-bytes block n is in
    ap₂ (λ text characters. text ++ characters)
    (ap₂ spelling (ap upper (operation-again bytes instr spells)) (ap upper (operand-again bytes instr spells))) (characters-again bytes instr spells)

texts-placed : (block : Block) (order : List ℕ) → IsSpelled block → ((n : ℕ) → Among n order → (1 ≤ n) × (n ≤ length (instrs_of block))) →
    map (λ n. whole_text_in (trim is_trailing (bytes_of block n))) order ≡ map (whole_text_of block) order
texts-placed block [] spelled within = refl
texts-placed block (n ∷ order) spelled within =
    let here = within n (inl refl) in
    ap₂ (λ t ts. t ∷ ts) (text-again block n (spelled n here.0 here.1)) (texts-placed block order spelled (λ m among. within m (inr among)))

placed-texts : (block again : Block) (order : List ℕ) → IsSpelled block → ((n : ℕ) → Among n order → (1 ≤ n) × (n ≤ length (instrs_of block))) → IsPlacedAgain block again order → texts_of again ≡ map (whole_text_of block) order
placed-texts block again order spelled within placed =
    texts-entries again.label again.entries
    ∙ sym (map-map whole_text_in (λ (e : Entry). e.bytes) again.entries)
    ∙ ap (map whole_text_in) placed.bytes
    ∙ map-map whole_text_in (λ n. trim is_trailing (bytes_of block n)) order
    ∙ texts-placed block order spelled within

-- STANDING, it has the bytes that it had
same-texts : (block again : Block) → IsSameAgain block again → texts_of again ≡ texts_of block
same-texts block again same =
    texts-entries again.label again.entries
    ∙ sym (map-map whole_text_in (λ (e : Entry). e.bytes) again.entries)
    ∙ ap (map whole_text_in) same.bytes
    ∙ map-map whole_text_in (λ (e : Entry). e.bytes) block.entries
    ∙ sym (texts-entries block.label block.entries)

-- BLOCK BY BLOCK

-- the block stands, or is printed in a legal order, each number of which is one of its own
abbrev pub IsLegalIf : Block → Option Placed → Type 0
IsLegalIf block None = Unit {0}
IsLegalIf block (Some p) = IsLegal (instrs_of block) p.order × ((n : ℕ) → Among n p.order → (1 ≤ n) × (n ≤ length (instrs_of block)))

-- and it is spelled
abbrev pub AreLegal : List Block → List (Option Placed) → Type 0
AreLegal [] given = Unit {0}
AreLegal (block ∷ blocks) given = (IsSpelled block × IsLegalIf block (get_or given 0 None)) × AreLegal blocks (others given)

given-kept : (block again : Block) (g : Option Placed) → IsSpelled block → IsLegalIf block g → IsGivenAgain block again g → is_kept (verdict_of block again (paired block again)) ≡ true
given-kept block again None spelled legal same = order-kept block again (numbers (instrs_of block)) spelled (source-legal (instrs_of block)) (same-texts block again same)
given-kept block again (Some p) spelled legal placed = order-kept block again p.order spelled legal.0 (placed-texts block again p.order spelled legal.1 placed)

pub given-legal : (p : Profile) (blocks again : List Block) (given : List (Option Placed)) → AreLegal blocks given → AreGivenAgain blocks given again → every is_legal (rows_of p blocks again) ≡ true
given-legal p [] [] given legal are = refl
given-legal p [] (w ∷ ws) given legal are = absurd are
given-legal p (o ∷ os) [] given legal are = absurd are
given-legal p (o ∷ os) (w ∷ ws) given legal are =
    and_from (is_kept (verdict_of o w (paired o w))) (every is_legal (rows_of p os ws))
    (given-kept o w (get_or given 0 None) legal.0.0 legal.0.1 are.0) (given-legal p os ws (others given) legal.1 are.1)

-- such orders are complete, and of numbers of their blocks

pub legal-given : (blocks : List Block) (given : List (Option Placed)) → AreLegal blocks given → AreGiven blocks given
legal-given [] given legal = tt
legal-given (block ∷ blocks) [] legal = tt
legal-given (block ∷ blocks) (None ∷ given) legal = legal-given blocks given legal.1
legal-given (block ∷ blocks) (Some p ∷ given) legal =
    (λ n among. (let within = legal.0.1.1 n among in let count = length-map block.entries (λ (e : Entry). e.instr) in (within.0, omega (arith, within.1, count))), legal-given blocks given legal.1)

pub legal-complete : (blocks : List Block) (given : List (Option Placed)) → AreLegal blocks given → AreComplete blocks given
legal-complete [] given legal = tt
legal-complete (block ∷ blocks) [] legal = tt
legal-complete (block ∷ blocks) (None ∷ given) legal = legal-complete blocks given legal.1
legal-complete (block ∷ blocks) (Some p ∷ given) legal = (legal.0.1.0.whole ∙ length-map block.entries (λ (e : Entry). e.instr), legal-complete blocks given legal.1)

-- where all blocks stand, or so many before others

pub legal-standing : (blocks : List Block) → ((block : Block) → Among block blocks → IsSpelled block) → AreLegal blocks []
legal-standing [] spells = tt
legal-standing (block ∷ blocks) spells = ((spells block (inl refl), tt), legal-standing blocks (λ other among. spells other (inr among)))
