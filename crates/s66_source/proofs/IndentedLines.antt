-- Lines after as many blanks as are usual, and lines that keep their columns.
use Rattle.std.proofs.Common.{◌≡◌, ◌≤◌, ◌<◌, ◌-◌, ◌==◌, ℕ, zero, suc, Bool, false, true, eqb-true, List, [], ◌∷◌, ◌++◌, codes, get_or, inl, inr, length, map, replicate, take, refl, sym, ap, ◌∙◌}
use Rattle.std.proofs.Common.{arith}
use Rattle.std.proofs.lemmas.List.{take-replicate}
use Rattle.s66_isa.specs.{Among, Instr}
use Rattle.s66_line.specs.{Block, Entry, bytes_of, body, from_operation, trim, is_trailing, class_of, Instruction}
use Rattle.s66_source.specs.{bytes_on, indent, indented_lines, indents, line_start, instruction_lines, label_field, Line, Own, Usual}
use Rattle.s66_source.proofs.CharactersRead.{SpellsAll}
use Rattle.s66_source.proofs.FarOperands.{indent-bounds, read-start}
use Rattle.s66_source.proofs.ReadLine.{IsRead}

-- no label, and the front of as many blanks as may be asked for
pub no-label : (label : List ℕ) (blanks : ℕ) → (length label == 0) ≡ true → blanks ≤ 256 → line_start label blanks ≡ take blanks (replicate 256 32)
no-label [] blanks none few = sym (take-replicate blanks 256 32 few)
no-label (b ∷ label) blanks none few = absurd (omega (arith, eqb-true (length (b ∷ label)) 0 none))

usual-start : (label : List ℕ) (blanks : ℕ) → blanks ≡ 10 → line_start label blanks ≡ label_field label
usual-start [] blanks is = ap (λ k. replicate k 32) is
usual-start (b ∷ label) blanks is = refl

usual-lines : (blanks : List ℕ) (block : Block) (label order : List ℕ) → ((n : ℕ) → Among n order → get_or blanks (n - 1) 0 ≡ 10) → indented_lines blanks block label order ≡ instruction_lines block label order
usual-lines blanks block label [] are = refl
usual-lines blanks block label (n ∷ ns) are =
    ap (λ start. (start ++ trim is_trailing (bytes_of block n) ++ codes "\n") ++ indented_lines blanks block [] ns) (usual-start label (get_or blanks (n - 1) 0) (are n (inl refl)))
    ∙ ap (λ lines. (label_field label ++ trim is_trailing (bytes_of block n) ++ codes "\n") ++ lines) (usual-lines blanks block [] ns (λ m among. are m (inr among)))

-- by the lines of a source
pub usual-indents : (all : List Line) (block : Block) (order : List ℕ) → ((n : ℕ) → Among n order → (1 ≤ n) × (n ≤ length block.entries)) →
    indented_lines (indents Usual all block) block block.label order ≡ instruction_lines block block.label order
usual-indents all block order within =
    usual-lines (indents Usual all block) block block.label order (λ n among. let (first, last) = within n among in usual-at block.entries (n - 1) (omega (arith, first, last)))
  where
    usual-at : (entries : List Entry) (i : ℕ) → i < length entries → get_or (map (λ (e : Entry). indent Usual (bytes_on all e.line)) entries) i 0 ≡ 10
    usual-at [] i lt = absurd (omega (arith, lt))
    usual-at (e ∷ entries) zero lt = refl
    usual-at (e ∷ entries) (suc i) lt = usual-at entries i (omega (arith, lt))

-- AN OPERATION THAT KEEPS ITS COLUMN

own-read : (line bytes : List ℕ) (n : Instr) → SpellsAll bytes n → IsRead (replicate (indent Own line) 32 ++ trim is_trailing bytes) [] bytes n
own-read line bytes n spells = let bounds = indent-bounds Own line in read-start false [] (indent Own line) bytes n (refl, refl) (bounds.0, bounds.1, refl) spells

pub own-class : (after : Bool) (line bytes : List ℕ) (n : Instr) → SpellsAll bytes n → class_of after (replicate (indent Own line) 32 ++ trim is_trailing bytes) ≡ Instruction false n
own-class after line bytes n spells = (own-read line bytes n spells).classed after

pub own-left : (line bytes : List ℕ) (n : Instr) → SpellsAll bytes n → from_operation (body (replicate (indent Own line) 32 ++ trim is_trailing bytes)) ≡ trim is_trailing bytes
own-left line bytes n spells = (own-read line bytes n spells).left
