-- Each instruction of an accepted source is spelled by its text.
use Rattle.std.proofs.Common.{◌≡◌, ◌≤◌, ◌<◌, ℕ, zero, suc, Bool, List, [], ◌∷◌, Some, length, map, refl, sym, ap, ◌∙◌, subst, inl, inr, arith, Ok, slice_get}
use Rattle.std.proofs.lemmas.List.{length-map}
use Rattle.s66_isa.specs.{Among, instr_at, BLOCK_LIMIT}
use Rattle.s66_isa.proofs.Lists.{among-front, among-rest}
use Rattle.s66_line.specs.{is_return, body, IsTextOf, Entry, Block, instrs_of, text_of, LINE_BYTES_LIMIT, TEXT_LIMIT}
use Rattle.s66_line.proofs.BlockEntries.{instr_at-entry}
use Rattle.s66_line.proofs.InstructionTexts.{text-of_bytes}
use Rattle.s66_line.proofs.LineFields.{from_operation_within, trim-length}
use Rattle.s66_source.specs.{Reading, redefined_by, Redefined, Usual, Line, classed_lines, refusal, instructions, parts_of, entry_of, block_of, blocks_of, source_of, all_of}
use Rattle.s66_source.proofs.LineLaw.{no_refusal, none-at, taken-line}
use Rattle.s66_source.proofs.PartsLaw.{parts}
use Rattle.s66_source.proofs.PrintedLines.{of-instructions, accepted-is}
use Rattle.s66_source.proofs.ReadBlock.{IsSound, AreSound, bytes_of-entry}
use Rattle.s66_source.proofs.SoundBlocks.{sound-block}

-- THE LINES OF A BLOCK

among-map : {X Y : Type 0} (f : X → Y) (y : Y) (xs : List X) → Among y (map f xs) → (x : X) × Among x xs × (y ≡ f x)
among-map f y [] among = absurd among
among-map f y (x ∷ xs) (inl same) = (x, inl refl, same)
among-map f y (x ∷ xs) (inr among) = let there = among-map f y xs among in (there.0, inr there.1, there.2)

among-part : (l : Line) (part : List Line) (parts : List (List Line)) → Among l part → Among part parts → Among l (all_of parts)
among-part l part [] in_part among = absurd among
among-part l part (p ∷ parts) in_part (inl same) = among-front l p (all_of parts) (subst (Among l) same in_part)
among-part l part (p ∷ parts) in_part (inr among) = among-rest l p (all_of parts) (among-part l part parts in_part among)

-- the line of a number
numbered : (part : List Line) (n : ℕ) → n < length part → (l : Line) × Among l part × (slice_get (map entry_of part) n ≡ Some (entry_of l))
numbered [] n few = absurd (omega (arith, few))
numbered (l ∷ part) zero few = (l, inl refl, refl)
numbered (l ∷ part) (suc n) few = let there = numbered part n (omega (arith, few)) in (there.0, inr there.1, there.2)

-- THE BYTES OF AN ENTRY

sound-entry : (cut : Bool) (known : Redefined) (lines : List Line) (l : Line) → AreSound cut known (map entry_of lines) → Among l lines → IsSound cut known (entry_of l)
sound-entry cut known [] l sound among = absurd among
sound-entry cut known (m ∷ lines) l sound (inl same) = subst (λ line. IsSound cut known (entry_of line)) (sym same) sound.0
sound-entry cut known (m ∷ lines) l sound (inr among) = sound-entry cut known lines l sound.1 among

-- the operation begins after column 1
few-entry : (l : Line) → length l.bytes ≤ LINE_BYTES_LIMIT → length (entry_of l).bytes ≤ TEXT_LIMIT
few-entry l few =
    let trimmed = trim-length is_return l.bytes in
    let within = from_operation_within (body l.bytes) in
    omega (arith, few, trimmed, within)

-- AN INSTRUCTION OF A BLOCK

spelled-by : (cut : Bool) (known : Redefined) (block : Block) (n : ℕ) (l : Line) → slice_get block.entries n ≡ Some (entry_of l) → IsSound cut known (entry_of l) → length l.bytes ≤ LINE_BYTES_LIMIT → IsTextOf (text_of block (suc n)) (instr_at (instrs_of block) (suc n))
spelled-by cut known block n l here sound few =
    let e : Entry = entry_of l in
    rw (bytes_of-entry block (suc n) e here, ← instr_at-entry block (suc n) e here) (text-of_bytes e.bytes e.instr sound.0.0 (few-entry l few))

-- OF A SOURCE

-- a block is made of a part
part-of : (source : Reading) (blocks : List Block) (block : Block) → source_of source ≡ Ok blocks → Among block blocks →
    (part : List Line) × Among part (parts_of (instructions (classed_lines source))) × (block ≡ block_of part)
part-of source blocks block accepted among =
    among-map block_of block (parts_of (instructions (classed_lines source))) (subst (Among block) (sym (accepted-is source blocks accepted)) among)

count-instrs : (part : List Line) (block : Block) → block ≡ block_of part → length (instrs_of block) ≡ length part
count-instrs part block made =
    length-map block.entries (λ (e : Entry). e.instr) ∙ ap (λ (b : Block). length b.entries) made ∙ length-map part entry_of

sizes : (source : Reading) (blocks : List Block) (block : Block) → source_of source ≡ Ok blocks → Among block blocks →
    (1 ≤ length (instrs_of block)) × (length (instrs_of block) ≤ BLOCK_LIMIT)
sizes source blocks block accepted among =
    let made = part-of source blocks block accepted among in
    let cut = (parts source).sizes made.0 made.1 in
    let count = count-instrs made.0 block made.2 in
    (omega (arith, cut.0, count), omega (arith, cut.1, count))

pub some : (source : Reading) (blocks : List Block) (block : Block) → source_of source ≡ Ok blocks → Among block blocks → 1 ≤ length (instrs_of block)
some source blocks block accepted among = (sizes source blocks block accepted among).0

pub few : (source : Reading) (blocks : List Block) (block : Block) → source_of source ≡ Ok blocks → Among block blocks → length (instrs_of block) ≤ BLOCK_LIMIT
few source blocks block accepted among = (sizes source blocks block accepted among).1

pub spelled : (source : Reading) (blocks : List Block) (block : Block) → source_of source ≡ Ok blocks → Among block blocks →
    (n : ℕ) → 1 ≤ n → n ≤ length (instrs_of block) → IsTextOf (text_of block n) (instr_at (instrs_of block) n)
spelled source blocks block accepted among zero first last = absurd (omega (arith, first))
spelled source blocks block accepted among (suc n) first last =
    let lines : List Line = classed_lines source in
    let made = part-of source blocks block accepted among in
    let count = count-instrs made.0 block made.2 in
    let there = numbered made.0 n (omega (arith, last, count)) in
    let in_parts = among-part there.0 made.0 (parts_of (instructions lines)) there.1 made.1 in
    let in_source : Among there.0 (instructions lines) = subst (Among there.0) (parts source).whole in_parts in
    let sound = subst (λ (b : Block). AreSound source.cut (redefined_by source) b.entries) made.2 (sound-block Usual source blocks block accepted among).entries in
    spelled-by source.cut (redefined_by source) block n there.0 (ap (λ (b : Block). slice_get b.entries n) made.2 ∙ there.2) (sound-entry source.cut (redefined_by source) made.0 there.0 sound there.1)
    (taken-line there.0 (none-at lines there.0 (no_refusal (refusal lines) (blocks_of lines) blocks accepted) (of-instructions lines there.0 in_source).0)).short
