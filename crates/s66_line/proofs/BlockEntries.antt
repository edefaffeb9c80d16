-- The instruction of a number of a block, by its entry.
use Rattle.std.proofs.Common.{ℕ, zero, suc, Some, true≢false, ◌≡◌, sym, ap, ◌∙◌, option_map, is_some}
use Rattle.std.proofs.lemmas.Option.{get_or_from_slice_get, slice_get-map}
use Rattle.s66_isa.specs.{instr_at, idle_instr}
use Rattle.s66_line.specs.{Entry, Block, instrs_of, entry_at}

pub instr_at-entry : (block : Block) (n : ℕ) (e : Entry) → entry_at block n ≡ Some e → e.instr ≡ instr_at (instrs_of block) n
instr_at-entry block zero e here = absurd (true≢false (sym (ap is_some here)))
instr_at-entry block (suc n) e here =
    let instr : Entry → _ = λ e. e.instr in
    sym (get_or_from_slice_get (instrs_of block) n e.instr idle_instr (slice_get-map instr block.entries n ∙ ap (option_map instr) here))
