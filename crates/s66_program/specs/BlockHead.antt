-- To be believed: how the first line of a block begins, whatever the command, and that line where it tells what an order takes.
use Rattle.std.specs.Prelude.{ℕ, List, ◌++◌, codes, decimal}
use Rattle.s66_line.specs.{line_of, Block}
use Rattle.s66_time.specs.TimedOrder.{TimedOrder}
use Rattle.s66_program.specs.AsWritten.{total_time}

-- the number of the block, from 1, and the line of its first instruction
abbrev pub block_head : ℕ → Block → List ℕ
block_head n block = codes "BLOCK " ++ decimal n ++ codes " LINE " ++ decimal (line_of block 1)

-- the line of the n-th block, from 1, in an order
abbrev pub timed_line : ℕ → Block → TimedOrder → List ℕ
timed_line n block t = block_head n block ++ codes " TIME " ++ decimal (total_time t) ++ codes "\n"
