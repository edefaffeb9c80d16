-- Used by examples alone: a worked source of one block, an answer to the block, and what `order` writes by it.
-- what `decimal` computes by
unfoldable pub use Rattle.std.specs.Fmt.{digits}
use Rattle.std.specs.Prelude.{ℕ, List, [], ◌∷◌, ◌++◌, None, codes}
use Rattle.s66_model.specs.{Chain, Alone, Bounding}
use Rattle.s66_line.specs.{Block}
use Rattle.s66_source.specs.{plain, blocks_of, classed_lines}
use Rattle.s66_answer.specs.{Answer}

abbrev pub one_load_source : List ℕ
one_load_source = codes "  SA1 A1+B1\n" ++ codes "  BX6 X1\n" ++ codes "  BX7 X2\n"

abbrev pub blocks_in : List ℕ → List Block
blocks_in text = blocks_of (classed_lines (plain text))

-- best: the load and what reads it take 12 in every order
abbrev pub one_load_answer : Answer
one_load_answer = record { order = 1 ∷ 3 ∷ 2 ∷ []; time = 12; bound = 12; splits = 0; facts = None; tree = Alone (Bounding (Chain (1 ∷ 2 ∷ []))) }

abbrev pub one_load_ordered : List ℕ
one_load_ordered =
    codes "* BLOCK 1 COUNT 3 SOURCE 16 TIME 12 BEST\n"
    ++ codes "          SA1 A1+B1\n"
    ++ codes "          BX7 X2\n"
    ++ codes "          BX6 X1\n"
