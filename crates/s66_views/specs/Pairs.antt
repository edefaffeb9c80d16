-- To be believed: the page that shows the blocks of two sources in pairs, as `compare` pairs them, each in the orders of both.
--
-- `PAGE_PAIRS` is a constant: what stands between the profile and the list.
use Rattle.std.specs.Prelude.{ℕ, ◌≡◌, ◌+◌, Bool, true, List, [], ◌∷◌, ◌++◌, Ok, Option, Some, codes, decimal, slice_get}
use Rattle.s66_isa.specs.{Profile}
use Rattle.s66_command.specs.{changes}
use Rattle.s66_line.specs.{Block, instrs_of}
use Rattle.s66_source.specs.{frame_of, Reading, source_of}
use Rattle.s66_time.specs.TimedOrder.{TimedOrder}
use Rattle.s66_compare.specs.{ending_text, is_accepted, row_line, first_difference, AreAligned, counted, has_new, has_old, Row, Both, NewAlone, OldAlone, BlockVerdict, NotLegal, OtherNew, OtherOld}
use Rattle.s66_compare.specs.{Reordered, Same}
use Rattle.s66_compare.specs.declared.difference.Difference.{Difference}
use Rattle.s66_views.specs.Escape.{escaped}
use Rattle.s66_views.specs.Page.{as_written, block_anchor, page_order_text, profile_line}
use Rattle.s66_views.specs.declared.page.page.Part.{Part}
use Rattle.s66_views.specs.declared.page.page.Part.TheVariants.{Orders, Row as Link}
use Rattle.s66_views.specs.declared.page.pairs.Place.{Place}
use Rattle.s66_views.specs.declared.page.start.TheConstants.{PAGE_START, PAGE_HEAD, PAGE_PAIRS}

-- ORDERS

abbrev pub in_order : Profile → Block → List ℕ → TimedOrder
in_order p block order = record { problem = record { block = instrs_of block; profile = p }; numbers = order }

abbrev pub in_old : Profile → Block → List ℕ
in_old p old = page_order_text old (codes "In the old source") (as_written p old)

abbrev pub in_new : Profile → Block → List ℕ
in_new p new = page_order_text new (codes "In the new source") (as_written p new)

-- of two blocks of which this is said: a new one that is the old one in a legal order is shown by the numbers of the old one's
-- instructions, and one in the same order isn't shown again
abbrev pub both_orders : Profile → (old new : Block) → BlockVerdict → (order : List ℕ) → List ℕ
both_orders p old new Same order = page_order_text old (codes "In both sources") (as_written p old)
both_orders p old new Reordered order = in_old p old ++ page_order_text old (codes "In the new source") (in_order p old order)
both_orders p old new (NotLegal number missing) order = in_old p old ++ in_new p new
both_orders p old new (OtherNew line) order = in_old p old ++ in_new p new
both_orders p old new (OtherOld line) order = in_old p old ++ in_new p new

-- of the blocks of a row
abbrev pub row_orders : Profile → Row → (old new : Option Block) → List ℕ
row_orders p (Both a b said) (Some old) (Some new) = both_orders p old new said.verdict said.order
row_orders p (OldAlone a) (Some old) new = in_old p old
row_orders p (NewAlone b) old (Some new) = in_new p new
row_orders p row old new = []

-- ROWS

-- behind a row
abbrev pub behind : Place → Row → Place
behind at row = record { row = at.row + 1; old = counted (has_old row) at.old; new = counted (has_new row) at.new }

-- the line of `compare --text`
abbrev pub row_said : (new : List Block) → Place → Row → List ℕ
row_said new at row = escaped (row_line true new at.old at.new row)

-- what a page has of a row: a line in the list of all rows, which links to its blocks, or a heading and these
abbrev pub pair_part : Profile → (old new : List Block) → Part → Place → Row → List ℕ
pair_part p old new Link at row = codes "<a href='#b" ++ decimal (at.row + 1) ++ codes "'>" ++ row_said new at row ++ codes "</a>\n"
pair_part p old new Orders at row =
    block_anchor (at.row + 1) ++ row_said new at row ++ codes " <a href='#top'>&#8593;</a></h2>\n"
    ++ row_orders p row (slice_get old at.old) (slice_get new at.new)

-- of rows from a place on
abbrev pub pair_parts : (Place → Row → List ℕ) → Place → List Row → List ℕ
pair_parts part at [] = []
pair_parts part at (row ∷ rows) = part at row ++ pair_parts part (behind at row) rows

-- of all rows
abbrev pub all_pairs : Profile → (old new : List Block) → Part → List Row → List ℕ
all_pairs p old new part rows = pair_parts (pair_part p old new part) (record { row = 0; old = 0; new = 0 }) rows

-- THE PAGE

abbrev pub pairs_head : Profile → List ℕ
pairs_head p = PAGE_START.now ++ codes "s66 compare" ++ PAGE_HEAD.now ++ profile_line (changes p) ++ PAGE_PAIRS.now

-- the list of rows, and what `compare` writes below it
abbrev pub pairs_list : Profile → (old new : List Block) → List Row → Option Difference → List ℕ
pairs_list p old new rows difference = all_pairs p old new Link rows ++ ending_text rows difference ++ codes "</pre>\n"

-- the list, and the blocks
abbrev pub pairs_text : Profile → (old new : List Block) → List Row → Option Difference → List ℕ
pairs_text p old new rows difference = pairs_head p ++ pairs_list p old new rows difference ++ all_pairs p old new Orders rows

-- both sources are accepted; the page is of their blocks, as `compare` aligns them, and the new source is the old one in legal orders
-- or not; it has the rows and `accepted` in common with `IsCompared`
abbrev pub IsPairsPage : Profile → (old new : Reading) (text : List ℕ) → (accepted : Bool) → Type 0
IsPairsPage p old new text accepted =
    (blocks : List Block) × (again : List Block) × (source_of old ≡ Ok blocks) × (source_of new ≡ Ok again)
    × ((rows : List Row) × AreAligned p blocks again rows
    × ((text ≡ pairs_text p blocks again rows (first_difference (frame_of old) (frame_of new)))
    × (accepted ≡ is_accepted rows (first_difference (frame_of old) (frame_of new)))))
