-- To be believed: what a row of a page shows of an instruction: its times, in the words of `time --trace`, and where its bars are drawn.
use Rattle.std.specs.Prelude.{ℕ, ◌≡◌, List, ◌++◌, codes, decimal}
use Rattle.s66_model.specs.{Point, latest_result}

-- a text holds another one
abbrev pub Holds : (text part : List ℕ) → Type 0
Holds text part = (before : List ℕ) × (after : List ℕ) × (text ≡ before ++ part ++ after)

-- the title of an instruction's bar
abbrev pub title_of_times : Point → List ℕ
title_of_times p =
    codes "<title>ISSUE " ++ decimal p.issue ++ codes " START " ++ decimal p.start ++ codes " DONE " ++ decimal (latest_result p) ++ codes " FREE " ++ decimal p.free ++ codes "</title>"

-- a bar that begins with this minor cycle and is so many long
abbrev pub place_of_bar : (from cycles : ℕ) → List ℕ
place_of_bar from cycles = codes " x='" ++ decimal from ++ codes "em' width='" ++ decimal cycles ++ codes "em'>"
