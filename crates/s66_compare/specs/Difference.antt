-- To be believed: where two frames first differ.
use Rattle.std.specs.Prelude.{ℕ, ◌≡◌, ◌≢◌, Bool, ◌&&◌, not, if◌then◌else◌, List, [], ◌∷◌, Option, None, Some, bytes_eq, map, option_map, slice_get, take}
use Rattle.s66_source.specs.{FramePart}
use Rattle.s66_compare.specs.declared.difference.Difference.{Difference}

-- they may stand in other lines
abbrev pub is_alike : FramePart → FramePart → Bool
is_alike p q = (if p.is_block then q.is_block else not q.is_block) && bytes_eq p.bytes q.bytes

-- the lines of the first parts that aren't alike, or of the part that the other frame lacks
abbrev pub first_difference : List FramePart → List FramePart → Option Difference
first_difference [] [] = None
first_difference (p ∷ ps) [] = Some (record { old = Some p.line; new = None })
first_difference [] (q ∷ qs) = Some (record { old = None; new = Some q.line })
first_difference (p ∷ ps) (q ∷ qs) =
    if is_alike p q then first_difference ps qs else Some (record { old = Some p.line; new = Some q.line })

-- WHAT THAT MEANS

-- a part without its line
pub record Shape : Type 0 where
  pub is_block : Bool
  pub bytes : List ℕ

abbrev pub shape_of : FramePart → Shape
shape_of p = record { is_block = p.is_block; bytes = p.bytes }

abbrev pub shapes : List FramePart → List Shape
shapes ps = map shape_of ps

abbrev pub line_at : List FramePart → ℕ → Option ℕ
line_at ps k = option_map (λ (p : FramePart). p.line) (slice_get ps k)

-- before this place, from 0, the frames are the same, and in it they aren't; these are its lines
pub record DifferFirst (old new : List FramePart) (d : Difference) : Type 0 where
  pub place : ℕ
  pub before : take place (shapes old) ≡ take place (shapes new)
  pub here : slice_get (shapes old) place ≢ slice_get (shapes new) place
  pub old_line : d.old ≡ line_at old place
  pub new_line : d.new ≡ line_at new place
