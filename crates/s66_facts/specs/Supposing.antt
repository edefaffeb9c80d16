-- Used by contracts: what is known of a block with what is supposed, and what was known before that.
use Rattle.std.specs.Prelude.{ℕ, ◌≡◌, ◌≢◌, ◌≤◌, false, length, Option, IfSome, option_map}
use Rattle.s66_model.specs.{Problem}
use Rattle.s66_moments.specs.{IsNumber, Supposition, Premises}
use Rattle.s66_facts.specs.declared.supposing.OpenSupposition.{OpenSupposition}
use Rattle.s66_facts.specs.Marked.{before_in}
use Rattle.s66_facts.specs.BlockGround.{Ground, known_of}

-- what is known, the supposition that is open, and how many fact lines were tried
pub record Grounds : Type 0 where
  pub ground : Ground
  pub supposed : Option OpenSupposition
  pub steps : ℕ

abbrev pub supposition_of : OpenSupposition → Supposition
supposition_of s = record { first = s.first; second = s.second; outer = known_of s.outer }

abbrev pub premises_in : Grounds → Premises
premises_in g = record { known = known_of g.ground; supposed = option_map supposition_of g.supposed }

-- two numbers of which neither was known to stand before the other
pub record IsSupposition (b : Problem) (steps : ℕ) (s : OpenSupposition) : Type 0 where
  pub problem : s.outer.problem ≡ b
  pub first : IsNumber b s.first
  pub second : IsNumber b s.second
  pub differ : s.first ≢ s.second
  pub turned : before_in s.outer.marks s.second s.first ≡ false
  pub loads : length s.outer.loads ≤ steps

abbrev pub MayBeOpen : Problem → ℕ → Option OpenSupposition → Type 0
MayBeOpen b steps supposed = IfSome supposed (IsSupposition b steps)
