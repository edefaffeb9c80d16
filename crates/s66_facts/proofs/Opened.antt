-- What was known before what is supposed, as steps are taken.
use Rattle.std.proofs.Common.{ℕ, ◌+◌, ◌≤◌, ◌≡◌, Bool, true, false, if◌then◌else◌, List, [], ◌∷◌, ◌++◌, length, sym, ap, arith, subst, ◌∙◌, Option, Some, None}
use Rattle.s66_model.specs.{Problem}
use Rattle.s66_moments.specs.{Pair, Load, LoadLine, KnownArc, Known, with_line, may_be_supposed}
use Rattle.s66_moments.proofs.SupposedLines.{MaySuppose, supposed-parts}
use Rattle.s66_facts.specs.{OpenSupposition, before_in, Ground, known_of, IsSupposition, MayBeOpen}

-- HOW MANY LOADS are known

length-more : (loads : List KnownArc) (load : KnownArc) → length (loads ++ load ∷ []) ≡ length loads + 1
length-more [] load = omega arith
length-more (l ∷ ls) load = omega (arith, length-more ls load)

pub pair-loads : (r : Bool) (new old : Ground) (m n : ℕ) → known_of new ≡ (if r then with_line (known_of old) (Pair m n) else known_of old) → length new.loads ≡ length old.loads
pair-loads true new old m n is = ap (λ (k : Known). length k.loads) is
pair-loads false new old m n is = ap (λ (k : Known). length k.loads) is

pub load-loads : (r : Bool) (new old : Ground) (line : LoadLine) → known_of new ≡ (if r then with_line (known_of old) (Load line) else known_of old) → length new.loads ≤ length old.loads + 1
load-loads true new old line is = omega (arith, ap (λ (k : Known). length k.loads) is, length-more old.loads (record { from = line.from; wait = line.wait; to = line.to }))
load-loads false new old line is = omega (arith, ap (λ (k : Known). length k.loads) is)

-- WHAT IS SUPPOSED

supposition-more : (b other : Problem) (steps more : ℕ) (s : OpenSupposition) → other ≡ b → steps ≤ more → IsSupposition b steps s → IsSupposition other more s
supposition-more b other steps more s same le is =
    subst (λ p. IsSupposition p more s) (sym same) (record {
      problem = is.problem;
      first = is.first;
      second = is.second;
      differ = is.differ;
      turned = is.turned;
      loads = omega (arith, is.loads, le);
    })

pub open-more : (b other : Problem) (steps more : ℕ) (supposed : Option OpenSupposition) → other ≡ b → steps ≤ more → MayBeOpen b steps supposed → MayBeOpen other more supposed
open-more b other steps more None same le is = is
open-more b other steps more (Some s) same le is = supposition-more b other steps more s same le is

-- one that begins
pub new-open : (g old : Ground) (other : Problem) (bound steps m n : ℕ) → g ≡ old → other ≡ old.problem → may_be_supposed old.problem (known_of old) m n ≡ true → length old.loads ≤ steps →
    IsSupposition other steps (record { first = m; second = n; outer = g })
new-open g old other bound steps m n same problem may few =
    let parts : MaySuppose old.problem bound (known_of old) m n = supposed-parts old.problem bound (known_of old) m n may in
    supposition-more old.problem other steps steps (record { first = m; second = n; outer = g }) problem (omega arith) (record {
      problem = ap (λ (k : Ground). k.problem) same;
      first = parts.is_m;
      second = parts.is_n;
      differ = parts.differ;
      turned = ap (λ (k : Ground). before_in k.marks n m) same ∙ parts.off_back;
      loads = omega (arith, ap (λ (k : Ground). length k.loads) same, few);
    })
