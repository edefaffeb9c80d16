use Rattle.std.proofs.Common.{◌≡◌, List, ℕ, Option, subst, Bor, option_map}
use Rattle.s66_source.specs.{after_byte}
use Rattle.s66_source.proofs.Counted.{after_comma-some, after_comma-none}
use Rattle.s66_source.proofs.counts.after_comma.Goals as goal

-- the call's result
abbrev Answers : List ℕ → Option (Bor (List ℕ)) → Type 0
Answers bytes result = option_map (λ rest. rest.now) result ≡ after_byte 44 bytes

pub returns-in-Some : goal.returns-in-Some
returns-in-Some c = after_comma-some c.args.bytes.now c.in-Some.rest.now (subst (Answers c.args.bytes.now) c.in-Some.is c.after_byte.ensures)

pub returns-in-None : goal.returns-in-None
returns-in-None c = after_comma-none c.args.bytes.now (subst (Answers c.args.bytes.now) c.in-None.is c.after_byte.ensures)
