use Rattle.std.proofs.Common.{◌≡◌, ◌≤◌, ◌∙◌, ◌||◌, ℕ, suc, subst, Bool, true, false, List, if◌then◌else◌, codes, take, sym, ap, bytes_eq}
use Rattle.std.proofs.lemmas.Bool.{or_parts}
use Rattle.s66_line.specs.{class_of, is_code, upper, Other}
use Rattle.s66_source.specs.{after_line, class_at, is_alone, Standing, is_comment_class}
use Rattle.s66_source.proofs.Standings.{bodies-grow, outside-alone, outside-after, settled-stays}
use Rattle.s66_source.proofs.standing.Standing.take.Goals as goal

abbrev is_open : Bool → Standing → List ℕ → Bool
is_open cut s line = cut || (s.off || bytes_eq (upper (take 4 line)) (codes "*S66"))

class-closed : (cut after continued : Bool) (s : Standing) (line : List ℕ) → is_open cut s line ≡ false → class_of after line ≡ class_at after (record { alone = is_alone cut s line continued; bytes = line })
class-closed true after continued s line closed = cc
class-closed false after continued s line closed =
    let (on, other) = or_parts s.off (bytes_eq (upper (take 4 line)) (codes "*S66")) closed in
    ap (λ alone. if alone then Other else class_of after line) (sym (outside-alone s line continued on other))

stays-closed : (cut : Bool) (s : Standing) (line : List ℕ) → is_open cut s line ≡ false → s ≡ after_line cut s line
stays-closed true s line closed = cc
stays-closed false s line closed = let (on, other) = or_parts s.off (bytes_eq (upper (take 4 line)) (codes "*S66")) closed in sym (outside-after s line on other)

pub returns-then-not-is_open-clause-class : goal.returns-then-not-is_open-clause-class
returns-then-not-is_open-clause-class c =
    c.classify_line.ensures.class ∙ class-closed c.args.cut c.args.after_code c.args.continued c.args.self.now c.args.line.now (sym c.is_open.ensures ∙ c.if-not-is_open.true)

pub returns-then-not-is_open-clause-after : goal.returns-then-not-is_open-clause-after
returns-then-not-is_open-clause-after c = stays-closed c.args.cut c.args.self.now c.args.line.now (sym c.is_open.ensures ∙ c.if-not-is_open.true)

pub returns-else-not-is_settled-clause-after : goal.returns-else-not-is_settled-clause-after
returns-else-not-is_settled-clause-after c =
    sym (settled-stays c.args.cut c.args.continued c.args.after_code c.args.self.now c.args.line.now
    (ap (λ class. is_code class || is_comment_class class) (sym c.classify-classified.ensures.class) ∙ sym c.is_settled.ensures ∙ c.if-not-is_settled.false))

pub returns-then-not-is_settled-clause-bodies : goal.returns-then-not-is_settled-clause-bodies
returns-then-not-is_settled-clause-bodies c =
    subst (λ (t : Standing). t.bodies ≤ suc c.args.self.now.bodies) (sym c.pass.ensures) (bodies-grow c.args.cut c.args.self.now c.args.line.now)
