use Rattle.std.proofs.Common.{◌≡◌, List, Option, arith, rules, length, ◌∙◌, ap, subst, refl, option_map}
use Rattle.s66_isa.specs.{Instr}
use Rattle.s66_model.specs.{Problem, Tree, Terminal, whole_orders}
use Rattle.s66_line.specs.{instrs_of}
use Rattle.s66_time.specs.{problem_of}
use Rattle.s66_time.specs.TimedOrder.{TimedOrder}
use Rattle.s66_time.proofs.LongestBeginning.{beginning-few}
use Rattle.s66_node.specs.{PieceOf, IsBestTimed, Origin, Span, span, IsGrown, IsLeast, names_of}
use Rattle.s66_node.specs.Walked.{Walked}
use Rattle.s66_node.proofs.Pieces.{piece-expanded, piece-kept}
use Rattle.s66_node.proofs.walk.Walk.expand_named.Goals.{In_ok-timed_of}
use Rattle.s66_node.proofs.walk.Walk.expand_named.Given.{Over}
use Rattle.s66_node.proofs.walk.Walk.expand_named.Goals as goal

pub copy_of-requires : goal.copy_of-requires
copy_of-requires g c =
    let own : problem_of c.self.inside.clock ≡ c.args.self.now.problem = ap (λ (w : Walked). w.problem) c.self.view_is ∙ (c.grow.ensures.same ∙ ap (λ (w : Walked). w.problem) c.go_to.ensures) in
    omega (arith, beginning-few c.args.self.now.problem.block c.args.prefix.now c.requires.prefix, c.self.invariant.few, ap (λ (p : Problem). length p.block) own)

module _ (g : Over) (c : In_ok-timed_of g) where
  abbrev b : Problem
  b = c.args.self.now.problem

  abbrev shown : Option TimedOrder
  shown = option_map (λ t. t.value) c.in_ok-timed_of.field-0

  asked : record { block = instrs_of c.block-block.result.now; profile = c.profile-profile.result.now } ≡ b
  asked =
      let here : record { block = instrs_of c.block-block.result.now; profile = c.profile-profile.result.now } ≡ problem_of c.self.inside.clock = rw (c.block-block.ensures, c.profile-profile.ensures) refl in
      here ∙ (ap (λ (w : Walked). w.problem) c.self.view_is ∙ (c.grow.ensures.same ∙ ap (λ (w : Walked). w.problem) c.go_to.ensures))

  abbrev kept : Origin
  kept = c.in_ok-new.field-0.value

  boxed : kept ≡ record { source = c.source.result; profile = c.profile-profile.result.now; prefix = c.copy_of.result }
  boxed = search rules

  own : record { block = kept.source.block; profile = kept.profile } ≡ b
  own =
      ap (λ (o : Origin). record { block = o.source.block; profile = o.profile }) boxed
      ∙ (ap (λ (is : List Instr). record { block = is; profile = c.profile-profile.result.now }) c.source.ensures.block ∙ asked)

  over : kept.prefix.items ≡ c.args.prefix.now
  over = ap (λ (o : Origin). o.prefix.items) boxed ∙ c.copy_of.ensures

  abbrev best : Span
  best = span (g.L.Least.kept c.args.incumbent.now) (g.L.Least.kept c.grow.new.incumbent)

  grown : (tree : Tree Terminal) × IsGrown c.args.rule b best c.args.allowance c.args.prefix.now c.grow.new.grown tree
  grown = subst (λ (w : Walked). (tree : Tree Terminal) × IsGrown c.args.rule w.problem best c.args.allowance w.numbers c.grow.new.grown tree) c.go_to.ensures c.in_ok-grow.ensures.grown

  timed : (tree : Tree Terminal) → IsGrown c.args.rule b best c.args.allowance c.args.prefix.now c.grow.new.grown tree → IsBestTimed b c.args.prefix.now tree shown
  timed tree h =
      let ns = c.args.prefix.now in
      subst (λ (p : Problem). IsLeast p (whole_orders ns tree) c.grow.new.grown.least → IsBestTimed p ns tree shown) asked (c.in_ok-timed_of.ensures ns tree) h.least

  abbrev piece : PieceOf
  piece = record { rule = c.args.rule; problem = record { block = kept.source.block; profile = kept.profile }; prefix = kept.prefix.items; nodes = c.grow.new.grown.nodes.items; names = names_of c.grow.new.grown; timed = shown }

pub invariant_of-result : goal.invariant_of-result
invariant_of-result g c =
    let (tree, h) = grown g c in
    piece-kept c.args.rule (b g c) (best g c) c.args.allowance c.args.prefix.now c.grow.new.grown tree h (piece g c) refl (own g c) (over g c) refl refl (timed g c tree h)

pub returns-clause-piece : goal.returns-clause-piece
returns-clause-piece g c =
    let (tree, h) = grown g c in
    piece-expanded c.args.rule (b g c) (best g c) c.args.allowance c.args.prefix.now c.grow.new.grown tree h (piece g c) refl (own g c) (over g c) refl refl (timed g c tree h)
