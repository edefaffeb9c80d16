use Rattle.std.proofs.Common.{ℕ, ◌+◌, ◌-◌, ◌*◌, ◌<◌, ◌≡◌, ◌⊎◌, ◌++◌, ◌∷◌, [], List, Option, IfSome, IfNone, IsTrue, nat_lt, true, arith, sym, ◌∙◌, ap, subst, refl, rules, length, length-append}
use Rattle.std.proofs.Common.{lt-ltb, ltb-true, true≢false}
use Rattle.s66_isa.specs.{BLOCK_LIMIT, Among}
use Rattle.s66_model.specs.{NoneNamed, WrittenEarlier, Problem, Alone, is_ready}
use Rattle.s66_time.proofs.LongestBeginning.{beginning-few}
use Rattle.s66_node.specs.Walked.{Walked}
use Rattle.s66_node.specs.{front, OpenSplit, Unsplit, span, IsDue, IsFound, IsOpen, IsUnsplitPut, IsSplitPut, terminal_by}
use Rattle.s66_node.proofs.Growing.{front-push}
use Rattle.s66_node.proofs.GrowTurns.{root-unsplit, IsGrowing, root-split, child-ready, child-few, frames-few, child-unsplit, child-split, goes-up, ends, deep-enough, is-grown}
use Rattle.s66_node.proofs.Pushing.{found-wider}
use Rattle.s66_node.proofs.WalkTurns.{not-empty, is-empty, none-empty, work, work-terminal, work-split, work-up}
use Rattle.s66_node.proofs.grow.grow.Goals as goal

pub prove-unreachable-requires : goal.prove-unreachable-requires
prove-unreachable-requires g c =
    omega (arith, c.if-prove.true, c.numbers.ensures.few, ap length c.numbers.ensures.value, beginning-few c.args.walk.now.problem.block c.args.walk.now.numbers c.numbers.ensures.begins)

pub returns-in-Some-clause-grown : goal.returns-in-Some-clause-grown
returns-in-Some-clause-grown g c =
    let b = c.args.walk.now.problem in
    let root = c.args.walk.now.numbers in
    let u = c.in-Some.unsplit in
    let best = span (g.L.Least.kept c.args.incumbent.now) (g.L.Least.kept c.least-best.new.self) in
    let found : IsFound NoneNamed b best root [] u =
    found-wider NoneNamed b c.least-best.result c.least-best.result best.high best.low root [] u (omega (arith, c.least-best.ensures.now, c.least-best.ensures.falls)) (omega (arith, c.least-best.ensures.now)) c.in-Some.ensures.found in (
      Alone (terminal_by b root u),
      root-unsplit c.args.rule b best c.args.allowance root c.args.grown.now c.push_unsplit.new.self u c.requires.empty c.in_ok-push_unsplit.ensures found (λ is lt. c.in-Some.ensures.left_open is (lt-ltb 0 c.args.allowance lt)),
    )

pub loop-frame-init : goal.loop-frame-init
loop-frame-init g c =
    let b = c.args.walk.now.problem in
    let root = c.args.walk.now.numbers in
    let high = g.L.Least.kept c.args.incumbent.now in
    let frames : c.push.new.self.items ≡ c.in_ok-root.root ∷ [] = c.push.ensures.items ∙ ap (λ fs. fs ++ c.in_ok-root.root ∷ []) c.new-frames.ensures in
    let due : IsDue b high root =
    (c.in_default.ensures.due.0, omega (arith, c.in_default.ensures.due.1, c.least-best.ensures.now, c.least-best.ensures.falls)) in
    record {
      problem = ap (λ (w : Walked). w.problem) c.push_split.ensures.same;
      kept = sym c.least-best.ensures.now;
      falls = omega (arith, c.least-best.ensures.now, c.least-best.ensures.falls);
      lowest = (c.least-best.ensures.lowest.0, omega (arith, c.least-best.ensures.lowest.0, c.least-best.ensures.lowest.1, c.least-best.ensures.now));
      suits = c.keep_root-2.ensures.suits;
      grows =
          subst (λ (w : Walked). IsGrowing c.args.rule b high c.args.allowance root w.numbers c.push.new.self.items c.push_split.new.self c.least-best.result (g.N.Naming.names c.keep_root-2.new.self)) (sym c.push_split.ensures.same)
          (root-split c.args.rule b high c.args.allowance root _ c.push_split.new.self c.in_ok-root.root c.push.new.self.items c.least-best.result (g.N.Naming.names c.args.names.now) (g.N.Naming.names c.keep_root-2.new.self)
          (record { nodes = c.reserve.ensures.items ∙ c.requires.empty.nodes; dominances = c.requires.empty.dominances; splits = c.requires.empty.splits; least = c.requires.empty.least }) c.in_ok-root.ensures.put frames c.requires.unknown c.keep_root-2.ensures.kept
          (ltb-true 0 c.args.allowance c.in_default.ensures.may) c.numbers.ensures.begins due);
    }

pub push-requires-in-Some-pop_first : goal.push-requires-in-Some-pop_first
push-requires-in-Some-pop_first g c =
    let lf = c.loop-frame in
    let few = child-few _ _ _ _ _ _ _ c.pop.new.self.items c.in-Some-pop.frame _ _ _ lf.invariant.grows c.in-Some-pop.ensures.items c.in-Some-pop_first.n _ c.in-Some-pop_first.ensures.some in
    let room = frames-few _ _ _ _ _ _ _ c.pop.new.self.items c.in-Some-pop.frame _ _ _ lf.invariant.grows c.in-Some-pop.ensures.items in
    (omega arith, omega (arith, few, room, c.numbers.ensures.few))

pub push-requires-in-Some-pop_first-2 : goal.push-requires-in-Some-pop_first-2
push-requires-in-Some-pop_first-2 g c =
    let lf = c.loop-frame in
    subst (λ (p : Problem). is_ready p.block lf.walk.numbers c.in-Some-pop_first.n ≡ true) (sym lf.invariant.problem)
    (child-ready _ _ _ _ _ _ _ c.pop.new.self.items c.in-Some-pop.frame _ _ _ lf.invariant.grows c.in-Some-pop.ensures.items c.in-Some-pop_first.n _ c.in-Some-pop_first.ensures.some)

pub unsplit_child-requires-clause-kept : goal.unsplit_child-requires-clause-kept
unsplit_child-requires-clause-kept g c = c.loop-frame.invariant.kept

pub unsplit_child-requires-clause-suits : goal.unsplit_child-requires-clause-suits
unsplit_child-requires-clause-suits g c = subst (λ (p : Problem). g.N.Naming.suits c.loop-frame.names p) (sym (ap (λ (w : Walked). w.problem) c.push-in-Some-pop_first-2.ensures ∙ c.loop-frame.invariant.problem)) c.loop-frame.invariant.suits

pub returns-in_err-child : goal.returns-in_err-child
returns-in_err-child g c = record {
  suits = subst (λ (p : Problem). g.N.Naming.suits c.unsplit_child.new.names p) (ap (λ (w : Walked). w.problem) c.push-in-Some-pop_first-2.ensures ∙ c.loop-frame.invariant.problem) c.unsplit_child.ensures.suits;
  same = ap (λ (w : Walked). w.problem) c.push-in-Some-pop_first-2.ensures ∙ c.loop-frame.invariant.problem;
  falls = omega (arith, c.unsplit_child.ensures.kept, c.unsplit_child.ensures.falls, c.loop-frame.invariant.falls);
  lowest =
      let was = c.loop-frame.invariant.lowest in
      (c.unsplit_child.ensures.lowest.0 ∙ was.0, omega (arith, c.unsplit_child.ensures.lowest.1 (omega (arith, was.0, was.1)), was.0, c.unsplit_child.ensures.kept));
  grown = search rules;
}

pub returns-in_err-push_unsplit-in-Some-child : goal.returns-in_err-push_unsplit-in-Some-child
returns-in_err-push_unsplit-in-Some-child g c = record {
  suits = subst (λ (p : Problem). g.N.Naming.suits c.unsplit_child.new.names p) (ap (λ (w : Walked). w.problem) c.push-in-Some-pop_first-2.ensures ∙ c.loop-frame.invariant.problem) c.unsplit_child.ensures.suits;
  same = ap (λ (w : Walked). w.problem) c.push-in-Some-pop_first-2.ensures ∙ c.loop-frame.invariant.problem;
  falls = omega (arith, c.unsplit_child.ensures.kept, c.unsplit_child.ensures.falls, c.loop-frame.invariant.falls);
  lowest =
      let was = c.loop-frame.invariant.lowest in
      (c.unsplit_child.ensures.lowest.0 ∙ was.0, omega (arith, c.unsplit_child.ensures.lowest.1 (omega (arith, was.0, was.1)), was.0, c.unsplit_child.ensures.kept));
  grown = search rules;
}

pub loop-frame-smaller-in-Some-child : goal.loop-frame-smaller-in-Some-child
loop-frame-smaller-in-Some-child g c =
    let lf = c.loop-frame in
    let frame : OpenSplit = record { node = c.in-Some-pop.frame.node; left = c.pop_first.new.self } in
    let left = (c.args.allowance - lf.grown.splits) * (BLOCK_LIMIT + 2) in
    subst (λ k. (c.args.allowance - k) * (BLOCK_LIMIT + 2) + work c.push-in-Some-pop_first.new.self.items < left + work lf.frames.items) (sym c.in_ok-push_unsplit-in-Some-child.ensures.splits)
    (work-terminal left lf.frames.items c.push-in-Some-pop_first.new.self.items c.pop.new.self.items c.in-Some-pop.frame frame c.in-Some-pop_first.n c.in-Some-pop.ensures.items c.push-in-Some-pop_first.ensures.items c.in-Some-pop_first.ensures.some)

pub loop-frame-preserved-in-Some-child : goal.loop-frame-preserved-in-Some-child
loop-frame-preserved-in-Some-child g c =
    let b = c.args.walk.now.problem in
    let lf = c.loop-frame in
    let n = c.in-Some-pop_first.n in
    let child = lf.walk.numbers ++ n ∷ [] in
    let now = c.push-in-Some-pop_first-2.new.self in
    let known = g.N.Naming.names lf.names in
    let frame : OpenSplit = record { node = c.in-Some-pop.frame.node; left = c.pop_first.new.self } in
    let walk_is : now ≡ record { problem = b; numbers = child } = c.push-in-Some-pop_first-2.ensures ∙ ap (λ (p : Problem). record { problem = p; numbers = child }) lf.invariant.problem in
    let u = c.in-Some-child.unsplit in
    let best = span lf.best c.unsplit_child.new.best in
    let new = c.push_unsplit-in-Some-child.new.self in
    let found_now : IsFound c.args.rule now.problem best now.numbers known u = subst (λ (o : Option Unsplit). IfSome o (IsFound c.args.rule now.problem best now.numbers known)) c.in-Some-child.is c.in_ok-child.ensures.found in
    let found = subst (λ (w : Walked). IsFound c.args.rule w.problem best w.numbers known u) walk_is found_now in
    let put = subst (λ (w : Walked). IsUnsplitPut w.problem w.numbers lf.grown c.in-Some-pop.frame.node n u new) walk_is c.in_ok-push_unsplit-in-Some-child.ensures in
    let left : IsOpen u → ¬ IsTrue (nat_lt lf.grown.splits c.args.allowance) =
    subst (λ (o : Option Unsplit). IfSome o (λ k. IsOpen k → ¬ IsTrue (nat_lt lf.grown.splits c.args.allowance))) c.in-Some-child.is c.in_ok-child.ensures.left_open in
    let same : c.args.rule ≡ WrittenEarlier → g.N.Naming.names c.unsplit_child.new.names ≡ known =
    λ by. subst (λ (o : Option Unsplit). IfSome o (λ k. g.N.Naming.names c.unsplit_child.new.names ≡ known)) c.in-Some-child.is (c.in_ok-child.ensures.same by) in
    let up : c.undo.new.self.numbers ≡ lf.walk.numbers = ap (λ (w : Walked). w.numbers) c.undo.ensures ∙ (ap (λ (w : Walked). front w.numbers) walk_is ∙ front-push lf.walk.numbers n) in
    record {
      problem = ap (λ (w : Walked). w.problem) c.undo.ensures ∙ ap (λ (w : Walked). w.problem) walk_is;
      kept = c.unsplit_child.ensures.kept;
      falls = omega (arith, c.unsplit_child.ensures.falls, lf.invariant.falls);
      lowest = (c.unsplit_child.ensures.lowest.0 ∙ lf.invariant.lowest.0, omega (arith, c.unsplit_child.ensures.lowest.1 (omega (arith, lf.invariant.lowest.0, lf.invariant.lowest.1)), lf.invariant.lowest.0));
      suits = subst (λ (w : Walked). g.N.Naming.suits c.unsplit_child.new.names w.problem) walk_is c.unsplit_child.ensures.suits;
      grows =
          child-unsplit _ _ _ _ _ _ _ c.pop.new.self.items c.in-Some-pop.frame _ _ _ lf.invariant.grows c.in-Some-pop.ensures.items
          n frame c.in-Some-pop_first.ensures.some refl new c.unsplit_child.new.best c.unsplit_child.ensures.falls lf.invariant.falls (g.N.Naming.names c.unsplit_child.new.names) c.push-in-Some-pop_first.new.self.items c.undo.new.self.numbers
          u put found same (λ is lt. left is (lt-ltb lf.grown.splits c.args.allowance lt)) c.push-in-Some-pop_first.ensures.items up;
    }

pub returns-in_err-below-in-None : goal.returns-in_err-below-in-None
returns-in_err-below-in-None g c = record {
  suits = subst (λ (p : Problem). g.N.Naming.suits c.unsplit_child.new.names p) (ap (λ (w : Walked). w.problem) c.push-in-Some-pop_first-2.ensures ∙ c.loop-frame.invariant.problem) c.unsplit_child.ensures.suits;
  same = ap (λ (w : Walked). w.problem) c.push_split-in-None.ensures.same ∙ ap (λ (w : Walked). w.problem) c.push-in-Some-pop_first-2.ensures ∙ c.loop-frame.invariant.problem;
  falls = omega (arith, c.unsplit_child.ensures.kept, c.unsplit_child.ensures.falls, c.loop-frame.invariant.falls);
  lowest =
      let was = c.loop-frame.invariant.lowest in
      (c.unsplit_child.ensures.lowest.0 ∙ was.0, omega (arith, c.unsplit_child.ensures.lowest.1 (omega (arith, was.0, was.1)), was.0, c.unsplit_child.ensures.kept));
  grown = search rules;
}

pub push-requires-in-None : goal.push-requires-in-None
push-requires-in-None g c =
    let b = c.args.walk.now.problem in
    let lf = c.loop-frame in
    let n = c.in-Some-pop_first.n in
    let child = lf.walk.numbers ++ n ∷ [] in
    let now = c.push-in-Some-pop_first-2.new.self in
    let frame : OpenSplit = record { node = c.in-Some-pop.frame.node; left = c.pop_first.new.self } in
    let walk_is : now ≡ record { problem = b; numbers = child } = c.push-in-Some-pop_first-2.ensures ∙ ap (λ (p : Problem). record { problem = p; numbers = child }) lf.invariant.problem in
    let room = frames-few _ _ _ _ _ _ _ c.pop.new.self.items c.in-Some-pop.frame _ _ _ lf.invariant.grows c.in-Some-pop.ensures.items in
    let here : IsDue now.problem c.unsplit_child.new.best now.numbers = subst (λ (o : Option Unsplit). IfNone o (IsDue now.problem c.unsplit_child.new.best now.numbers)) c.in-None.is c.in_ok-child.ensures.due in
    let due : IsDue b c.unsplit_child.new.best child = subst (λ (w : Walked). IsDue w.problem c.unsplit_child.new.best w.numbers) walk_is here in
    (omega arith, omega (arith, room, due.0, length-append lf.walk.numbers (n ∷ []), c.numbers.ensures.few, ap (λ (xs : List OpenSplit). length xs) {x = c.push-in-Some-pop_first.new.self.items} c.push-in-Some-pop_first.ensures.items, length-append c.pop.new.self.items (frame ∷ [])))

pub loop-frame-smaller-in-None : goal.loop-frame-smaller-in-None
loop-frame-smaller-in-None g c =
    let lf = c.loop-frame in
    let frame : OpenSplit = record { node = c.in-Some-pop.frame.node; left = c.pop_first.new.self } in
    let lt = ltb-true lf.grown.splits c.args.allowance (subst (λ (o : Option Unsplit). IfNone o (IsTrue (nat_lt lf.grown.splits c.args.allowance))) c.in-None.is c.in_ok-child.ensures.may) in
    subst (λ k. (c.args.allowance - k) * (BLOCK_LIMIT + 2) + work c.push-in-None.new.self.items < (c.args.allowance - lf.grown.splits) * (BLOCK_LIMIT + 2) + work lf.frames.items) (sym c.in_ok-below-in-None.ensures.put.splits)
    (work-split c.args.allowance lf.grown.splits lf.frames.items c.push-in-Some-pop_first.new.self.items c.push-in-None.new.self.items c.pop.new.self.items c.in-Some-pop.frame frame c.in_ok-below-in-None.below c.in-Some-pop_first.n lt
    c.in-Some-pop.ensures.items c.push-in-Some-pop_first.ensures.items c.push-in-None.ensures.items c.in-Some-pop_first.ensures.some)

pub loop-frame-preserved-in-None : goal.loop-frame-preserved-in-None
loop-frame-preserved-in-None g c =
    let b = c.args.walk.now.problem in
    let lf = c.loop-frame in
    let n = c.in-Some-pop_first.n in
    let child = lf.walk.numbers ++ n ∷ [] in
    let now = c.push-in-Some-pop_first-2.new.self in
    let known = g.N.Naming.names lf.names in
    let frame : OpenSplit = record { node = c.in-Some-pop.frame.node; left = c.pop_first.new.self } in
    let walk_is : now ≡ record { problem = b; numbers = child } = c.push-in-Some-pop_first-2.ensures ∙ ap (λ (p : Problem). record { problem = p; numbers = child }) lf.invariant.problem in
    let new = c.push_split-in-None.new.self in
    let below = c.in_ok-below-in-None.below in
    let due_now : IsDue now.problem c.unsplit_child.new.best now.numbers = subst (λ (o : Option Unsplit). IfNone o (IsDue now.problem c.unsplit_child.new.best now.numbers)) c.in-None.is c.in_ok-child.ensures.due in
    let due = subst (λ (w : Walked). IsDue w.problem c.unsplit_child.new.best w.numbers) walk_is due_now in
    let put = subst (λ (w : Walked). IsSplitPut w.problem w.numbers lf.grown c.in-Some-pop.frame.node n new below) walk_is c.in_ok-below-in-None.ensures.put in
    let kept : (name : List ℕ) → Among name (g.N.Naming.names c.unsplit_child.new.names) → (name ≡ child) ⊎ Among name known =
    λ name among. subst (λ (w : Walked). (name ≡ w.numbers) ⊎ Among name known) walk_is (c.unsplit_child.ensures.known name among) in
    let lt = ltb-true lf.grown.splits c.args.allowance (subst (λ (o : Option Unsplit). IfNone o (IsTrue (nat_lt lf.grown.splits c.args.allowance))) c.in-None.is c.in_ok-child.ensures.may) in
    record {
      problem = ap (λ (w : Walked). w.problem) c.push_split-in-None.ensures.same ∙ ap (λ (w : Walked). w.problem) walk_is;
      kept = c.unsplit_child.ensures.kept;
      falls = omega (arith, c.unsplit_child.ensures.falls, lf.invariant.falls);
      lowest = (c.unsplit_child.ensures.lowest.0 ∙ lf.invariant.lowest.0, omega (arith, c.unsplit_child.ensures.lowest.1 (omega (arith, lf.invariant.lowest.0, lf.invariant.lowest.1)), lf.invariant.lowest.0));
      suits = subst (λ (w : Walked). g.N.Naming.suits c.unsplit_child.new.names w.problem) walk_is c.unsplit_child.ensures.suits;
      grows =
          child-split _ _ _ _ _ _ _ c.pop.new.self.items c.in-Some-pop.frame _ _ _ lf.invariant.grows c.in-Some-pop.ensures.items
          n frame c.in-Some-pop_first.ensures.some refl new c.unsplit_child.new.best c.unsplit_child.ensures.falls lf.invariant.falls (g.N.Naming.names c.unsplit_child.new.names) c.push-in-None.new.self.items c.push_split-in-None.new.walk.numbers
          below put due kept lt (c.push-in-None.ensures.items ∙ ap (λ fs. fs ++ below ∷ []) c.push-in-Some-pop_first.ensures.items) (ap (λ (w : Walked). w.numbers) c.push_split-in-None.ensures.same ∙ ap (λ (w : Walked). w.numbers) walk_is);
    }

pub undo-requires-then-not-is_empty : goal.undo-requires-then-not-is_empty
undo-requires-then-not-is_empty g c =
    let lf = c.loop-frame in
    deep-enough _ _ _ _ _ _ _ c.pop.new.self.items c.in-Some-pop.frame _ _ _ lf.invariant.grows c.in-Some-pop.ensures.items
    (not-empty c.pop.new.self.items (sym c.is_empty.ensures ∙ c.if-not-is_empty.true))

pub loop-frame-smaller-then-not-is_empty : goal.loop-frame-smaller-then-not-is_empty
loop-frame-smaller-then-not-is_empty g c =
    work-up ((c.args.allowance - c.loop-frame.grown.splits) * (BLOCK_LIMIT + 2)) c.loop-frame.frames.items c.pop.new.self.items c.in-Some-pop.frame c.in-Some-pop.ensures.items

pub loop-frame-preserved-then-not-is_empty : goal.loop-frame-preserved-then-not-is_empty
loop-frame-preserved-then-not-is_empty g c =
    let lf = c.loop-frame in
    let was = lf.invariant in
    record {
      problem = ap (λ (w : Walked). w.problem) c.undo-then-not-is_empty.ensures ∙ was.problem;
      kept = was.kept;
      falls = was.falls;
      lowest = was.lowest;
      suits = was.suits;
      grows = goes-up _ _ _ _ _ _ _ c.pop.new.self.items c.in-Some-pop.frame _ _ _ was.grows c.in-Some-pop.ensures.items
          c.undo-then-not-is_empty.new.self.numbers c.in_default-pop_first.ensures.none (not-empty c.pop.new.self.items (sym c.is_empty.ensures ∙ c.if-not-is_empty.true)) (ap (λ (w : Walked). w.numbers) c.undo-then-not-is_empty.ensures);
    }

pub loop-frame-preserved : goal.loop-frame-preserved
loop-frame-preserved g c =
    let lf = c.loop-frame in
    let was = lf.invariant in
    record {
      problem = was.problem;
      kept = was.kept;
      falls = was.falls;
      lowest = was.lowest;
      suits = was.suits;
      grows = ends _ _ _ _ _ _ _ c.pop.new.self.items c.in-Some-pop.frame _ _ _ was.grows c.in-Some-pop.ensures.items
          c.in_default-pop_first.ensures.none (is-empty c.pop.new.self.items (sym c.is_empty.ensures ∙ c.if-not-is_empty.false));
    }

pub returns : goal.returns
returns g c = record {
  suits = c.loop-frame.invariant.suits;
  same = c.loop-frame.invariant.problem;
  falls = omega (arith, c.loop-frame.invariant.kept, c.loop-frame.invariant.falls);
  lowest = (c.loop-frame.invariant.lowest.0, omega (arith, c.loop-frame.invariant.lowest.1, c.loop-frame.invariant.kept));
  grown =
      let lf = c.loop-frame in
      let none : lf.frames.items ≡ [] = none-empty lf.frames.items (λ lt. true≢false (sym (c.in_default-pop.ensures.variant.1 lt))) in
      is-grown c.args.rule c.args.walk.now.problem (g.L.Least.kept c.args.incumbent.now) c.args.allowance c.args.walk.now.numbers lf.walk.numbers lf.frames.items lf.grown lf.best (g.L.Least.kept lf.incumbent) (g.N.Naming.names lf.names) lf.invariant.grows (omega (arith, lf.invariant.kept)) none;
}
