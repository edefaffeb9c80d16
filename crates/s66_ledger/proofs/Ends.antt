-- A ledger that some events lead to its end: that it has ended, and what its answer is then.
use Rattle.std.proofs.Common.{ℕ, ◌≡◌, ◌≢◌, true, List, [], ◌∷◌, ◌++◌, length, refl, sym, ap, arith, inl, inr, ◌∙◌, subst}
use Rattle.std.proofs.lemmas.Bool.{cases_eq}
use Rattle.s66_isa.specs.{Among}
use Rattle.s66_model.specs.{Rule, Problem, IsBeginning, Node, Open, Out, Cut, Closed, State, is_open_state, is_live_state, best_time, Covers, NodesHold, IsFinished, bound_of, IsReached, IsEnded}
use Rattle.s66_model.specs.{ended_answer}
use Rattle.s66_model.proofs.Histories.{run-join, reached-covers, reached-table}
use Rattle.s66_model.proofs.EndedLedgers.{ended-finishes}
use Rattle.s66_time.proofs.LongestBeginning.{beginning-few}
use Rattle.s66_ledger.specs.{LedgerOf, MachineOf, Stored, IsKeptMachine, ledger_of, machine_of, IsKeptAnswer, ended_of, Leads, IsSearched}
use Rattle.s66_ledger.proofs.Events.{kept-covers, kept-room}
use Rattle.s66_ledger.proofs.SeenNodes.{length-nodes}

-- WHAT LEADS

pub leads-reached : (old new : LedgerOf) → IsReached old.rule old.problem old.budget old.workers old.state → Leads old new → IsReached new.rule new.problem new.budget new.workers new.state
leads-reached old new (h, r) (problem, budget, workers, (k, s), by) =
    subst (λ q. IsReached q new.problem new.budget new.workers new.state) (sym by)
    (subst (λ b. IsReached old.rule b new.budget new.workers new.state) (sym problem)
    (subst (λ n. IsReached old.rule old.problem n new.workers new.state) (sym budget)
    (subst (λ n. IsReached old.rule old.problem old.budget n new.state) (sym workers) (h ++ k, run-join old.rule old.problem h k _ old.state new.state r s))))

-- THE END

begin-among : (rule : Rule) (b : Problem) (best : ℕ) (all nodes : List Node) (node : Node) → NodesHold rule b best all nodes → Among node nodes → IsBeginning b.block node.prefix
begin-among rule b best all [] node h among = absurd among
begin-among rule b best all (x ∷ nodes) node h (inl e) = subst (λ (y : Node). IsBeginning b.block y.prefix) (sym e) h.0.0
begin-among rule b best all (x ∷ nodes) node h (inr past) = begin-among rule b best all nodes node h.1 past

live-open : (state : State) → is_live_state state ≡ true → state ≢ Out → is_open_state state ≡ true
live-open Open live not = refl
live-open Out live not = absurd (not refl)
live-open Cut live not = live
live-open (Closed leaf) live not = live

-- if nothing more is to be expanded, and no whole order that is open is below the best time, the steps have ended
pub has-ended : (l : LedgerOf) → Covers l.rule l.problem l.budget l.state → IsSearched l.problem l.budget l.state → IsEnded l.problem l.budget l.state
has-ended l covers searched node among live =
    let b = l.problem in
    let begins = begin-among l.rule b (best_time b l.state) l.state.nodes l.state.nodes node covers.nodes among in
    elim searched.open_or_spent [
      | inl below ↦ inl (below node among (live-open node.state live (searched.none_out node among)))
      | inr all ↦
          elim (cases_eq (length node.prefix) (length b.block)) [
            | inl whole ↦ inl (searched.wholes node among live whole)
            | inr part ↦ inr (omega (arith, beginning-few b.block node.prefix begins, part), all)
          ]
    ]

pub finishes : (old new : LedgerOf) → IsReached old.rule old.problem old.budget old.workers old.state → Leads old new → IsEnded new.problem new.budget new.state → IsFinished old.rule old.problem old.budget old.state (ended_answer new.problem new.state)
finishes old new reached (problem, budget, workers, (h, r), by) ended =
    subst (λ (p : Problem). IsFinished old.rule old.problem old.budget old.state (ended_answer p new.state)) (sym problem)
    (ended-finishes old.rule old.problem old.budget old.workers old.state new.state h reached r
    (subst (λ (p : Problem). IsEnded p old.budget new.state) problem (subst (λ n. IsEnded new.problem n new.state) budget ended)))

-- THE ANSWER of a ledger that has ended

module _ (m : Stored) (kept : IsKeptMachine m) (l : MachineOf) (view : machine_of m ≡ l) where
  pub kept-answer : (low : ℕ) → IsEnded l.problem l.budget l.state → low ≡ bound_of l.problem l.state → IsKeptAnswer (ended_of m.rule m.best.problem m.budget m.nodes m.best.numbers m.spent) m.nodes low m.source
  kept-answer low ended bound =
      let b = m.problem in
      let state = ledger_of m in
      let ends : IsEnded b m.budget state = subst (λ (l : MachineOf). IsEnded l.problem l.budget l.state) (sym view) ended in
      let table = reached-table m.rule b m.budget (length m.allowances) state kept.reached in
      let done = ended-finishes m.rule b m.budget (length m.allowances) state state [] kept.reached refl ends in
      subst (λ (p : Problem). IsKeptAnswer (ended_of m.rule p m.budget m.nodes m.best.numbers m.spent) m.nodes low m.source) (sym kept.own)
      (record {
        answer = done.answer;
        source = kept.source;
        bound = sym (bound ∙ ap (λ (l : MachineOf). bound_of l.problem l.state) (sym view));
        few = kept.few;
        table = record { root = table.root; children = table.children; others = table.others; splits = table.splits; best = table.best };
        begins = λ node among. begin-among m.rule b (best_time b state) state.nodes state.nodes node (kept-covers m kept).nodes among;
        floors = kept.floors;
        room = omega (arith, length-nodes b m.nodes, kept.room, kept.few, kept-room m kept 0);
      })

-- if the events went on from a ledger that was reached
pub reached-end : (first last : LedgerOf) → IsReached first.rule first.problem first.budget first.workers first.state → Leads first last → IsSearched last.problem last.budget last.state → IsEnded last.problem last.budget last.state
reached-end first last reached leads searched =
    has-ended last (reached-covers last.rule last.problem last.budget last.workers last.state (leads-reached first last reached leads)) searched
