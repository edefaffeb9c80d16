-- The floors that nodes keep: of one node more, and of a node in another state.
use Rattle.std.proofs.Common.{ℕ, ◌<◌, ◌≡◌, true, List, [], ◌∷◌, ◌++◌, length, get_or, set, refl, sym, ap, arith, inl, inr, ◌∙◌, subst, length-append, length-set}
use Rattle.std.proofs.lemmas.Bool.{cases_eq}
use Rattle.s66_isa.proofs.Lists.{cases_le}
use Rattle.s66_model.specs.{Problem, floor_value}
use Rattle.s66_node.specs.{Node, State, has_floor}
use Rattle.s66_node.proofs.Nodes.{get_or-front, get_or-last}
use Rattle.s66_ledger.specs.{prefixes, stored_at, no_stored, put_state, HaveFloors}
use Rattle.s66_ledger.proofs.NodePrefixes.{push-front, push-last, prefixes-set}
use Rattle.s66_ledger.proofs.OpenHeap.{set-here, set-other}

at-front : (xs : List Node) (x : Node) (i : ℕ) → i < length xs → stored_at (xs ++ x ∷ []) i ≡ stored_at xs i
at-front xs x i lt = get_or-front xs x i _ lt

pub floors-push : (b : Problem) (xs : List Node) (x : Node) → 0 < length xs → HaveFloors b xs → (has_floor x.state ≡ true → x.value ≡ floor_value b (get_or (prefixes xs) x.parent [] ++ x.number ∷ [])) → HaveFloors b (xs ++ x ∷ [])
floors-push b xs x some floors own i lt live =
    elim (cases_le (length xs) i) [
      | inl le ↦
          (let last : i ≡ length xs = omega (arith, le, lt, length-append xs (x ∷ [])) in
          let here : stored_at (xs ++ x ∷ []) i ≡ x = ap (stored_at (xs ++ x ∷ [])) last ∙ get_or-last xs x _ in
          let there = ap (λ k. get_or (prefixes (xs ++ x ∷ [])) k []) last ∙ push-last xs x some in
          ap (λ (n : Node). n.value) here ∙ (own (subst (λ (n : Node). has_floor n.state ≡ true) here live) ∙ ap (floor_value b) (sym there)))
      | inr within ↦
          (let here = at-front xs x i within in
          ap (λ (n : Node). n.value) here ∙ (floors i within (subst (λ (n : Node). has_floor n.state ≡ true) here live) ∙ ap (floor_value b) (sym (push-front xs x i within))))
    ]

pub floors-set : (b : Problem) (nodes : List Node) (i : ℕ) (y d : Node) → i < length nodes → y.parent ≡ (get_or nodes i d).parent → y.number ≡ (get_or nodes i d).number → (has_floor y.state ≡ true → y.value ≡ floor_value b (get_or (prefixes nodes) i [])) → HaveFloors b nodes → HaveFloors b (set nodes i y)
floors-set b nodes i y d lt e f own floors j within live =
    let same = ap (λ ats. floor_value b (get_or ats j [])) (sym (prefixes-set nodes i y d e f)) in
    elim (cases_eq i j) [
      | inl at ↦
          (let here = set-here nodes i j y lt at in
          ap (λ (x : Node). x.value) here ∙ (own (subst (λ (x : Node). has_floor x.state ≡ true) here live) ∙ (ap (λ k. floor_value b (get_or (prefixes nodes) k [])) at ∙ same)))
      | inr ne ↦
          (let other = set-other nodes i j y ne in
          ap (λ (x : Node). x.value) other ∙ (floors j (omega (arith, within, length-set nodes i y)) (subst (λ (x : Node). has_floor x.state ≡ true) other live) ∙ same))
    ]

-- a node that keeps its floor's value takes another state
pub floors-state : (b : Problem) (nodes : List Node) (i : ℕ) (s : State) → i < length nodes → has_floor (stored_at nodes i).state ≡ true → HaveFloors b nodes → HaveFloors b (put_state nodes i s)
floors-state b nodes i s lt kept floors = floors-set b nodes i (record (stored_at nodes i) { state = s }) no_stored lt refl refl (λ live. floors i lt kept) floors
