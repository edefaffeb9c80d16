-- The depths that nodes keep: of one node more, and of a node in another state.
use Rattle.std.proofs.Common.{ℕ, zero, suc, ◌+◌, ◌<◌, ◌≡◌, min, List, [], ◌∷◌, ◌++◌, length, get_or, set, refl, ap, arith, inl, inr, ◌∙◌, length-append, length-set}
use Rattle.std.proofs.lemmas.Bool.{cases_eq}
use Rattle.s66_isa.proofs.Lists.{cases_le}
use Rattle.s66_node.specs.{Node, State}
use Rattle.s66_node.proofs.Nodes.{get_or-front, get_or-last}
use Rattle.s66_ledger.specs.{prefixes, stored_at, no_stored, put_state, HaveDepths}
use Rattle.s66_ledger.proofs.NodePrefixes.{get_or-any, push-front, push-last, prefixes-set}
use Rattle.s66_ledger.proofs.OpenHeap.{set-here, set-other}

pub depths-first : (x : Node) → x.depth ≡ 0 → HaveDepths (x ∷ [])
depths-first x is zero lt = is
depths-first x is (suc i) lt = absurd (omega (arith, lt))

-- one more than its parent's, which comes before it
pub depths-push : (xs : List Node) (x : Node) → x.parent < length xs → x.depth ≡ min 255 ((stored_at xs x.parent).depth + 1) → HaveDepths xs → HaveDepths (xs ++ x ∷ [])
depths-push xs x before own depths i lt =
    let above = get_or (prefixes xs) x.parent [] in
    elim (cases_le (length xs) i) [
      | inl le ↦
          (let last : i ≡ length xs = omega (arith, le, lt, length-append xs (x ∷ [])) in
          let here : stored_at (xs ++ x ∷ []) i ≡ x = ap (stored_at (xs ++ x ∷ [])) last ∙ get_or-last xs x _ in
          let there : get_or (prefixes (xs ++ x ∷ [])) i [] ≡ above ++ x.number ∷ [] = ap (λ k. get_or (prefixes (xs ++ x ∷ [])) k []) last ∙ push-last xs x (omega (arith, before)) in
          omega (arith, ap (λ (n : Node). n.depth) here, own, depths x.parent before, ap length there, length-append above (x.number ∷ [])))
      | inr within ↦
          omega (arith, ap (λ (n : Node). n.depth) (get_or-front xs x i no_stored within), depths i within, ap length (push-front xs x i within))
    ]

pub depths-set : (nodes : List Node) (i : ℕ) (y d : Node) → i < length nodes → y.parent ≡ (get_or nodes i d).parent → y.number ≡ (get_or nodes i d).number → y.depth ≡ (get_or nodes i d).depth → HaveDepths nodes → HaveDepths (set nodes i y)
depths-set nodes i y d lt e f g depths j within =
    let there = ap (λ ats. length (get_or ats j [])) (prefixes-set nodes i y d e f) in
    let was = depths j (omega (arith, within, length-set nodes i y)) in
    elim (cases_eq i j) [
      | inl at ↦
          (let same : y.depth ≡ (stored_at nodes j).depth = g ∙ (get_or-any nodes i d no_stored (λ (n : Node). n.depth) lt ∙ ap (λ k. (stored_at nodes k).depth) at) in
          omega (arith, ap (λ (n : Node). n.depth) (set-here nodes i j y lt at), same, was, there))
      | inr ne ↦ omega (arith, ap (λ (n : Node). n.depth) (set-other nodes i j y ne), was, there)
    ]

pub depths-state : (nodes : List Node) (i : ℕ) (s : State) → i < length nodes → HaveDepths nodes → HaveDepths (put_state nodes i s)
depths-state nodes i s lt depths = depths-set nodes i (record (stored_at nodes i) { state = s }) no_stored lt refl refl refl depths
