-- The nodes of a piece appended one by one after those of a ledger, with names that are found or not.
use Rattle.std.proofs.Common.{ℕ, zero, suc, ◌+◌, ◌^◌, ◌≤◌, ◌<◌, ◌≡◌, min, Bool, true, false, cond, nat_le, List, [], ◌∷◌, ◌++◌, length, take, get_or, refl, sym, ap, arith, inl, inr, ◌∙◌, subst}
use Rattle.std.proofs.Common.{append_assoc, length-append, append-nil}
use Rattle.std.proofs.lemmas.List.{take_more}
use Rattle.s66_isa.proofs.Lists.{cases_le}
use Rattle.s66_model.specs.{Problem, ready, floor, floor_value, Vertex, AtTerminal, AtSplit, Bounding, Terminal, Carries, Frontier, Passed}
use Rattle.s66_model.specs.LedgerRuns as model
use Rattle.s66_node.specs.{Node, State, has_floor, prefixes_from, node_line, Named, named_at, node_lines, IsNode, NodesFrom, AreNodes}
use Rattle.s66_node.specs.declared.node.State.TheVariants as state
use Rattle.s66_node.proofs.Nodes.{get_or-front, get_or-last}
use Rattle.s66_ledger.specs.{prefixes, seen_state, seen_node, made_line, nodes_of, made_lines, no_stored, stored_at, is_stored_out, stores_out, HaveFloors, HaveDepths, StoresOut, placed_parent}
use Rattle.s66_ledger.specs.{placed, IsNamed, GraftsIn, AreGrafted, IsGrafting, HaveNames}
use Rattle.s66_ledger.specs.Grafting.{Grafts}
use Rattle.s66_ledger.proofs.NodePrefixes.{get_or-any, push-front, push-last}
use Rattle.s66_ledger.proofs.SeenNodes.{nodes-push, lines-push}
use Rattle.s66_ledger.proofs.NodeFloors.{floors-push}
use Rattle.s66_ledger.proofs.Depths.{depths-push}
use Rattle.s66_ledger.proofs.Taken.{LineOpens, LinesOpen, line_node, line_nodes, LineIsNamed, LinesAreNamed}

-- STILL NAMED after more nodes

front-at : (made more : List Node) (i : ℕ) → i < length made → stored_at (made ++ more) i ≡ stored_at made i
front-at [] more i lt = absurd (omega (arith, lt))
front-at (x ∷ made) more zero lt = refl
front-at (x ∷ made) more (suc i) lt = front-at made more i (omega (arith, lt))

front-prefix : (made more : List Node) (i : ℕ) → i < length made → get_or (prefixes (made ++ more)) i [] ≡ get_or (prefixes made) i []
front-prefix made [] i lt = ap (λ (xs : List Node). get_or (prefixes xs) i []) (append-nil made)
front-prefix made (x ∷ more) i lt =
    ap (λ (xs : List Node). get_or (prefixes xs) i []) (sym (append_assoc made (x ∷ []) more))
    ∙ (front-prefix (made ++ x ∷ []) more i (omega (arith, lt, length-append made (x ∷ []))) ∙ push-front made x i lt)

named-behind : (made more : List Node) (n : ℕ) (name : List ℕ) → IsNamed made n name → IsNamed (made ++ more) n name
named-behind made more n name h = record {
  within = omega (arith, h.within, length-append made more);
  over = front-prefix made more n h.within ∙ h.over;
  standing = λ e. h.standing (sym (ap (λ (x : Node). x.state) (front-at made more n h.within)) ∙ e);
}

still-named : (made more : List Node) (k : Vertex Terminal) → LineIsNamed made k → LineIsNamed (made ++ more) k
still-named made more (AtSplit numbers) h = tt
still-named made more (AtTerminal (Carries leaf)) h = tt
still-named made more (AtTerminal Frontier) h = tt
still-named made more (AtTerminal (Passed name)) (n, named) = (n, named-behind made more n name named)

pub still-out : (made more : List Node) (i : ℕ) → StoresOut made i → StoresOut (made ++ more) i
still-out made more i out = (omega (arith, out.0, length-append made more), ap (λ (x : Node). x.state) (front-at made more i out.0) ∙ out.1)

-- ONE NODE, at its prefix, after those that are made

-- what a ledger makes of it
pub record IsGraftedAs (b : Problem) (best : ℕ) (made : List Node) (at : List ℕ) (k : Vertex Terminal) (x y : Node) : Type 0 where
  pub line : Vertex Terminal
  pub opens : LineOpens k line
  pub lined : made_line b (get_or (prefixes made) y.value []) at y ≡ line
  pub seen : seen_node b (get_or (prefixes made) y.value []) at y ≡ line_node b best at line
  pub named : LineIsNamed made line
  pub floor : has_floor y.state ≡ true → y.value ≡ floor_value b at
  pub depth : y.depth ≡ length at
  pub short : y.depth ≤ 255
  pub in_table : stores_out y ≡ false

settled-seen : (b : Problem) (name at : List ℕ) (t : Bool) → seen_state b name at (cond t state.Closed state.Open) ≡ cond t (model.Closed (Bounding (floor b at))) model.Open
settled-seen b name at true = refl
settled-seen b name at false = refl

settled-in : (t : Bool) → is_stored_out (cond t state.Closed state.Open) ≡ false
settled-in true = refl
settled-in false = refl

module _ (b : Problem) (best root first : ℕ) (names : List Named) (made : List Node) (at : List ℕ) (x y : Node) (h : IsNode b names at x) where
  abbrev AsGrafted : State → Type 0
  AsGrafted s = x.state ≡ s → GraftsIn s best root first names made x y → IsGraftedAs b best made at (node_line b (named_at names x.value).name at s) x y

  -- it stays open
  left-open : (k : Vertex Terminal) (floor : ℕ) → LineOpens k (AtTerminal Frontier) → floor ≡ floor_value b at → y ≡ record (placed root first x) { value = floor; made = state.Open; state = state.Open } → IsGraftedAs b best made at k x y
  left-open k floor opens value e = rw e (record { line = AtTerminal Frontier; opens = opens; lined = refl; seen = refl; named = tt; floor = λ is. value; depth = h.depth; short = h.short; in_table = refl })

  as-open : AsGrafted state.Open
  as-open is e = left-open (AtTerminal Frontier) x.value (Frontier, refl, refl) (h.floor (ap has_floor is)) (e ∙ ap (λ s. record (placed root first x) { made = s; state = state.Open }) (h.made ∙ is))

  as-out : AsGrafted state.Out
  as-out is e = rw e (record { line = AtTerminal Frontier; opens = (Frontier, refl, refl); lined = ap (node_line b (get_or (prefixes made) x.value []) at) (h.made ∙ is); seen = refl; named = tt; floor = λ of. h.floor (ap has_floor is); depth = h.depth; short = h.short; in_table = refl })

  as-closed : AsGrafted state.Closed
  as-closed is e =
      rw e
      (record {
        line = AtTerminal (Carries (floor b at));
        opens = (Carries (floor b at), refl, refl);
        lined = ap (node_line b (get_or (prefixes made) x.value []) at) (h.made ∙ is);
        seen =
            ap (λ s. record { prefix = at; state = s })
            (settled-seen b (get_or (prefixes made) x.value []) at (nat_le best x.value)
            ∙ ap (λ v. cond (nat_le best v) (model.Closed (Bounding (floor b at))) model.Open) (h.floor (ap has_floor is)));
        named = tt;
        floor = λ of. h.floor (ap has_floor is);
        depth = h.depth;
        short = h.short;
        in_table = settled-in (nat_le best x.value);
      })

  as-split : AsGrafted state.Split
  as-split is e =
      rw e
      (record {
        line = AtSplit (ready b.block at);
        opens = refl;
        lined = ap (node_line b (get_or (prefixes made) x.value []) at) (h.made ∙ is);
        seen = refl;
        named = tt;
        floor = λ of. absurd cc;
        depth = h.depth;
        short = h.short;
        in_table = refl;
      })

  as-dominated : AsGrafted state.Dominated
  as-dominated is (inl e) = left-open (AtTerminal (Passed (named_at names x.value).name)) (named_at names x.value).floor (Frontier, refl, inr refl) (h.named is) e
  as-dominated is (inr (n, named, e)) =
      let name = (named_at names x.value).name in
      rw e
      (record {
        line = AtTerminal (Passed name);
        opens = (Passed name, refl, inl refl);
        lined = ap (node_line b (get_or (prefixes made) n []) at) (h.made ∙ is) ∙ ap (λ ns. AtTerminal (Passed ns)) named.over;
        seen = ap (λ ns. record { prefix = at; state = seen_state b ns at state.Dominated }) named.over;
        named = (n, named);
        floor = λ of. absurd cc;
        depth = h.depth;
        short = h.short;
        in_table = refl;
      })

  pub grafted-as : Grafts best root first names made x y → IsGraftedAs b best made at (node_line b (named_at names x.value).name at x.state) x y
  grafted-as g = by x.state refl g
    where
      by : (s : State) → AsGrafted s
      by state.Open = as-open
      by state.Out = as-out
      by state.Closed = as-closed
      by state.Split = as-split
      by state.Dominated = as-dominated

grafts-at : (best root first : ℕ) (names : List Named) (made : List Node) (x y : Node) → Grafts best root first names made x y → (y.parent ≡ placed_parent root first x.parent) × (y.number ≡ x.number)
grafts-at best root first names made x y g = by x.state g
  where
    by : (s : State) → GraftsIn s best root first names made x y → (y.parent ≡ placed_parent root first x.parent) × (y.number ≡ x.number)
    by state.Open e = (ap (λ (z : Node). z.parent) e, ap (λ (z : Node). z.number) e)
    by state.Out e = (ap (λ (z : Node). z.parent) e, ap (λ (z : Node). z.number) e)
    by state.Closed e = (ap (λ (z : Node). z.parent) e, ap (λ (z : Node). z.number) e)
    by state.Split e = (ap (λ (z : Node). z.parent) e, ap (λ (z : Node). z.number) e)
    by state.Dominated (inl e) = (ap (λ (z : Node). z.parent) e, ap (λ (z : Node). z.number) e)
    by state.Dominated (inr (n, named, e)) = (ap (λ (z : Node). z.parent) e, ap (λ (z : Node). z.number) e)

pub grafts-in : (best root first : ℕ) (names : List Named) (made : List Node) (x y : Node) → Grafts best root first names made x y → stores_out y ≡ false
grafts-in best root first names made x y g = by x.state g
  where
    by : (s : State) → GraftsIn s best root first names made x y → stores_out y ≡ false
    by state.Open e = ap stores_out e
    by state.Out e = ap stores_out e
    by state.Closed e = ap stores_out e ∙ settled-in (nat_le best x.value)
    by state.Split e = ap stores_out e
    by state.Dominated (inl e) = ap stores_out e
    by state.Dominated (inr (n, named, e)) = ap stores_out e

-- THOSE BELOW A ROOT

-- the prefixes of nodes after those with these
abbrev pub later_prefixes : List (List ℕ) → List Node → List (List ℕ)
later_prefixes made [] = []
later_prefixes made (x ∷ xs) = (get_or made x.parent [] ++ x.number ∷ []) ∷ later_prefixes (made ++ (get_or made x.parent [] ++ x.number ∷ []) ∷ []) xs

pub prefixes-later : (made : List (List ℕ)) (xs : List Node) → prefixes_from made xs ≡ made ++ later_prefixes made xs
prefixes-later made [] = sym (append-nil made)
prefixes-later made (x ∷ xs) =
    let at = get_or made x.parent [] ++ x.number ∷ [] in
    prefixes-later (made ++ at ∷ []) xs ∙ append_assoc made (at ∷ []) (later_prefixes (made ++ at ∷ []) xs)

-- the nodes of a piece that were made, by their places: in the ledger they have the same prefixes
pub record AreMade (root first : ℕ) (pieces : List (List ℕ)) (made : List Node) : Type 0 where
  pub some : 0 < length pieces
  pub count : length made + 1 ≡ first + length pieces
  pub low : root < first
  pub room : length made < 2 ^ 32
  pub same : (j : ℕ) → j < length pieces → get_or (prefixes made) (placed_parent root first j) [] ≡ get_or pieces j []

placed-within : (root first j : ℕ) (pieces : List (List ℕ)) (made : List Node) → AreMade root first pieces made → j < length pieces → placed_parent root first j < length made
placed-within root first zero pieces made h lt = omega (arith, h.low, h.count, h.some)
placed-within root first (suc j) pieces made h lt = omega (arith, h.count, lt)

-- what they are in the ledger
pub record IsMarked (b : Problem) (best : ℕ) (news : List (List ℕ)) (ks : List (Vertex Terminal)) (made ys : List Node) : Type 0 where
  pub taken : List (Vertex Terminal)
  pub opens : LinesOpen ks taken
  pub lines : made_lines b (made ++ ys) ≡ made_lines b made ++ taken
  pub nodes : nodes_of b (made ++ ys) ≡ nodes_of b made ++ line_nodes b best news taken
  pub named : LinesAreNamed (made ++ ys) taken
  pub floors : HaveFloors b made → HaveFloors b (made ++ ys)
  pub depths : HaveDepths made → HaveDepths (made ++ ys)

module _ (b : Problem) (best root first : ℕ) (names : List Named) where
  -- one more
  made-push : (pieces : List (List ℕ)) (made : List Node) (x y : Node) → AreMade root first pieces made → x.parent < length pieces → y.parent ≡ placed_parent root first x.parent → y.number ≡ x.number → length made + 1 < 2 ^ 32 → AreMade root first (pieces ++ (get_or pieces x.parent [] ++ x.number ∷ []) ∷ []) (made ++ y ∷ [])
  made-push pieces made x y h lt parent number room =
      let at = get_or pieces x.parent [] ++ x.number ∷ [] in
      let some : 0 < length made = omega (arith, placed-within root first 0 pieces made h h.some) in
      let path : get_or (prefixes made) y.parent [] ++ y.number ∷ [] ≡ at =
      ap (λ a. get_or (prefixes made) a [] ++ y.number ∷ []) parent ∙ (ap (λ a. a ++ y.number ∷ []) (h.same x.parent lt) ∙ ap (λ n. get_or pieces x.parent [] ++ n ∷ []) number) in
      record {
        some = omega (arith, length-append pieces (at ∷ []));
        count = omega (arith, h.count, length-append pieces (at ∷ []), length-append made (y ∷ []));
        low = h.low;
        room = omega (arith, room, length-append made (y ∷ []));
        same = λ j within.
            elim (cases_le (length pieces) j) [
              | inl le ↦
                  (let last : j ≡ length pieces = omega (arith, le, within, length-append pieces (at ∷ [])) in
                  let place : placed_parent root first j ≡ length made = ap (placed_parent root first) last ∙ last-place (length pieces) h.some h.count in
                  ap (λ i. get_or (prefixes (made ++ y ∷ [])) i []) place
                  ∙ (push-last made y some ∙ (path ∙ (sym (get_or-last pieces at []) ∙ ap (λ i. get_or (pieces ++ at ∷ []) i []) (sym last)))))
              | inr before ↦
                  push-front made y (placed_parent root first j) (placed-within root first j pieces made h before)
                  ∙ (h.same j before ∙ sym (get_or-front pieces at j [] before))
            ];
      }
    where
      last-place : (n : ℕ) → 0 < n → length made + 1 ≡ first + n → placed_parent root first n ≡ length made
      last-place zero some e = absurd (omega (arith, some))
      last-place (suc n) some e = omega (arith, e, h.room)

  pub marked-all : (pieces : List (List ℕ)) (made xs ys : List Node) → AreMade root first pieces made → length made + length xs < 2 ^ 32 → NodesFrom b names pieces xs → AreGrafted best root first names made xs ys →
      IsMarked b best (later_prefixes pieces xs) (node_lines b names (later_prefixes pieces xs) xs) made ys
  marked-all pieces made [] [] are room h g =
      record {
        taken = [];
        opens = tt;
        lines = ap (made_lines b) (append-nil made) ∙ sym (append-nil (made_lines b made));
        nodes = ap (nodes_of b) (append-nil made) ∙ sym (append-nil (nodes_of b made));
        named = tt;
        floors = λ floors. subst (HaveFloors b) (sym (append-nil made)) floors;
        depths = λ depths. subst HaveDepths (sym (append-nil made)) depths;
      }
  marked-all pieces made [] (y ∷ ys) are room h g = absurd g
  marked-all pieces made (x ∷ xs) [] are room h g = absurd g
  marked-all pieces made (x ∷ xs) (y ∷ ys) are room h g =
      let at = get_or pieces x.parent [] ++ x.number ∷ [] in
      let more = made ++ y ∷ [] in
      let some : 0 < length made = omega (arith, placed-within root first 0 pieces made are are.some) in
      let place = grafts-at best root first names made x y g.0 in
      let path : get_or (prefixes made) y.parent [] ++ y.number ∷ [] ≡ at =
      ap (λ a. get_or (prefixes made) a [] ++ y.number ∷ []) place.0 ∙ (ap (λ a. a ++ y.number ∷ []) (are.same x.parent h.0) ∙ ap (λ n. get_or pieces x.parent [] ++ n ∷ []) place.1) in
      let within : y.parent < length made = omega (arith, place.0, placed-within root first x.parent pieces made are h.0) in
      let l = grafted-as b best root first names made at x y h.1 g.0 in
      let next = made-push pieces made x y are h.0 place.0 place.1 (omega (arith, room)) in
      let r = marked-all (pieces ++ at ∷ []) more xs ys next (omega (arith, room, length-append made (y ∷ []))) h.2 g.1 in
      let name = get_or (prefixes made) y.value [] in
      record {
        taken = l.line ∷ r.taken;
        opens = (l.opens, r.opens);
        lines =
            ap (made_lines b) (sym (append_assoc made (y ∷ []) ys))
            ∙ (r.lines
            ∙ (ap (λ ks. ks ++ r.taken) (lines-push b made y at some path)
            ∙ (append_assoc (made_lines b made) (made_line b name at y ∷ []) r.taken
            ∙ ap (λ (k : Vertex Terminal). made_lines b made ++ k ∷ r.taken) l.lined)));
        nodes =
            ap (nodes_of b) (sym (append_assoc made (y ∷ []) ys))
            ∙ (r.nodes
            ∙ (ap (λ ns. ns ++ line_nodes b best (later_prefixes (pieces ++ at ∷ []) xs) r.taken) (nodes-push b made y at some path)
            ∙ (append_assoc (nodes_of b made) (seen_node b name at y ∷ []) (line_nodes b best (later_prefixes (pieces ++ at ∷ []) xs) r.taken)
            ∙ ap (λ (n : model.Node). nodes_of b made ++ n ∷ line_nodes b best (later_prefixes (pieces ++ at ∷ []) xs) r.taken) l.seen)));
        named =
            (still-named made (y ∷ ys) l.line l.named, subst (λ (ns : List Node). LinesAreNamed ns r.taken) (append_assoc made (y ∷ []) ys) r.named);
        floors = λ floors.
            subst (HaveFloors b) (append_assoc made (y ∷ []) ys) (r.floors (floors-push b made y some floors (λ kept. l.floor kept ∙ ap (floor_value b) (sym path))));
        depths = λ depths.
            let above = get_or (prefixes made) y.parent [] in
            let own : y.depth ≡ min 255 ((stored_at made y.parent).depth + 1) =
            omega (arith, l.depth, ap length (sym path), length-append above (y.number ∷ []), depths y.parent within, l.short) in
            subst HaveDepths (append_assoc made (y ∷ []) ys) (r.depths (depths-push made y within own depths));
      }

-- NODE BY NODE

grafted-push : (best root first : ℕ) (names : List Named) (made xs ys : List Node) (x y : Node) → AreGrafted best root first names made xs ys → Grafts best root first names (made ++ ys) x y → AreGrafted best root first names made (xs ++ x ∷ []) (ys ++ y ∷ [])
grafted-push best root first names made [] [] x y h g = (subst (λ (ms : List Node). Grafts best root first names ms x y) (append-nil made) g, tt)
grafted-push best root first names made [] (z ∷ ys) x y h g = absurd h
grafted-push best root first names made (w ∷ xs) [] x y h g = absurd h
grafted-push best root first names made (w ∷ xs) (z ∷ ys) x y h g =
    (h.0, grafted-push best root first names (made ++ z ∷ []) xs ys x y h.1 (subst (λ (ms : List Node). Grafts best root first names ms x y) (sym (append_assoc made (z ∷ []) ys)) g))

grafted-length : (best root first : ℕ) (names : List Named) (made xs ys : List Node) → AreGrafted best root first names made xs ys → length ys ≡ length xs
grafted-length best root first names made [] [] h = refl
grafted-length best root first names made [] (y ∷ ys) h = absurd h
grafted-length best root first names made (x ∷ xs) [] h = absurd h
grafted-length best root first names made (x ∷ xs) (y ∷ ys) h = omega (arith, grafted-length best root first names (made ++ y ∷ []) xs ys h.1)

module _ (best root : ℕ) (names : List Named) (made below all : List Node) where
  pub grafting-length : IsGrafting best root names made below all → length all ≡ length made + length below
  grafting-length h = omega (arith, ap length h.behind, length-append made h.more, grafted-length best root (length made) names made below h.more h.grafted)

  pub grafting-out : IsGrafting best root names made below all → (i : ℕ) → StoresOut made i → StoresOut all i
  grafting-out h i out = subst (λ ns. StoresOut ns i) (sym h.behind) (still-out made h.more i out)

pub grafting-more : (best root : ℕ) (names : List Named) (made below all : List Node) (i : ℕ) (y : Node) → IsGrafting best root names made (take i below) all → i < length below → Grafts best root (length made) names all (stored_at below i) y → IsGrafting best root names made (take (i + 1) below) (all ++ y ∷ [])
grafting-more best root names made below all i y h lt g =
    record {
      more = h.more ++ y ∷ [];
      behind = ap (λ xs. xs ++ y ∷ []) h.behind ∙ append_assoc made h.more (y ∷ []);
      grafted =
          subst (λ xs. AreGrafted best root (length made) names made xs (h.more ++ y ∷ [])) (sym (take_more below i no_stored lt))
          (grafted-push best root (length made) names made (take i below) h.more (stored_at below i) y h.grafted (subst (λ (ms : List Node). Grafts best root (length made) names ms (stored_at below i) y) h.behind g));
    }

-- the node at a place
pub grafts-index : (best root first : ℕ) (names : List Named) (made below : List Node) (i : ℕ) (d y : Node) → i < length below → Grafts best root first names made (get_or below i d) y → Grafts best root first names made (stored_at below i) y
grafts-index best root first names made below i d y lt g = subst (λ (x : Node). Grafts best root first names made x y) (get_or-any below i d no_stored (λ x. x) lt) g

pub names-index : (count : ℕ) (below : List Node) (i : ℕ) (d : Node) → HaveNames count below → i < length below → (get_or below i d).state ≡ state.Dominated → (get_or below i d).value < count
names-index count below i d h lt is =
    let same = get_or-any below i d no_stored (λ x. x) lt in
    omega (arith, h i lt (ap (λ (x : Node). x.state) (sym same) ∙ is), ap (λ (x : Node). x.value) same)

-- a dominated node of a piece has a name
names-from : (b : Problem) (names : List Named) (pieces : List (List ℕ)) (xs : List Node) → NodesFrom b names pieces xs → HaveNames (length names) xs
names-from b names pieces [] h i lt is = absurd (omega (arith, lt))
names-from b names pieces (x ∷ xs) h zero lt is = h.1.within is
names-from b names pieces (x ∷ xs) h (suc i) lt is = names-from b names (pieces ++ (get_or pieces x.parent [] ++ x.number ∷ []) ∷ []) xs h.2 i (omega (arith, lt)) is

pub below-names : (b : Problem) (names : List Named) (prefix : List ℕ) (nodes below : List Node) (x : Node) → AreNodes b names prefix nodes → nodes ≡ x ∷ below → HaveNames (length names) below
below-names b names prefix nodes below x h is = names-from b names (prefix ∷ []) below (subst (AreNodes b names prefix) is h).1
