-- The prefixes to which `go_on` and `advance` take the checker are those of the lines of the tree, in turn.
use Rattle.std.proofs.Common.{ℕ, suc, ◌+◌, ◌*◌, ◌≤◌, ◌≡◌, ◌⊎◌, Bool, true, List, [], ◌∷◌, ◌++◌, length, Option, None, Some, slice_get, refl, sym, ap, ◌∙◌, subst, inl, inr, arith}
use Rattle.std.proofs.lemmas.List.{length-map}
use Rattle.s66_isa.specs.{Instr, Among, BLOCK_LIMIT}
use Rattle.s66_model.specs.{Problem, is_ready, ready, IsNextReady, children, coming, later, Vertex, AtTerminal, AtSplit, Ending}
use Rattle.s66_model.proofs.Later.{replaced, dropped, split-first}
use Rattle.s66_model.proofs.Remaining.{ready-among}
use Rattle.s66_line.specs.{instr_in_text}
use Rattle.s66_cert.specs.{Document, tree_placed, Parts, AreWhole, document_of, SPLIT_LIMIT, FACT_LIMIT}
use Rattle.s66_checker.specs.Checked.{Checked}
use Rattle.s66_checker.specs.{Yes, No, Reason, problem_of, facts_of, line_fault, lines_verdict, tree_line_number, coming_after, HasReady}
use Rattle.s66_checker.proofs.Faultless.{split-shows}
use Rattle.s66_checker.proofs.Placed.{placed, none-placed, tree-placed, few-lines}

-- FROM PREFIX TO PREFIX

module _ (b : Problem) (numbers : List ℕ) (popped : Checked) (last : ℕ) (same : popped.problem ≡ b) (cut : numbers ≡ popped.numbers ++ last ∷ []) where
  -- the next ready number in the place of the last
  pub next-taken : (pushed : Checked) (n : ℕ) → pushed ≡ record popped { numbers = popped.numbers ++ n ∷ [] } → IsNextReady popped.problem.block popped.numbers last (Some n) →
      pushed.numbers ∷ later b.block [] pushed.numbers ≡ later b.block [] numbers
  next-taken pushed n is next =
      rw (ap (λ (c : Checked). c.numbers) is, cut) (replaced b.block popped.numbers last n (subst (λ (x : Problem). IsNextReady x.block popped.numbers last (Some n)) same next))

  -- none in its place
  pub none-taken : IsNextReady popped.problem.block popped.numbers last None → later b.block [] popped.numbers ≡ later b.block [] numbers
  none-taken next =
      rw cut (sym (dropped b.block popped.numbers last (subst (λ (x : Problem). IsNextReady x.block popped.numbers last None) same next)))

first-of : (ns : List ℕ) (n : ℕ) → Some n ≡ slice_get ns 0 → (rest : List ℕ) × (ns ≡ n ∷ rest)
first-of [] n h = absurd (cc)
first-of (m ∷ ns) n h = (ns, (cc))

module _ (block : List Instr) (prefix : List ℕ) (vertex : Vertex Ending) (numbers : List ℕ) (is : vertex ≡ AtSplit numbers) (has : HasReady block prefix vertex) where
  ready-numbers : numbers ≡ ready block prefix
  ready-numbers = subst (λ k. HasReady block prefix k) is has

  -- a split's first number is ready
  pub first-ready : (n : ℕ) → Some n ≡ slice_get numbers 0 → is_ready block prefix n ≡ true
  first-ready n first =
      let (more, cut) = first-of numbers n first in
      ready-among block prefix n (subst (λ ns. Among n ns) (sym cut ∙ ready-numbers) (inl refl))

  -- and is in hand
  pub first-taken : (n : ℕ) → Some n ≡ slice_get numbers 0 → (prefix ++ n ∷ []) ∷ later block [] (prefix ++ n ∷ []) ≡ coming_after block prefix vertex
  first-taken n first =
      let (more, cut) = first-of numbers n first in
      split-first block prefix n more (sym ready-numbers ∙ cut) ∙ ap (λ ns. children prefix ns ++ later block [] prefix) (sym cut) ∙ sym (ap (coming_after block prefix) is)

-- FROM LINE TO LINE

module _ (d : Document) (number : ℕ) (at : Checked) (same : at.problem ≡ problem_of d) (lines vertices : List (Vertex Ending)) (vertex : Vertex Ending) (first : lines ≡ vertex ∷ vertices) (found : Option Reason) (stated : found ≡ line_fault d at.numbers vertex) where
  -- a fault ends the walk
  pub line-refused : (reason : Reason) → found ≡ Some reason → No number reason ≡ lines_verdict d number (placed lines (coming (problem_of d).block true at.numbers))
  line-refused reason some =
      by vertex (sym stated ∙ some) ∙ ap (λ ks. lines_verdict d number (placed ks (coming (problem_of d).block true at.numbers))) (sym first)
    where
      by : (k : Vertex Ending) → line_fault d at.numbers k ≡ Some reason → No number reason ≡ lines_verdict d number (placed (k ∷ vertices) (coming (problem_of d).block true at.numbers))
      by (AtTerminal ending) h = rw h refl
      by (AtSplit numbers) h = rw h refl

  module _ (none : found ≡ None) where
    pub split-ready : HasReady at.problem.block at.numbers vertex
    split-ready = by vertex (sym stated ∙ none)
      where
        by : (k : Vertex Ending) → line_fault d at.numbers k ≡ None → HasReady at.problem.block at.numbers k
        by (AtTerminal ending) h = tt
        by (AtSplit numbers) h = (split-shows d at.numbers numbers).0 h ∙ ap (λ (b : Problem). ready b.block at.numbers) (sym same)

    -- without a fault it goes on
    pub line-passed : (more other : Bool) (next : List ℕ) → coming at.problem.block more next ≡ coming_after at.problem.block at.numbers vertex → more ≡ other →
        lines_verdict d (number + 1) (placed vertices (coming (problem_of d).block other next)) ≡ lines_verdict d number (placed lines (coming (problem_of d).block true at.numbers))
    line-passed more other next goes is =
        by vertex (sym stated ∙ none)
        (subst (λ (b : Problem). coming b.block other next ≡ coming_after b.block at.numbers vertex) same (ap (λ m. coming at.problem.block m next) (sym is) ∙ goes))
        ∙ ap (λ ks. lines_verdict d number (placed ks (coming (problem_of d).block true at.numbers))) (sym first)
      where
        by : (k : Vertex Ending) → line_fault d at.numbers k ≡ None → coming (problem_of d).block other next ≡ coming_after (problem_of d).block at.numbers k →
            lines_verdict d (number + 1) (placed vertices (coming (problem_of d).block other next)) ≡ lines_verdict d number (placed (k ∷ vertices) (coming (problem_of d).block true at.numbers))
        by (AtTerminal ending) h e = let one : number + 1 ≡ suc number = omega arith in rw (h, e, one) refl
        by (AtSplit numbers) h e = let one : number + 1 ≡ suc number = omega arith in rw (h, e, one) refl

-- nothing is left to come
pub none-left : (d : Document) (number time bound : ℕ) (vertices : List (Vertex Ending)) (prefixes : List (List ℕ)) → time ≡ d.time → bound ≡ d.bound → (vertices ≡ []) ⊎ (prefixes ≡ []) →
    Yes time bound ≡ lines_verdict d number (placed vertices prefixes)
none-left d number time bound vertices prefixes same equal none =
    rw (same, equal) (elim none [
      | inl no_vertex ↦ rw no_vertex refl
      | inr no_prefix ↦ rw (no_prefix, none-placed vertices) refl
    ])

-- THE FIRST LINE

module _ (p : Parts) (whole : AreWhole p) (start : Checked) (at : start ≡ record { problem = problem_of (document_of p); numbers = [] }) (count facts : ℕ) (counted : count ≡ length start.problem.block) (held : facts ≡ length (facts_of (document_of p))) (lines : List (Vertex Ending)) (all : lines ≡ p.vertices) where
  d : Document
  d = document_of p

  at-line : count + 7 + facts ≡ tree_line_number d
  unfolding d
  at-line =
      omega (arith, counted, held, ap (λ (c : Checked). length c.problem.block) at, length-map p.block instr_in_text)

  pub walk-begins : lines_verdict (document_of p) (count + 7 + facts) (placed lines (coming (problem_of (document_of p)).block true start.numbers)) ≡ lines_verdict (document_of p) (tree_line_number (document_of p)) (tree_placed [] (document_of p).tree)
  unfolding d
  walk-begins =
      rw (at-line, ap (λ (c : Checked). c.numbers) at, all ∙ sym whole.preorder)
      (ap (lines_verdict d (tree_line_number d)) (tree-placed BLOCK_LIMIT d.tree whole.document.tree))

  pub walk-ends : facts ≤ FACT_LIMIT → count + 7 + facts + length lines ≤ BLOCK_LIMIT + 8 + SPLIT_LIMIT * BLOCK_LIMIT + FACT_LIMIT
  unfolding d
  walk-ends few =
      omega (arith, at-line, held, few, whole.document.block.1, few-lines BLOCK_LIMIT d.tree whole.document.tree, whole.document.splits, ap (λ (ks : List (Vertex Ending)). length ks) (all ∙ sym whole.preorder))
