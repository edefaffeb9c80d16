-- A page holds the row of each instruction of an order, and a row its times and its bars.
use Rattle.std.proofs.Common.{ℕ, ◌+◌, ◌-◌, ◌<◌, ◌≡◌, ◌∙◌, List, [], ◌∷◌, ◌++◌, ap, append_assoc, codes, decimal, drop, flat_map, get_or, inl, inr, length, refl, reverse, subst, sym, take, append-nil}
use Rattle.std.proofs.Common.{take-append-drop}
use Rattle.s66_isa.specs.{kind_name, Among, latency_of}
use Rattle.s66_model.specs.{Problem, Point, point_of, points_after, points_of}
use Rattle.s66_model.proofs.PointTimes.{points_after-append}
use Rattle.s66_line.specs.{Block, bytes_of}
use Rattle.s66_time.specs.TimedOrder.{TimedOrder}
use Rattle.s66_time.specs.{point_at}
use Rattle.s66_time.proofs.Positions.{point-at, points-push}
use Rattle.s66_why.specs.{Stretch, cycles_of, conflict_name, stretches_at, work, works}
use Rattle.s66_views.specs.{Bar, all_kind_rows, all_rows, bar, bar_start, page_instruction_row, instruction_rows, on_path, order_head, page_order_text, page_register_rows, row_head, row_marks, row_words, shown_as}
use Rattle.s66_views.specs.{span, stretch_bar, stretch_title, why_below, work_bar, work_title, Holds, place_of_bar, title_of_times}

-- PARTS

holds-all : (text : List ℕ) → Holds text text
holds-all text = ([], [], sym (append-nil text))

holds-left : (part a b : List ℕ) → Holds a part → Holds (a ++ b) part
holds-left part a b (x, y, is) = (x, y ++ b, ap (λ z. z ++ b) is ∙ append_assoc (x ++ part) y b)

holds-right : (part a b : List ℕ) → Holds b part → Holds (a ++ b) part
holds-right part a b (x, y, is) =
    (a ++ x, y, ap (λ z. a ++ z) is ∙ sym (append_assoc a (x ++ part) y) ∙ ap (λ z. z ++ y) (sym (append_assoc a x part)))

holds-each : {X : Type 0} (f : X → List ℕ) (part : List ℕ) (x : X) (xs : List X) → Among x xs → Holds (f x) part → Holds (flat_map f xs) part
holds-each f part x [] among is = absurd among
holds-each f part x (y ∷ ys) (inl e) is = holds-left part (f y) (flat_map f ys) (subst (λ u. Holds (f u) part) e is)
holds-each f part x (y ∷ ys) (inr past) is = holds-right part (f y) (flat_map f ys) (holds-each f part x ys past is)

-- A BAR

span-is : (from cycles : ℕ) → span from cycles ≡ place_of_bar from cycles ++ codes "<title>"
unfolding span
span-is from cycles = sym (append_assoc (codes " x='" ++ decimal from ++ codes "em' width='" ++ decimal cycles) (codes "em'>") (codes "<title>"))

bar-place : (class : List ℕ) (from cycles : ℕ) (title : List ℕ) → Holds (bar class from cycles title) (place_of_bar from cycles)
unfolding bar_start
bar-place class from cycles title =
    let place : List ℕ = place_of_bar from cycles in
    let front = codes "<rect class='" ++ class ++ codes "'" in
    holds-left place (bar_start class from cycles ++ title) (codes "</title></rect>")
    (holds-left place (bar_start class from cycles) title (holds-right place front (span from cycles) ([], codes "<title>", span-is from cycles)))

bar-title : (class : List ℕ) (from cycles : ℕ) (title : List ℕ) → Holds (bar class from cycles title) (codes "<title>" ++ (title ++ codes "</title>"))
unfolding bar_start
bar-title class from cycles title =
    let place : List ℕ = place_of_bar from cycles in
    let front : List ℕ = codes "<rect class='" ++ class ++ codes "'" in
    let opens : List ℕ = codes "<title>" in
    let shuts : List ℕ = codes "</title>" in
    let head : bar_start class from cycles ≡ (front ++ place) ++ opens = ap (λ z. front ++ z) (span-is from cycles) ∙ sym (append_assoc front place opens) in
    let whole : ((((front ++ place) ++ opens) ++ title) ++ shuts) ++ codes "</rect>" ≡ ((front ++ place) ++ (opens ++ (title ++ shuts))) ++ codes "</rect>" =
    ap (λ z. z ++ codes "</rect>") (append_assoc ((front ++ place) ++ opens) title shuts ∙ append_assoc (front ++ place) opens (title ++ shuts)) in (
      front ++ place,
      codes "</rect>",
      ap (λ z. (z ++ title) ++ codes "</title></rect>") head ∙ sym (append_assoc (((front ++ place) ++ opens) ++ title) shuts (codes "</rect>")) ∙ whole,
    )

-- A ROW

module _ (block : Block) (on : List ℕ) (s : List Point) (p : Point) where
  abbrev head : List ℕ
  head = row_head (bytes_of block p.number) on p.number (length s + 1)

  abbrev waits : List Stretch
  waits = stretches_at s p

  abbrev bars : List ℕ
  bars = flat_map (shown_as Bar) waits

  in-work : (part : List ℕ) → Holds (work_bar (work p)) part → Holds (page_instruction_row block on s p) part
  unfolding row_marks
  in-work part is =
      holds-right part head (row_marks waits (work p))
      (holds-left part (bars ++ work_bar (work p)) (row_words waits (work p).done) (holds-right part bars (work_bar (work p)) is))

  pub row-times : Holds (page_instruction_row block on s p) (title_of_times p)
  unfolding work_bar work_title
  row-times = in-work (title_of_times p) (bar-title (kind_name (work p).kind) (work p).start (work p).latency (work_title (work p)))

  pub row-work : Holds (page_instruction_row block on s p) (place_of_bar p.start (latency_of p.row))
  unfolding work_bar
  row-work = in-work (place_of_bar p.start (latency_of p.row)) (bar-place (kind_name (work p).kind) (work p).start (work p).latency (work_title (work p)))

  pub row-waits : (x : Stretch) → Among x waits → Holds (page_instruction_row block on s p) (place_of_bar x.from (x.to - x.from))
  unfolding row_marks stretch_bar
  row-waits x among =
      let part : List ℕ = place_of_bar x.from (x.to - x.from) in
      holds-right part head (row_marks waits (work p))
      (holds-left part (bars ++ work_bar (work p)) (row_words waits (work p).done)
      (holds-left part bars (work_bar (work p)) (holds-each (shown_as Bar) part x waits among (bar-place (conflict_name x.conflict) x.from (x.to - x.from) (stretch_title x)))))

-- ROWS

rows-hold : (block : Block) (on : List ℕ) (later : List Point) (p : Point) (s : List Point) → Holds (instruction_rows block on (later ++ p ∷ s)) (page_instruction_row block on s p)
rows-hold block on [] p s = holds-right (page_instruction_row block on s p) (instruction_rows block on s) (page_instruction_row block on s p) (holds-all (page_instruction_row block on s p))
rows-hold block on (q ∷ later) p s =
    holds-left (page_instruction_row block on s p) (instruction_rows block on (later ++ p ∷ s)) (page_instruction_row block on (later ++ p ∷ s) q) (rows-hold block on later p s)

-- the points of more numbers come after those of the first ones
later-points : (b : Problem) (s : List Point) (ns : List ℕ) → (later : List Point) × (points_after b s ns ≡ later ++ s)
later-points b s [] = ([], refl)
later-points b s (n ∷ ns) =
    let p : Point = point_of b s n in
    let more = later-points b (p ∷ s) ns in
    (more.0 ++ p ∷ [], more.1 ∙ sym (append_assoc more.0 (p ∷ []) s))

pub order-rows : (block : Block) (title : List ℕ) (t : TimedOrder) (i : ℕ) → i < length t.numbers →
    Holds (page_order_text block title t) (page_instruction_row block (on_path t) (points_of t.problem (take i t.numbers)) (point_at t i))
unfolding page_order_text
order-rows block title t i lt =
    let b : Problem = t.problem in
    let ns = t.numbers in
    let s : List Point = points_of b (take i ns) in
    let p : Point = point_of b s (get_or ns i 0) in
    let row : List ℕ = page_instruction_row block (on_path t) s (point_at t i) in
    let front = order_head title (cycles_of t) in
    let rows : List ℕ = instruction_rows block (on_path t) (points_of b ns) in
    let above = all_kind_rows (cycles_of t) (works t) ++ page_register_rows (reverse (points_of b ns)) in
    let more = later-points b (p ∷ s) (drop (i + 1) ns) in
    let split : points_of b ns ≡ more.0 ++ p ∷ s =
    ap (points_of b) (sym (take-append-drop (i + 1) ns)) ∙ points_after-append b [] (take (i + 1) ns) (drop (i + 1) ns)
    ∙ ap (λ (u : List Point). points_after b u (drop (i + 1) ns)) (points-push b ns i lt) ∙ more.1 in
    let held : Holds (instruction_rows block (on_path t) (more.0 ++ p ∷ s)) row =
    subst (λ (q : Point). Holds (instruction_rows block (on_path t) (more.0 ++ p ∷ s)) (page_instruction_row block (on_path t) s q)) (sym (point-at t i lt)) (rows-hold block (on_path t) more.0 p s) in
    holds-left row (front ++ all_rows block t) (why_below block t)
    (holds-right row front (all_rows block t)
    (holds-right row above rows (subst (λ (u : List Point). Holds (instruction_rows block (on_path t) u) row) (sym split) held)))
