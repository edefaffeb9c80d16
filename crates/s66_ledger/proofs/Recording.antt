-- A move of the machine with its entry is an event, and the history leads on; what its accounts spend adds up.
use Rattle.std.proofs.Common.{ℕ, ◌+◌, ◌≡◌, ◌≢◌, ◌≤◌, ◌<◌, ◌↔◌, ◌∙◌, Bool, true, false, true≢false, List, [], ◌∷◌, ◌++◌, Some, None, map, take, drop, length, get_or, length-append, refl, ap, sym}
use Rattle.std.proofs.Common.{subst, arith, append-nil, length-drop, length-take, take-append-drop}
use Rattle.std.proofs.Math.Seq.{take-length}
use Rattle.std.proofs.lemmas.List.{nil_from_length, take-append-le, drop-append-le}
use Rattle.s66_isa.specs.{weigh, rising}
use Rattle.s66_isa.proofs.Lists.{weigh-append}
use Rattle.s66_model.specs.{Rule, Problem, total_of, Tree, Vertex, flat, splits, Terminal, Frontier, Ledger, Event, Graft, Offer, Reply, Taken, Moves, Run, opening, IsOwn, IsOwnPiece, IsOfferOf}
use Rattle.s66_model.specs.{graft_event, Account, account_of, read_tree}
use Rattle.s66_model.proofs.Histories.{run-next, history-spent}
use Rattle.s66_model.proofs.Forests.{read-flat}
use Rattle.s66_node.specs.{Node, State, node_line, PieceOf, tree_of}
use Rattle.s66_ledger.specs.{EventRecord, Refusal, Offered, offered_reply, byte_count, line_count, entry_of, entries_of, refusal_reply, error_of, MachineOf, IsMove, IsGraftMove, IsRefusedMove}
use Rattle.s66_ledger.specs.{taken_event, IsTakenMove, IsGraft, IsRefusedGraft, no_stored, stored_at, opened_state, IsTakenAs, LedgerOf, IsEvent, IsRecorded, events_of, account_summary, with_history}
use Rattle.s66_ledger.specs.declared.event_record.Refusal.TheVariants as refusal
use Rattle.s66_ledger.specs.declared.reply.Offered.TheVariants as offered
use Rattle.s66_ledger.proofs.NodePrefixes.{get_or-any}
use Rattle.s66_ledger.proofs.Taken.{same-splits}

-- the next entry comes with its own bytes and lines
entries-next : (b : Problem) (before : List EventRecord) (bytes : List ℕ) (lines : List (Vertex Terminal)) (entry : EventRecord) (own : List ℕ) (own_lines : List (Vertex Terminal)) → weigh byte_count before ≡ length bytes → weigh line_count before ≡ length lines → byte_count entry ≡ length own → line_count entry ≡ length own_lines → entries_of b (before ++ entry ∷ []) (bytes ++ own) (lines ++ own_lines) ≡ entries_of b before bytes lines ++ entry_of b entry own own_lines ∷ []
entries-next b [] bytes lines entry own own_lines all all_lines counted lines_counted =
    rw (nil_from_length bytes (sym all), nil_from_length lines (sym all_lines))
    (ap (λ k. entry_of b entry (take k own) (take (line_count entry) own_lines) ∷ []) counted
    ∙ (ap (λ k. entry_of b entry (take (length own) own) (take k own_lines) ∷ []) lines_counted
    ∙ rw (take-length own, take-length own_lines) refl))
entries-next b (e ∷ es) bytes lines entry own own_lines all all_lines counted lines_counted =
    let within : byte_count e ≤ length bytes = omega (arith, all) in
    let lines_within : line_count e ≤ length lines = omega (arith, all_lines) in
    let rest : weigh byte_count es ≡ length (drop (byte_count e) bytes) = omega (arith, all, length-drop (byte_count e) bytes) in
    let lines_rest : weigh line_count es ≡ length (drop (line_count e) lines) = omega (arith, all_lines, length-drop (line_count e) lines) in
    rw (take-append-le (byte_count e) bytes own within, drop-append-le (byte_count e) bytes own within, take-append-le (line_count e) lines own_lines lines_within, drop-append-le (line_count e) lines own_lines lines_within)
    (ap (λ stated. entry_of b e (take (byte_count e) bytes) (take (line_count e) lines) ∷ stated) (entries-next b es (drop (byte_count e) bytes) (drop (line_count e) lines) entry own own_lines rest lines_rest counted lines_counted))

-- room is reserved, and the entry pushed with its own bytes; the machine has its lines
module _ (m next : MachineOf) (before reserved after : List EventRecord) (bytes all : List ℕ) (entry : EventRecord) (own : List ℕ) (own_lines : List (Vertex Terminal)) (event : Event) (reply : Reply) (moved : IsMove m event reply next) (more : next.lines ≡ m.lines ++ own_lines) (is : entry_of m.problem entry own own_lines ≡ (event, reply)) (same : reserved ≡ before) (pushed : after ≡ reserved ++ entry ∷ []) (put : all ≡ bytes ++ own) (counted : byte_count entry ≡ length own) (lines_counted : line_count entry ≡ length own_lines) (kept : IsRecorded (with_history m before bytes)) where
  events-on : events_of (with_history next after all) ≡ events_of (with_history m before bytes) ++ (event, reply) ∷ []
  events-on =
      let lines : weigh line_count before ≡ length (drop 1 m.lines) = omega (arith, kept.lines, length-drop 1 m.lines) in
      ap (λ (p : Problem). entries_of p after all (drop 1 next.lines)) moved.0
      ∙ (rw (pushed, same, put, more, drop-append-le 1 m.lines own_lines (omega (arith, kept.lines)))
      (entries-next m.problem before bytes (drop 1 m.lines) entry own own_lines kept.bytes lines counted lines_counted)
      ∙ ap (λ (e : Event × Reply). events_of (with_history m before bytes) ++ e ∷ []) is)

  recorded : IsRecorded (with_history next after all)
  recorded =
      let old = events_of (with_history m before bytes) in
      let run : Run m.rule m.problem (opening m.problem m.budget m.workers) (old ++ (event, reply) ∷ []) next.state =
      run-next m.rule m.problem old (opening m.problem m.budget m.workers) m.state next.state event reply kept.run moved.3 in
      record {
        run =
            subst (λ x. Run x next.problem (opening next.problem next.budget next.workers) (events_of (with_history next after all)) next.state) (sym moved.4)
            (subst (λ (es : List (Event × Reply)). Run m.rule next.problem (opening next.problem next.budget next.workers) es next.state) (sym events-on)
            (subst (λ (p : Problem). Run m.rule p (opening p next.budget next.workers) (old ++ (event, reply) ∷ []) next.state) (sym moved.0)
            (subst (λ n. Run m.rule m.problem (opening m.problem n next.workers) (old ++ (event, reply) ∷ []) next.state) (sym moved.1)
            (subst (λ n. Run m.rule m.problem (opening m.problem m.budget n) (old ++ (event, reply) ∷ []) next.state) (sym moved.2) run))));
        bytes =
            omega (arith, ap (weigh byte_count) pushed, ap (λ es. weigh byte_count (es ++ entry ∷ [])) same, weigh-append byte_count before (entry ∷ []), ap length put, length-append bytes own, kept.bytes, counted);
        lines =
            omega (arith, ap (weigh line_count) pushed, ap (λ es. weigh line_count (es ++ entry ∷ [])) same, weigh-append line_count before (entry ∷ []), ap length more, length-append m.lines own_lines, kept.lines, lines_counted);
      }

  pub noted : IsRecorded (with_history next after all) × IsEvent (with_history m before bytes) event reply (with_history next after all)
  noted = (recorded, (moved.0, moved.1, moved.2, moved.3, events-on, moved.4))

-- an entry without lines
module _ (m next : MachineOf) (before reserved after : List EventRecord) (bytes all : List ℕ) (entry : EventRecord) (own : List ℕ) (event : Event) (reply : Reply) (moved : IsMove m event reply next) (still : next.lines ≡ m.lines) (is : entry_of m.problem entry own [] ≡ (event, reply)) (same : reserved ≡ before) (pushed : after ≡ reserved ++ entry ∷ []) (put : all ≡ bytes ++ own) (counted : byte_count entry ≡ length own) (none : line_count entry ≡ 0) (kept : IsRecorded (with_history m before bytes)) where
  pub noted-lineless : IsRecorded (with_history next after all) × IsEvent (with_history m before bytes) event reply (with_history next after all)
  noted-lineless = noted m next before reserved after bytes all entry own [] event reply moved (still ∙ sym (append-nil m.lines)) is same pushed put counted none kept

  pub recorded-lineless : IsRecorded (with_history next after all)
  recorded-lineless = noted-lineless.0

  pub event-lineless : IsEvent (with_history m before bytes) event reply (with_history next after all)
  event-lineless = noted-lineless.1

-- an entry without bytes
module _ (m next : MachineOf) (before reserved after : List EventRecord) (bytes : List ℕ) (entry : EventRecord) (event : Event) (reply : Reply) (moved : IsMove m event reply next) (still : next.lines ≡ m.lines) (is : entry_of m.problem entry [] [] ≡ (event, reply)) (same : reserved ≡ before) (pushed : after ≡ reserved ++ entry ∷ []) (none : byte_count entry ≡ 0) (lineless : line_count entry ≡ 0) (kept : IsRecorded (with_history m before bytes)) where
  pub recorded-alone : IsRecorded (with_history next after bytes)
  recorded-alone = recorded-lineless m next before reserved after bytes bytes entry [] event reply moved still is same pushed (sym (append-nil bytes)) none lineless kept

  pub event-alone : IsEvent (with_history m before bytes) event reply (with_history next after bytes)
  event-alone = event-lineless m next before reserved after bytes bytes entry [] event reply moved still is same pushed (sym (append-nil bytes)) none lineless kept

-- WHETHER A PIECE OR AN ORDER IS THE LEDGER'S

same-if : (P : Type 0) (own other : Bool) → ((own ≡ true) ↔ P) → ((other ≡ true) ↔ P) → own ≡ other
same-if P true true h k = refl
same-if P true false h k = absurd (true≢false (sym (k.1 (h.0 refl))))
same-if P false true h k = absurd (true≢false (sym (h.1 (k.0 refl))))
same-if P false false h k = refl

abbrev is-other : Offered → Bool
is-other offered.OtherBlock = true
is-other offered.Lower = false
is-other (offered.NotLower least) = false

-- what is answered to an offer says it
pub offered-own : (rule : Rule) (b p : Problem) (old new : Ledger) (w : ℕ) (order : List ℕ) (event : Event) (answer : Offered) (own : Bool) → IsOfferOf b w p order event → Moves rule b old event (offered_reply answer) new → (answer ≡ offered.OtherBlock → own ≡ false) → (answer ≢ offered.OtherBlock → own ≡ true) → IsOwn b p own
offered-own rule b p old new w order event answer own (other, owns, is) moves foreign ours =
    let stated : Moves rule b old (Offer w other order (total_of p order)) (offered_reply answer) new = subst (λ e. Moves rule b old e (offered_reply answer) new) is moves in
    subst (IsOwn b p) (sym (same answer stated foreign ours)) owns
  where
    same : (a : Offered) → Moves rule b old (Offer w other order (total_of p order)) (offered_reply a) new → (a ≡ offered.OtherBlock → own ≡ false) → (a ≢ offered.OtherBlock → own ≡ true) → own ≡ other
    same offered.Lower h foreign ours = ours (λ e. true≢false (sym (ap is-other e))) ∙ sym h.0.0
    same (offered.NotLower least) h foreign ours = ours (λ e. true≢false (sym (ap is-other e))) ∙ sym h.0.0
    same offered.OtherBlock h foreign ours = foreign refl ∙ sym h.0

-- ENTRIES

abbrev stated : Event → Reply → Event × Reply
stated event reply = (event, reply)

pub offer-entry : (b p : Problem) (w : ℕ) (order numbers : List ℕ) (own : Bool) (time : ℕ) (reply : Reply) (event : Event) → IsOwn b p own → numbers ≡ order → time ≡ total_of p order → IsOfferOf b w p order event → stated (Offer w own numbers time) reply ≡ stated event reply
offer-entry b p w order numbers own time reply event owns same total (other, others, is) =
    ap (λ ns. stated (Offer w own ns time) reply) same
    ∙ (ap (λ t. stated (Offer w own order t) reply) total
    ∙ (ap (λ o. stated (Offer w o order (total_of p order)) reply) (same-if (p ≡ b) own other owns others)
    ∙ ap (λ e. stated e reply) (sym is)))

-- a piece has a root
pub root-state : (p : PieceOf) (nodes : List Node) (d : Node) (part : Tree Terminal) → IsTakenAs p part → nodes ≡ p.nodes → opened_state (get_or nodes 0 d).state ≡ opened_state (stored_at p.nodes 0).state
root-state p nodes d part h is =
    let some : 0 < length nodes = omega (arith, ap length is, h.count, ap length h.root, length-take 1 (flat part)) in
    get_or-any nodes 0 d no_stored (λ (n : Node). opened_state n.state) some ∙ ap (λ xs. opened_state (stored_at xs 0).state) is

module _ (m next : MachineOf) (w i : ℕ) (p : PieceOf) (count : ℕ) (counts : count ≡ splits (tree_of p)) where
  -- the root's state and the lines below it determine what is taken of the piece
  pub taken-entry : (prefix : List ℕ) (root : State) (h : IsTakenMove m w i p next) → prefix ≡ p.prefix → root ≡ opened_state (stored_at p.nodes 0).state →
      stated (Graft w i true prefix count (Some (read_tree Frontier (node_line m.problem [] prefix root ∷ drop 1 (flat h.part))))) Taken ≡ stated (taken_event w i p h.part) Taken
  taken-entry prefix root h over is =
      let all : node_line m.problem [] prefix root ∷ drop 1 (flat h.part) ≡ flat h.part =
      rw (over, is, sym h.problem) (ap (λ ks. ks ++ drop 1 (flat h.part)) (sym h.taken.root) ∙ take-append-drop 1 (flat h.part)) in
      let tree : read_tree Frontier (node_line m.problem [] prefix root ∷ drop 1 (flat h.part)) ≡ h.part = ap (read_tree Frontier) all ∙ read-flat Frontier h.part h.taken.match in
      ap (λ t. stated (Graft w i true prefix count (Some t)) Taken) tree
      ∙ (ap (λ n. stated (Graft w i true prefix n (Some h.part)) Taken) (counts ∙ same-splits (tree_of p) h.part h.taken.opens)
      ∙ ap (λ at. stated (Graft w i true at (splits h.part) (Some h.part)) Taken) over)

  pub refused-move : (why : Refusal) → IsRefusedMove m w i p (error_of why) next → IsGraftMove m w i p (refusal_reply why) next
  refused-move refusal.NotOut h = h
  refused-move refusal.OtherPrefix h = h
  refused-move refusal.OverAllowance h = h

  pub refused-entry : (own : Bool) (why : Refusal) → IsOwnPiece m.rule m.problem p.rule p.problem own → (h : IsGraftMove m w i p (refusal_reply why) next) → stated (Graft w i own p.prefix count None) (refusal_reply why) ≡ stated h.0 (refusal_reply why)
  refused-entry own why owned (event, (other, taken, owns, opens, is), move) =
      ap (λ n. stated (Graft w i own p.prefix n None) (refusal_reply why)) (counts ∙ same-splits (tree_of p) taken opens)
      ∙ (ap (λ o. stated (Graft w i o p.prefix (splits taken) None) (refusal_reply why)) (same-if ((p.rule ≡ m.rule) × (p.problem ≡ m.problem)) own other owned owns)
      ∙ ap (λ e. stated e (refusal_reply why)) (sym (is ∙ without-tree why)))
    where
      without-tree : (r : Refusal) → graft_event w i other p.prefix taken (refusal_reply r) ≡ Graft w i other p.prefix (splits taken) None
      without-tree refusal.NotOut = refl
      without-tree refusal.OtherPrefix = refl
      without-tree refusal.OverAllowance = refl

pub refused-at : (old new : LedgerOf) (w i : ℕ) (p : PieceOf) (why : Refusal) → IsGraft old w i p (refusal_reply why) new → IsRefusedGraft old w i p (error_of why) new
refused-at old new w i p refusal.NotOut h = h
refused-at old new w i p refusal.OtherPrefix h = h
refused-at old new w i p refusal.OverAllowance h = h

-- ACCOUNTS

weigh-map : {X Y : Type 0} (f : Y → ℕ) (g : X → Y) (xs : List X) → weigh f (map g xs) ≡ weigh (λ x. f (g x)) xs
weigh-map f g [] = refl
weigh-map f g (x ∷ xs) = ap (λ n. f (g x) + n) (weigh-map f g xs)

-- the splits of its accounts
pub accounts-spent : (l : LedgerOf) → IsRecorded l → weigh (λ (a : Account). a.splits) (account_summary l).accounts ≡ l.state.spent
accounts-spent l kept =
    weigh-map (λ (a : Account). a.splits) (account_of (events_of l)) (rising l.workers 1)
    ∙ history-spent l.rule l.problem l.budget l.workers (events_of l) l.state kept.run
