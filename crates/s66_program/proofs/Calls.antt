-- Calls of a reader that were counted, and one more (`read_all`).
use Rattle.std.specs.Io.KnownBytes.{Consumes}
use Rattle.std.proofs.Common.{◌≡◌, ℕ, ◌+◌, ◌<◌, ◌≤◌, ◌∙◌, min, max, List, ◌++◌, Option, None, Some, Result, Ok, Err, IfErr, append_assoc, ap, sym, subst, arith, IsErr, IsErrAnd}
use Rattle.s66_device.specs.{Feeds, Grows, Reader}
use Rattle.s66_program.specs.{FEED_CALLS, FEED_ROOM, Memory, Calls, HasRoom, IsReadFault}
use Rattle.s66_program.specs.declared.fault.Fault.{Fault}

grows-more : (n m old mid new : ℕ) → Grows n old mid → Grows m mid new → Grows (n + m) old new
grows-more n m old mid new first second small =
    let before : mid ≡ old + n = first (omega arith) in
    let after : new ≡ mid + m = second (omega arith) in
    omega arith

room-more : (room : ℕ) (old new : Reader) → room ≡ FEED_ROOM → new.least_room ≡ min old.least_room room → new.most_room ≡ max old.most_room room → HasRoom old → HasRoom new
room-more room old new is least most (enough, few) =
    let least-is : FEED_ROOM ≤ new.least_room = omega arith in
    let most-is : new.most_room ≤ FEED_ROOM = omega arith in
    (least-is, most-is)

pub no-call : (reader : Reader) → Calls 0 0 reader reader
no-call reader = ((λ small. omega arith), (λ small. omega arith), (λ has. has))

-- a call gave bytes
pub one-read : (n room count : ℕ) (old mid new : Reader) → room ≡ FEED_ROOM → 0 < count → Calls n 0 old mid → Feeds room count mid new → Calls (n + 1) 0 old new
one-read n room count old mid new is some (reads, ends, has) (given, none, least, most, failures) =
    (grows-more n 1 old.reads mid.reads new.reads reads (given some).0, (λ small. (given some).1 ∙ ends small), (λ had. room-more room mid new is least most (has had)))

pub consumes-more : (old mid new : Option (List ℕ)) (one two : List ℕ) → Consumes old mid one → Consumes mid new two → Consumes old new (one ++ two)
consumes-more None mid new one two h k = tt
consumes-more (Some xs) None new one two h k = absurd h
consumes-more (Some xs) (Some ys) None one two h k = absurd k
consumes-more (Some xs) (Some ys) (Some zs) one two h k = h ∙ ap (λ t. one ++ t) k ∙ sym (append_assoc one two zs)

-- memory ran out for what these calls gave
pub wants-memory : {A : Type 0} (reads : ℕ) (old new : Reader) (result : Result A Fault) → IsErr result × IsErrAnd result (λ e. e ≡ Memory) → new.failures ≡ old.failures → reads ≤ FEED_CALLS → Calls reads 0 old new →
    IfErr result (IsReadFault old new)
wants-memory reads old new (Ok x) (is, which) same few made = tt
wants-memory reads old new (Err e) (is, which) same few made =
    let most : reads + 0 ≤ FEED_CALLS = omega arith in
    let none : 0 ≤ 1 = omega arith in
    subst (IsReadFault old new) (sym which) (same, (reads, 0, most, none, made))
