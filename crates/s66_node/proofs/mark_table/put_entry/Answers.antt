use Rattle.std.proofs.Common.{◌∷◌, [], List, arith, sym, subst, map, length-append, length-set}
use Rattle.std.proofs.lemmas.List.Elements.{All-push, All-set}
use Rattle.s66_isa.specs.{Among}
use Rattle.s66_node.specs.{MarkEntry, IsEntry, AreEntries, numbers_of}
use Rattle.s66_node.proofs.Earlier.{names-set, names-push}
use Rattle.s66_node.proofs.mark_table.put_entry.Goals as goal

pub returns-then-index-len-clause-known : goal.returns-then-index-len-clause-known
returns-then-index-len-clause-known c = λ name among. names-set c.args.entries.now.items c.args.index c.args.entry name among

pub returns-then-index-len-clause-entries : goal.returns-then-index-len-clause-entries
returns-then-index-len-clause-entries c =
    λ b is known. record {
      few = omega (arith, length-set c.args.entries.now.items c.args.index c.args.entry, known.few);
      each = All-set (IsEntry b) c.args.entries.now.items c.args.index c.args.entry is known.each;
    }

pub returns-in_ok-push-clause-entries : goal.returns-in_ok-push-clause-entries
returns-in_ok-push-clause-entries c =
    λ b is known.
    let entries = c.args.entries.now.items in
    subst (λ (xs : List MarkEntry). AreEntries b xs) (sym c.in_ok-push.ensures.items) (record {
      few = omega (arith, length-append entries (c.args.entry ∷ []), c.if-index-len.false, c.len.ensures, c.requires.within);
      each = All-push (IsEntry b) entries c.args.entry known.each is;
    })

pub returns-in_ok-push-clause-known : goal.returns-in_ok-push-clause-known
returns-in_ok-push-clause-known c =
    λ name among.
    names-push c.args.entries.now.items c.args.entry name (subst (λ (xs : List MarkEntry). Among name (map numbers_of xs)) c.in_ok-push.ensures.items among)
