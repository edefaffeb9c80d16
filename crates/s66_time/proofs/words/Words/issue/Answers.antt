use Rattle.std.proofs.Common.{arith, ap, ◌∙◌, ◌+◌, ◌-◌, max}
use Rattle.s66_isa.specs.{greatest, Write, Row}
use Rattle.s66_model.specs.{fits_at, done_of}
use Rattle.s66_time.proofs.ClockPoints.{issue-words, slot-words, follows-small}
use Rattle.s66_time.proofs.words.Words.issue.Goals as goal

pub slot-slot-requires-clause-parcel : goal.slot-slot-requires-clause-parcel
slot-slot-requires-clause-parcel c = omega (arith, follows-small c.args.profile.now c.args.self.now c.requires.follows)

pub slot-slot-requires-clause-next : goal.slot-slot-requires-clause-next
slot-slot-requires-clause-next c = omega (arith, follows-small c.args.profile.now c.args.self.now c.requires.follows)

pub returns : goal.returns
returns c = λ s is.
    let w = c.args.self.now in
    let r = c.args.row.now in
    c.max-2.ensures ∙ ap (max c.slot-slot.result) c.max.ensures
    ∙ issue-words c.args.profile.now s w r c.args.unit c.slot-slot.result c.greatest_written-written.result is c.requires.soonest
    (c.slot-slot.ensures ∙ ap (λ (x : Row). w.progress.next + (fits_at w.progress.parcel x.parcels - w.progress.parcel)) c.row.view_is ∙ slot-words c.args.profile.now s w r.parcels is)
    (c.greatest_written-written.ensures (done_of s) is.done ∙ ap (greatest (λ (v : Write). done_of s v.reg)) c.as_slice.ensures.value ∙ ap (λ (x : Row). greatest (λ (v : Write). done_of s v.reg) x.writes) c.row.view_is)
