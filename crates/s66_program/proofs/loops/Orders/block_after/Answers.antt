use Rattle.std.proofs.Common.{◌≡◌, ◌∙◌, Some, ap, ap₂, refl, slice_get, subst, sym}
use Rattle.std.proofs.lemmas.Option.{slice_get_read}
use Rattle.s66_isa.specs.{Among}
use Rattle.s66_line.specs.{instrs_of}
use Rattle.s66_source.specs.{ArePlaced, Placed}
use Rattle.s66_program.specs.{Orders, block_after, parcel_after}
use Rattle.s66_program.proofs.PlacedBlocks.{inside-at, placed-at, source-within}
use Rattle.s66_program.proofs.loops.Orders.block_after.Goals as goal

pub parcel_after-requires-clause-numbers : goal.parcel_after-requires-clause-numbers
parcel_after-requires-clause-numbers c = λ n among.
    let (within, at) = inside-at c.self.inside.blocks.now c.args.place c.in-Some.block c.in-Some.ensures.lookup in
    let (below, placed) = inside-at c.self.inside.found.now c.args.place c.in-Some-get.found c.in-Some-get.ensures.lookup in
    let are = subst (λ (o : Orders). ArePlaced o.blocks o.found) (sym c.self.view_is) c.requires.placed in
    placed-at c.self.inside.blocks.now c.self.inside.found.now are c.args.place c.in-Some.block.now c.in-Some-get.found.now within at placed n
    (subst (Among n) (c.as_slice.ensures.value ∙ ap (λ (p : Placed). p.order) c.found.view_is) among)

pub parcel_after-requires-else-as_found-clause-numbers : goal.parcel_after-requires-else-as_found-clause-numbers
parcel_after-requires-else-as_found-clause-numbers c = λ n among. source-within c.in-Some.block.now n (subst (Among n) (c.numbers.ensures.value ∙ c.source.ensures.numbers) among)

pub returns-then-as_found-clause-value : goal.returns-then-as_found-clause-value
returns-then-as_found-clause-value c =
    let q = c.args.parcel in
    let place = c.args.place in
    let block = c.in-Some.block.now in
    let p = c.in-Some-get.found.now in
    let (within, at) = inside-at c.self.inside.blocks.now place c.in-Some.block c.in-Some.ensures.lookup in
    let (below, placed) = inside-at c.self.inside.found.now place c.in-Some-get.found c.in-Some-get.ensures.lookup in
    let found : block_after c.args.as_found q (slice_get c.args.self.now.blocks place) (slice_get c.args.self.now.found place) ≡ parcel_after (instrs_of block) q p.order =
    ap (λ (o : Orders). block_after c.args.as_found q (slice_get o.blocks place) (slice_get o.found place)) (sym c.self.view_is)
    ∙ ap₂ (block_after c.args.as_found q) (slice_get_read c.self.inside.blocks.now _ place block refl within at) (slice_get_read c.self.inside.found.now _ place p refl below placed)
    ∙ ap (λ t. block_after t q (Some block) (Some p)) c.if-as_found.true in
    c.parcel_after.ensures.value ∙ ap (parcel_after (instrs_of block) q) (c.as_slice.ensures.value ∙ ap (λ (p : Placed). p.order) c.found.view_is) ∙ sym found

pub returns-else-as_found-clause-value : goal.returns-else-as_found-clause-value
returns-else-as_found-clause-value c =
    let q = c.args.parcel in
    let place = c.args.place in
    let block = c.in-Some.block.now in
    let p = c.in-Some-get.found.now in
    let (within, at) = inside-at c.self.inside.blocks.now place c.in-Some.block c.in-Some.ensures.lookup in
    let (below, placed) = inside-at c.self.inside.found.now place c.in-Some-get.found c.in-Some-get.ensures.lookup in
    let found =
    ap (λ (o : Orders). block_after c.args.as_found q (slice_get o.blocks place) (slice_get o.found place)) (sym c.self.view_is)
    ∙ ap₂ (block_after c.args.as_found q) (slice_get_read c.self.inside.blocks.now _ place block refl within at) (slice_get_read c.self.inside.found.now _ place p refl below placed)
    ∙ ap (λ t. block_after t q (Some block) (Some p)) c.if-as_found.false in
    c.parcel_after-else-as_found.ensures.value ∙ ap (parcel_after (instrs_of block) q) (c.numbers.ensures.value ∙ c.source.ensures.numbers) ∙ sym found
