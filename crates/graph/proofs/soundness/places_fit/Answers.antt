use Rattle.std.proofs.Common.{◌∙◌, ◌<◌, arith, sym}
use Rattle.std.proofs.lemmas.List.{length-take-le}
use Rattle.graph.proofs.CheckLaws.{places_begin, slot_read, slot_some, slot_none, place_outside, place_taken, place_more, places_done}
use Rattle.graph.proofs.soundness.places_fit.Goals as goal

pub loop-place-init : goal.loop-place-init
loop-place-init c = places_begin c.args.g.now c.requires

pub returns-in_default : goal.returns-in_default
returns-in_default c =
    let g = c.args.g.now in
    let k : c.loop-place.place-index < g.nodes.count = omega (arith, length-take-le g.nodes.count g.nodes.place) in
    place_outside c.loop-place.invariant k (slot_none _ _ (sym (slot_read g c.loop-place.place-index _ k c.slot_of-arg-1.given c.slot_of.ensures) ∙ c.in_default.is))

pub returns-then-taken-s : goal.returns-then-taken-s
returns-then-taken-s c =
    let g = c.args.g.now in
    let k : c.loop-place.place-index < g.nodes.count = omega (arith, length-take-le g.nodes.count g.nodes.place) in
    place_taken c.loop-place.invariant _ k (slot_some _ _ _ (sym (slot_read g c.loop-place.place-index _ k c.slot_of-arg-1.given c.slot_of.ensures) ∙ c.in-Some.is)) c.if-taken-s.true

pub loop-place-preserved : goal.loop-place-preserved
loop-place-preserved c =
    let g = c.args.g.now in
    let k : c.loop-place.place-index < g.nodes.count = omega (arith, length-take-le g.nodes.count g.nodes.place) in
    place_more c.loop-place.invariant _ k (slot_some _ _ _ (sym (slot_read g c.loop-place.place-index _ k c.slot_of-arg-1.given c.slot_of.ensures) ∙ c.in-Some.is)) c.if-taken-s.false

pub returns : goal.returns
returns c = places_done c.loop-place.invariant (omega (arith, length-take-le c.args.g.now.nodes.count c.args.g.now.nodes.place))
