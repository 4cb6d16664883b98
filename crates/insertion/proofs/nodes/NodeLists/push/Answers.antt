use Rattle.std.proofs.Common.{refl}
use Rattle.insertion.specs.Parts.{node_after}
use Rattle.insertion.proofs.NodeLaws.{end_below}
use Rattle.insertion.proofs.PlaceLaws.{place_kept}
use Rattle.insertion.proofs.nodes.NodeLists.push.Goals as goal

pub returns : goal.returns
unfolding node_after
returns c =
    let place = c.take_place-place.ensures in
    let kept = place_kept _ _ _ (end_below c.is_front.result _ _ c.requires.2 c.requires.3) place.place in
    rw (c.put_node.ensures, kept, c.put_commuting.ensures, place.counted, c.is_front.ensures) refl
