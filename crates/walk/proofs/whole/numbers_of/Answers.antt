use Rattle.std.proofs.Common.{arith}
use Rattle.graph.proofs.SizeLaws.{dag_sized}
use Rattle.queries.proofs.ReachLaws.{ends_on}
use Rattle.walk.proofs.NumberingLaws.{targets_below}
use Rattle.walk.proofs.WholeLaws.{numbers-found}
use Rattle.walk.proofs.whole.numbers_of.Goals as goal

pub shared_ref_as_front-number_targets : goal.shared_ref_as_front-number_targets
shared_ref_as_front-number_targets c = (ends_on c.args.g c.requires.0).count

pub number_targets-requires : goal.number_targets-requires
number_targets-requires c =
    let E = ends_on c.args.g c.requires.0 in
    targets_below _ _ (omega (arith, E.count, (dag_sized c.args.g _ c.well_formed.0).edges.to)) E.near_below

pub returns : goal.returns
returns c =
    let r = c.requires in
    let E = ends_on c.args.g r.0 in
    numbers-found c.args.g r.0 _ _ c.first_numbers-num.ensures (omega (arith, E.count, (dag_sized c.args.g _ c.well_formed.0).edges.to)) c.number_targets.ensures _
    (rw (r.2, r.1, r.3) at c.settle.ensures)
