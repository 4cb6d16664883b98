use Rattle.std.proofs.Common.{◌∙◌, sym, ap, rules, tests}
use Rattle.std.specs.Option.{unwrap_or}
use Rattle.std.proofs.lemmas.Iterator.Adapters.{option_map_id}
use Rattle.std.proofs.lemmas.Iterator.{YieldsList-from_range}
use Rattle.std.proofs.lemmas.Iterator.Consumers.{YieldsList-from_filter_map, min_from_yields_List}
use Rattle.planning.specs.Descents.{node_before}
use Rattle.planning.proofs.DescentLaws.{smallest_before}
use Rattle.planning.proofs.chains.Numbered.smallest_predecessor.Goals as goal

pub returns : goal.returns
returns c =
    let x = c.args.self.now in
    let least = min_from_yields_List _ _ c.min.ensures.ran
    (YieldsList-from_filter_map _ (node_before x.number.now x.arcs.near.now x.arcs.far.now c.args.v.0 c.args.block)
    (YieldsList-from_range 0 x.arcs.count x.arcs.count c.filter_map-nodes.ensures.source (search rules)) c.filter_map-nodes.ensures.closure (λ x r q k. search (rules, tests))) in
    smallest_before _ _ _ _ _ _ x.arcs.below _ (c.unwrap_or.ensures ∙ ap (λ o. unwrap_or o 65535) (sym (option_map_id c.min.result) ∙ least))
