use mathlib.Core.Path.{◌∙◌, ap}
use Rattle.std.specs.Prelude.{Ok}
use Rattle.graph.specs.declared.CircuitDag.{CircuitDag}
use Rattle.insertion.specs.declared.nodes.NodeLists.{NodeLists}
use Rattle.insertion.specs.Load.{loaded}
use Rattle.insertion.specs.Parts.{assembled}
use Rattle.insertion.proofs.LoadLaws.{maps_refuse, links_refuse, both_accept}
use Rattle.insertion.proofs.loading.insert_in_order.Goals as goal

pub returns-in-Err : goal.returns-in-Err
returns-in-Err c = c.from.ensures ∙ maps_refuse _ _ _ c.requires.0 c.requires.1 c.requires.2 _ c.register_records-x.ensures _ c.in-Err.is

pub returns-in-Err-answer : goal.returns-in-Err-answer
returns-in-Err-answer c =
    c.from-in-Err-answer.ensures
    ∙ links_refuse _ _ _ c.requires.0 c.requires.1 c.requires.2 _ c.register_records-x.ensures c.in_default.is _ c.in-Err-answer.is

pub list_nodes-requires : goal.list_nodes-requires
list_nodes-requires c = c.requires.2

pub returns : goal.returns
returns c =
    let x = c.register_records-x.result in
    ap (λ (g : CircuitDag). loaded (Ok g)) (c.assemble.ensures ∙ ap (λ (n : NodeLists). assembled n x.linked x.registered) c.list_nodes.ensures)
    ∙ both_accept _ _ _ c.requires.0 c.requires.1 c.requires.2 _ c.register_records-x.ensures c.in_default.is c.in_default-answer.is
