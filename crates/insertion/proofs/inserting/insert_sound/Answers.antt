use mathlib.Core.Path.{sym, ap, ◌∙◌}
use native.Mathlib.Omega.{arith}
use Rattle.file.proofs.RecordLaws.{parsed_good, not_parsed}
use Rattle.graph.proofs.SizeLaws.{DagSized, dag_sized}
use Rattle.insertion.proofs.CaseLaws.{itself, cause_refuses}
use Rattle.insertion.proofs.InsertLaws.{few_nodes, stays, lists_fit, passes, grown-is}
use Rattle.file.specs.declared.Refusal.{Refusal}
use Rattle.insertion.specs.Limits.{refused}
use Rattle.insertion.proofs.inserting.insert_sound.Goals as goal

pub returns-in-Err : goal.returns-in-Err
returns-in-Err c =
    let p = not_parsed _ _ (sym c.parse_record.ensures ∙ c.in-Err.is) in
    c.not_inserted.ensures ∙ ap (λ (r : Refusal). refused r c.args.g) c.at_record.ensures ∙ sym (cause_refuses _ _ _ _ _ (itself p.0 p.1))

pub overflow_cast-v : goal.overflow_cast-v
overflow_cast-v c =
    let sized : DagSized c.args.g = dag_sized c.args.g _ c.well_formed.1.1.0 in
    omega (arith, few_nodes c.args.g c.requires (sized))

pub returns-in-Err-answer : goal.returns-in-Err-answer
returns-in-Err-answer c =
    let sized : DagSized c.args.g = dag_sized c.args.g _ c.well_formed.1.1.0 in
    let p = parsed_good _ _ (sym c.parse_record.ensures ∙ c.in-Ok.is) in
    c.not_inserted-in-Err-answer.ensures ∙ stays _ c.args.i c.args.g c.requires (sized) _ p.0 _ _ p.1 c.link_node-x.ensures _ c.in-Err-answer.is

pub returns-in-Err-answer-2 : goal.returns-in-Err-answer-2
returns-in-Err-answer-2 c =
    let sized : DagSized c.args.g = dag_sized c.args.g _ c.well_formed.1.1.0 in
    let p = parsed_good _ _ (sym c.parse_record.ensures ∙ c.in-Ok.is) in
    c.not_inserted-in-Err-answer-2.ensures ∙ passes _ c.args.i c.args.g c.requires (sized) _ p.0 _ _ p.1 c.link_node-x.ensures c.in_default.is _ c.register_record-r.ensures _ c.in-Err-answer-2.is

pub push-requires : goal.push-requires
push-requires c =
    let sized : DagSized c.args.g = dag_sized c.args.g _ c.well_formed.1.1.0 in
    let p = parsed_good _ _ (sym c.parse_record.ensures ∙ c.in-Ok.is) in
    lists_fit _ c.args.i c.args.g c.requires (sized) _ p.0 _ _ p.1 c.link_node-x.ensures c.in_default.is _ c.of-lists.ensures

pub returns : goal.returns
returns c =
    let sized : DagSized c.args.g = dag_sized c.args.g _ c.well_formed.1.1.0 in
    let p = parsed_good _ _ (sym c.parse_record.ensures ∙ c.in-Ok.is) in
    grown-is _ c.args.i c.args.g c.requires (sized) _ p.0 _ _ p.1 c.link_node-x.ensures c.in_default.is _ c.register_record-r.ensures c.in_default-answer.is _ _ c.of-lists.ensures c.push.ensures _ c.assemble.ensures
