use Rattle.std.proofs.Common.{inl, inr, ◌<◌, length, arith}
use Rattle.std.proofs.lemmas.Result.{err_from_is_err_and, MatchResult-weaker}
use Rattle.registers.specs.Registers.{registers_after}
use Rattle.registers.specs.RegisterMaps.{definition, put_all}
use Rattle.graph.specs.Dag.{entries_of}
use Rattle.registers.proofs.RegisterLists.{define_each, definition_long}
use Rattle.registers.proofs.RegisterArrays.{kept_own}
use Rattle.registers.proofs.RegisterSets.{near_passes, far_passes}
use Rattle.registers.proofs.entries.enter_maps.Goals as goal

pub returns-in-None : goal.returns-in-None
unfolding registers_after
returns-in-None c = rw (← c.in-None.ensures) (kept_own _ c.args.near.now.fits, kept_own _ c.args.far.now.fits)

pub returns-in_err-d-in-Definition : goal.returns-in_err-d-in-Definition
unfolding registers_after
returns-in_err-d-in-Definition c =
    let p = err_from_is_err_and c.from_residual.result c.from_residual.ensures.1 in
    let long = definition_long c.in-Definition.name c.args.v.0 c.in-Definition.length (entries_of c.args.near.now.entries) in
    let over : 256 < length (put_all (definition c.in-Definition.name c.args.v.0 c.in-Definition.length 0) (entries_of c.args.near.now.entries)) =
    omega (arith, long, c.in_err-d-in-Definition.ensures) in
    rw (p.1, ← c.in-Definition.ensures, define_each) (near_passes _ over)

pub returns-in_err-define-in-Definition : goal.returns-in_err-define-in-Definition
unfolding registers_after
returns-in_err-define-in-Definition c =
    let p = err_from_is_err_and c.from_residual-in_err-define-in-Definition.result c.from_residual-in_err-define-in-Definition.ensures.1 in
    let d = c.in_ok-d-in-Definition.ensures in
    rw (p.1, ← c.in-Definition.ensures, define_each) (near_passes _ (rw (d.0, d.1, d.2) at c.in_err-define-in-Definition.ensures))

pub returns-in-Set : goal.returns-in-Set
unfolding registers_after
returns-in-Set c = rw (← c.in-Set.ensures) c.set_keys.ensures

pub returns-in-All : goal.returns-in-All
unfolding registers_after
returns-in-All c = elim c.in-All.is [
  | inl e ↦ rw (← c.involved_classical.ensures, e) (c.keep_name.ensures, kept_own _ c.args.far.now.fits)
  | inr e ↦ rw (← c.involved_classical.ensures, e) (c.keep_name.ensures, kept_own _ c.args.far.now.fits)
]

pub returns-in_ok-define-in-Definition : goal.returns-in_ok-define-in-Definition
unfolding registers_after
returns-in_ok-define-in-Definition c =
    let d = c.in_ok-d-in-Definition.ensures in
    let far = rw (d.0, d.1, d.2) at c.define-in-Definition.ensures in
    rw (← c.in-Definition.ensures, define_each)
    (MatchResult-weaker c.define-in-Definition.result far (λ _ e. (rw (d.0, d.1, d.2) at c.in_ok-define-in-Definition.ensures, e)) (λ _ h. far_passes _ h))
