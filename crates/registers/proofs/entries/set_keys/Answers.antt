use Rattle.std.proofs.Common.{arith, ap, ◌∙◌}
use Rattle.std.proofs.lemmas.Result.{err_from_is_err_and}
use Rattle.std.specs.Prelude.{not}
use Rattle.registers.proofs.RegisterSets.{set_begin, set_near_over, set_known, set_far_over, set_new, set_done}
use Rattle.registers.proofs.entries.set_keys.Goals as goal
use Rattle.registers.proofs.entries.set_keys.Goals.{then-branch+in_ok-put-2, else-branch}

pub loop-k-init : goal.loop-k-init
loop-k-init c = set_begin _ _ _ _ _ c.args.near.now.fits c.args.far.now.fits

pub returns-in_err-put : goal.returns-in_err-put
returns-in_err-put c =
    let p = err_from_is_err_and c.from_residual.result c.from_residual.ensures.1 in
    rw p.1 (set_near_over _ _ _ _ _ c.loop-k.invariant c.register_key-key.ensures (omega arith) c.in_err-put.ensures.map)

pub returns-in_err-put-2 : goal.returns-in_err-put-2
returns-in_err-put-2 c =
    let new = c.in_ok-put.ensures.is_new ∙ ap not c.if-branch.true in
    let p = err_from_is_err_and c.from_residual-in_err-put-2.result c.from_residual-in_err-put-2.ensures.1 in
    rw p.1
    (set_far_over _ _ _ _ _ c.loop-k.invariant c.register_key-key.ensures (omega arith) _ c.in_ok-put.ensures.map new c.in_err-put-2.ensures.map)

pub loop-k-preserved : goal.loop-k-preserved
loop-k-preserved c =
    let i = c.loop-k.invariant in
    let key = c.register_key-key.ensures in
    let near = c.in_ok-put.ensures in
    elim c.if-branch.branch [
      | then-branch+in_ok-put-2 w ↦ rw w.far-is (set_new _ _ _ _ _ i key (omega arith) _ near.map (near.is_new ∙ ap not w.if-branch.true) _ w.in_ok-put-2.ensures.map)
      | else-branch w ↦ rw w.far-is (set_known _ _ _ _ _ i key (omega arith) _ near.map (near.is_new ∙ ap not w.if-branch.false))
    ]

pub returns : goal.returns
returns c = set_done _ _ _ _ _ c.loop-k.invariant (omega arith)
