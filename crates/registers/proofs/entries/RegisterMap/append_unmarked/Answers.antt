use Rattle.registers.proofs.RegisterDefinitions.{append_begin, append_known, append_over, append_new, append_done}
use Rattle.registers.proofs.entries.RegisterMap.append_unmarked.Goals as goal
use Rattle.registers.proofs.entries.RegisterMap.append_unmarked.Goals.{then-not-there-from+else-is_full, else-not-there-from}

pub loop-index-init : goal.loop-index-init
loop-index-init c = append_begin _ _ _ _ _ c.args.self.now.fits c.requires

pub returns-then-is_full : goal.returns-then-is_full
returns-then-is_full c =
    let unmarked = rw c.from.ensures at c.if-not-there-from.true in
    append_over _ _ _ _ _ c.loop-index.invariant c.loop-index-test.true unmarked c.loop-index.self.fits (c.is_full.ensures.0 c.if-is_full.true)

pub loop-index-preserved : goal.loop-index-preserved
loop-index-preserved c =
    let i = c.loop-index.invariant in
    let h = c.loop-index-test.true in
    elim c.if-not-there-from.branch [
      | then-not-there-from+else-is_full w ↦ rw w.self-is (append_new _ _ _ _ _ i h (rw c.from.ensures at w.if-not-there-from.true) _ w.append.ensures)
      | else-not-there-from w ↦ rw w.self-is (append_known _ _ _ _ _ i h (rw c.from.ensures at w.if-not-there-from.false))
    ]

pub returns : goal.returns
returns c = append_done _ _ _ _ _ c.loop-index.invariant c.loop-index-test.false
