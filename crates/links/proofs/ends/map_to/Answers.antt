use Rattle.std.proofs.Common.{◌∙◌}
use Rattle.links.proofs.OtherLaws.{is-present, is-absent, mapping_begins, mapping_goes}
use Rattle.links.proofs.ends.map_to.Goals.{then-u, else-u}
use Rattle.links.proofs.ends.map_to.Goals as goal

pub loop-u-init : goal.loop-u-init
loop-u-init c = mapping_begins _ _ _ c.requires.none

pub loop-u-preserved : goal.loop-u-preserved
loop-u-preserved c = elim c.if-u.branch [
  | then-u w ↦ mapping_goes _ _ _ _ _ c.loop-u.invariant c.loop-u-test.true _ _ (rw (is-present _ w.if-u.true) w.entries-is) (rw (is-present _ w.if-u.true) (w.others-is ∙ w.add.ensures))
  | else-u w ↦ mapping_goes _ _ _ _ _ c.loop-u.invariant c.loop-u-test.true _ _ (rw (is-absent _ w.if-u.false) w.entries-is) (rw (is-absent _ w.if-u.false) w.others-is)
]
