use Rattle.std.proofs.Common.{◌∙◌, refl, sym}
use Rattle.graph.proofs.CheckLaws.{keys_begin, key_taken, key_new}
use Rattle.graph.proofs.soundness.Entries.keys_differ.Goals.{else-cells-cell-via-then-cells-cell+else-is_repeated, else-cells-cell-via-else-cells-cell}
use Rattle.graph.proofs.soundness.Entries.keys_differ.Goals as goal

pub loop-i-init : goal.loop-i-init
loop-i-init c = keys_begin c.args.self.now.map.now

pub returns-then-is_repeated : goal.returns-then-is_repeated
returns-then-is_repeated c = key_taken c.loop-i.invariant c.loop-i-test.true (sym c.is_repeated.ensures ∙ c.if-is_repeated.true)

pub loop-i-preserved : goal.loop-i-preserved
loop-i-preserved c =
    key_new c.loop-i.invariant _ (rw (c.from.ensures, c.from-in-loop-i.ensures, c.key-key.ensures) refl) (elim c.else-cells-cell.branch [
      | else-cells-cell-via-then-cells-cell+else-is_repeated w ↦ rw (w.if-cells-cell.true, ← w.is_repeated.ensures) w.if-is_repeated.false
      | else-cells-cell-via-else-cells-cell w ↦ rw w.if-cells-cell.false refl
    ])
