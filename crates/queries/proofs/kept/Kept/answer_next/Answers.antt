use Rattle.queries.proofs.BufferLaws.{copied_head, copied_tail, next-whole, written_tail}
use Rattle.queries.specs.Marks.{kept}
use Rattle.std.proofs.Common.{arith}
use Rattle.queries.proofs.kept.Kept.answer_next.Goals as goal

pub returns : goal.returns
returns c =
    let a = c.args in
    let p = c.requires in
    next-whole a.i a.k a.layer.now (kept a.self.now.mark.now a.self.now.skip.now a.self.now.n) a.buffer.now _ _ _ p.1 p.0 (omega (arith, c.if-buffer-rest-2.false, c.if-buffer-rest.false))
    (copied_head _ _ _ _ p.1 c.copy_list.ensures) (copied_tail _ _ _ _ p.1 c.copy_list-2.ensures) (written_tail _ _ _ _ c.write.ensures)
