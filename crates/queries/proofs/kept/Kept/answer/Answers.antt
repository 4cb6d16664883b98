use Rattle.queries.specs.Marks.{kept}
use Rattle.queries.proofs.BufferLaws.{answers_short, answers-whole}
use Rattle.std.proofs.Common.{◌∙◌, sym}
use Rattle.file.proofs.PutLaws.{put-onto}
use Rattle.queries.proofs.kept.Kept.answer.Goals as goal

pub returns-then-buffer-k : goal.returns-then-buffer-k
returns-then-buffer-k c = let a = c.args in
    answers_short (kept a.self.now.mark.now a.self.now.skip.now a.self.now.n) a.buffer.now _ c.count-k.ensures c.if-buffer-k.true

pub returns : goal.returns
returns c = let a = c.args in
    answers-whole (kept a.self.now.mark.now a.self.now.skip.now a.self.now.n) a.buffer.now _ _ c.count-k.ensures c.if-buffer-k.false (c.write.ensures ∙ sym (put-onto (kept a.self.now.mark.now a.self.now.skip.now a.self.now.n) a.buffer.now))
