use mathlib.Core.Path.{◌≡◌, sym}
use lib.ListN.{length}
use Rattle.file.specs.Lists.{members}
use Rattle.queries.specs.Marks.{kept}
use Rattle.queries.proofs.BufferLaws.{members_kept, answers_at}
use borrow.Author.Rules.{rules}
use Rattle.queries.proofs.queries.answer_marked.Goals as goal

pub returns : goal.returns
returns c =
    let n = c.no_marks in
    let l : length c.args.mark ≡ 512 = search rules in
    answers_at (members c.args.mark) (kept c.args.mark n.result 512) c.args.buffer.now _ (sym (members_kept c.args.mark _ l n.ensures)) c.answer.ensures
