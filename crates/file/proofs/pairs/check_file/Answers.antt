use Rattle.std.proofs.Common.{sym, ◌∙◌, rules}
use Rattle.std.proofs.lemmas.Result.{err_from_is_err_and}
use Rattle.file.proofs.PairLaws.{begin, no_pairs, bad, next, whole, wrong, all_left, none_left, one_left, pair_offset, pair_length, fewer_left}
use Rattle.file.proofs.pairs.check_file.Goals as goal

pub returns-in_err-n : goal.returns-in_err-n
returns-in_err-n c =
    let p = err_from_is_err_and c.from_residual.result c.from_residual.ensures.1 in
    rw (p.1, p.2) (no_pairs _ _ (sym c.check_header.ensures.value ∙ c.in_err-n.was))

pub loop-k-init : goal.loop-k-init
loop-k-init c = record {
  fours = search rules;
  left = rw (c.into_iter-k-iterator.ensures.into_iter_gives, c.enumerate-k-items.ensures.source, c.enumerate-k-items.ensures.count, c.chunks_exact.ensures.rest) (all_left _ _ c.in_ok-n.ensures.fits.1);
  so_far = rw (c.into_iter-k-iterator.ensures.into_iter_gives, c.enumerate-k-items.ensures.count) (begin _ _ (sym c.check_header.ensures.value ∙ c.in_ok-n.was));
}

pub loop-k-preserved : goal.loop-k-preserved
loop-k-preserved c =
    let s = c.in-Some.ensures.steps in
    let I = c.loop-k.invariant in
    let four = s.0.1.1 ∙ I.fours in
    let o = pair_offset _ _ _ _ I.left _ _ s.0.1.0 four _ c.read_u16-offset.ensures in
    let l = pair_length _ _ _ _ I.left _ _ s.0.1.0 four _ c.read_u16.ensures in
    record {
      fours = s.0.0 ∙ I.fours;
      left = rw s.2 (fewer_left _ _ _ _ I.left _ _ s.0.1.0 four);
      so_far = rw s.2 (next _ _ _ _ I.so_far _ _ (one_left _ _ _ _ I.left _ _ s.0.1.0 four) o c.if-offset-end.false l);
    }

pub returns-then-offset-end : goal.returns-then-offset-end
returns-then-offset-end c =
    let s = c.in-Some.ensures.steps in
    let I = c.loop-k.invariant in
    let four = s.0.1.1 ∙ I.fours in
    let o = pair_offset _ _ _ _ I.left _ _ s.0.1.0 four _ c.read_u16-offset.ensures in
    rw s.1 (bad _ _ _ _ I.so_far _ (one_left _ _ _ _ I.left _ _ s.0.1.0 four) o c.if-offset-end.true)

pub returns-then-file-end : goal.returns-then-file-end
returns-then-file-end c =
    let I = c.loop-k.invariant in
    rw c.saturating_sub.ensures (wrong _ _ _ _ I.so_far (none_left _ _ _ _ I.left (rw I.fours at c.in-None.ensures.steps.0.1.0)) I.left.low c.if-file-end.true)

pub returns : goal.returns
returns c =
    let I = c.loop-k.invariant in
    whole _ _ _ _ I.so_far (none_left _ _ _ _ I.left (rw I.fours at c.in-None.ensures.steps.0.1.0)) I.left.low c.if-file-end.false
