use Rattle.std.proofs.Common.{◌≡◌}
use Rattle.file.proofs.PairLaws.{Inv, PairsLeft}
use Rattle.file.proofs.pairs.check_file.Given as goal

abbrev pub invariant-loop-k : goal.invariant-loop-k
invariant-loop-k l =
    let chunks = l.k-iterator.iter in
    let k = l.k-iterator.count in
    record {
      fours : chunks.size ≡ 4;
      left : PairsLeft l.file chunks.rest.now l.n k;
      so_far : Inv l.file l.n l.end k;
    }
