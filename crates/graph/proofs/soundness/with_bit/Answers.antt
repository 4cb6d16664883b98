use mathlib.Core.Path.{refl}
use Rattle.graph.proofs.BitLaws.{one_shifted, word_fits}
use Rattle.graph.proofs.soundness.with_bit.Goals as goal

pub overflow_add-result : goal.overflow_add-result
overflow_add-result c =
    let a = c.args in
    rw (one_shifted a.b c.requires.0) (record {
      fits = word_fits a.word a.b c.ranges.word.fits c.requires.0 c.requires.1;
    })

pub returns : goal.returns
returns c = rw (one_shifted c.args.b c.requires.0) refl
