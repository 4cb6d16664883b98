use mathlib.Core.Path.{◌≡◌}
use lib.ListN.{length}
use Rattle.limits.proofs.Measured.file.Given as goal

abbrev pub invariant-loop-k : goal.invariant-loop-k
invariant-loop-k l = length l.file ≡ 117
