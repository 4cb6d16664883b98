use Rattle.std.proofs.Common.{length}
use Rattle.replay.proofs.replay_queries.Given as goal

abbrev pub decreases-loop-v : goal.decreases-loop-v
decreases-loop-v g l = length l.rest
