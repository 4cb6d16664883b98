use Rattle.std.proofs.Common.{◌≡◌, take}
use Rattle.queries.proofs.queries.copy_list.Given as goal

abbrev pub invariant-loop-i : goal.invariant-loop-i
invariant-loop-i l = take l.i l.part ≡ take l.i l.list
