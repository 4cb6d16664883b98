use Rattle.std.proofs.Common.{◌≡◌}
use Rattle.links.specs.Numbers.{number_of}
use Rattle.links.specs.Links.{rule_of}
use Rattle.links.specs.Numbers.{left_of}
use Rattle.links.proofs.JoinLaws.{Linking}
use Rattle.links.proofs.ends.join_set.Given as goal

abbrev pub invariant-loop-q : goal.invariant-loop-q
invariant-loop-q l = Linking (rule_of l.fn.rule) l.mask l.v.number.0 l.fresh.number.0 l.initial.near l.initial.far l.near l.far l.others (left_of l.q-iterator)
    × (number_of l.all ≡ l.near.all.0)
