use Rattle.std.proofs.Common.{ℕ, ◌<◌}
use Rattle.registers.specs.RegisterMaps.{StandsAt}
use Rattle.registers.proofs.entries.RegisterMap.find.Given as goal

abbrev pub invariant-loop-p : goal.invariant-loop-p
invariant-loop-p l = (k : ℕ) → k < l.p → StandsAt l.self.entries l.key k → ⊥
