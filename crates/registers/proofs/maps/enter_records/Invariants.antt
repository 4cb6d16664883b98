use Rattle.std.proofs.Common.{◌≡◌, drop}
use Rattle.registers.specs.Registers.{registers_of, registers_from, enter_records}
use Rattle.registers.proofs.maps.enter_records.Given as goal

-- what is left gives what the whole list gives
abbrev pub invariant-loop-k : goal.invariant-loop-k
invariant-loop-k l = registers_from l.file (registers_of l.k l.first.entries l.last.entries) (drop l.k l.order) ≡ enter_records l.file l.order
