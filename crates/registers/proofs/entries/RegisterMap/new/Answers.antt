use Rattle.registers.proofs.RegisterLaws.{fits_none}
use Rattle.registers.proofs.entries.RegisterMap.new.Goals as goal

pub of-requires : goal.of-requires
of-requires c = rw c.no_registers.ensures fits_none
