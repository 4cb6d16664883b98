use Rattle.registers.proofs.RegisterArrays.{put_behind, behind_fits}
use Rattle.registers.proofs.entries.RegisterMap.append.Goals as goal

pub invariant_of-self : goal.invariant_of-self
invariant_of-self c = record { fits = behind_fits _ c.args.self.now.fits _ c.requires.is_new c.requires.room }

pub returns : goal.returns
returns c = put_behind _ c.args.self.now.fits _ c.requires.is_new c.requires.room
