use Rattle.registers.proofs.RegisterArrays.{has_there, put_there, there_fits, put_over, key_missing}
use Rattle.registers.proofs.entries.RegisterMap.put.Goals as goal

pub invariant_of-self : goal.invariant_of-self
invariant_of-self c = record { fits = there_fits _ c.args.self.now.fits c.args.key c.args.v.0 _ c.in-Some.ensures.0 c.in-Some.ensures.1 }

pub returns-in-Some-clause-map : goal.returns-in-Some-clause-map
returns-in-Some-clause-map c = put_there _ c.args.self.now.fits c.args.key c.args.v.0 _ c.in-Some.ensures.0 c.in-Some.ensures.1

pub returns-in-Some-clause-is_new : goal.returns-in-Some-clause-is_new
returns-in-Some-clause-is_new c = has_there _ c.args.self.now.fits c.args.key c.args.v.0 _ c.in-Some.ensures.0 c.in-Some.ensures.1

pub returns-then-is_full-clause-map : goal.returns-then-is_full-clause-map
returns-then-is_full-clause-map c =
    put_over _ c.args.self.now.fits _ (key_missing _ c.args.key c.args.v.0 c.in_default.ensures) (c.is_full.ensures.0 c.if-is_full.true)

pub append-requires-clause-is_new : goal.append-requires-clause-is_new
append-requires-clause-is_new c = key_missing _ c.args.key c.args.v.0 c.in_default.ensures

pub returns-clause-is_new : goal.returns-clause-is_new
returns-clause-is_new c = key_missing _ c.args.key c.args.v.0 c.in_default.ensures
