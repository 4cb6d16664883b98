use Rattle.std.proofs.Common.{◌≡◌, [], length, arith, ap}
use Rattle.links.specs.Numbers.{left_of}
use Rattle.links.proofs.QubitLaws.{qubits-next, qubits-none}
use Rattle.links.proofs.numbers.QubitsIterator.next.Goals as goal

pub returns-then-self-eq0-clause-steps : goal.returns-then-self-eq0-clause-steps
returns-then-self-eq0-clause-steps c = let none : left_of c.args.self.now ≡ [] = rw c.if-self-eq0.true (qubits-none 64 0) in (none, none)

pub returns-clause-steps : goal.returns-clause-steps
returns-clause-steps c = qubits-next _ (omega arith) (omega arith)

pub returns-clause-goes : goal.returns-clause-goes
returns-clause-goes c =
    let fewer = ap length (qubits-next c.args.self.now.left (omega arith) (omega arith)) in
    record { on = λ h. (tt, tt, omega (arith, fewer)); keeps = tt; rests = λ h. tt }
