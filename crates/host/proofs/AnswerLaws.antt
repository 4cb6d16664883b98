-- Two numbers of which the first is 0 accept. Assumes nothing.
use mathlib.Core.Path.{◌≡◌, ap}
use Prim.Native.Nat.{ℕ}
use native.Mathlib.Omega.{arith}
use Rattle.file.specs.Refusals.{number_of}
use Rattle.file.specs.declared.Refusal.{Refusal}
use Rattle.file.specs.declared.Refusal.TheVariants.{FileTooShort, TooManyRecords, BadPair, BadRecord, TooManyNodes, TooManyEdges}
use Rattle.file.specs.declared.Refusal.TheVariants.{TooManyRegisters, Absent, NotInLayer, ShortBuffer, Unsound, EmptySet}
use Rattle.host.specs.declared.HostAnswer.{HostAnswer}
use Rattle.host.specs.Answers.{accepts, of_count}
use Rattle.std.specs.Prelude.{Result, Ok, Err}

-- no refusal has the number 0
not_0 : (r : Refusal) → number_of r ≡ 0 → ⊥
not_0 FileTooShort e = omega arith
not_0 TooManyRecords e = omega arith
not_0 (BadPair i) e = omega arith
not_0 (BadRecord i) e = omega arith
not_0 TooManyNodes e = omega arith
not_0 (TooManyEdges i) e = omega arith
not_0 (TooManyRegisters i) e = omega arith
not_0 Absent e = omega arith
not_0 NotInLayer e = omega arith
not_0 ShortBuffer e = omega arith
not_0 Unsound e = omega arith
not_0 (EmptySet i) e = omega arith

pub walk_accepted : (x : Result ℕ Refusal) (k : ℕ) → of_count x ≡ accepts k → x ≡ Ok k
walk_accepted (Ok j) k e = ap (λ (a : HostAnswer). Ok a.value) e
walk_accepted (Err r) k e = absurd (not_0 r (ap (λ (a : HostAnswer). a.refusal) e))
