-- Places as signed 16-bit numbers. Assumes nothing.
use mathlib.Core.Path.{◌≡◌}
use Prim.Native.Nat.{ℕ, ◌+◌, ◌^◌, ◌<◌}
use native.Mathlib.Numerals.{add-one}
use lib.IntN.{ℤ, pos, negsuc, ◌-ℤ◌, +ℤ_idl}
use mir.Syntax.{w16}
use mir.Val.{SFits, to_z, of_z}
use mir.ValLaws.{to_z_pos, to_z-of_z}
use mathlib.Core.Bool.{Bool, true, false}
use native.Mathlib.Omega.{arith}
use Rattle.insertion.specs.Insertion.{place_after}

-- what the code computes for a front place: 0 - (n + 1)
pub below-zero : (n : ℕ) → n + 1 < 2 ^ 15 → pos 0 -ℤ to_z w16 (n + 1) ≡ negsuc n
below-zero n h = rw (to_z_pos w16 (n + 1) h, add-one) (+ℤ_idl (negsuc n))

pub fits_below : (n : ℕ) → n < 2 ^ 15 → SFits w16 (negsuc n)
fits_below n h = record { sfits = h }

-- a place that was passed as a 16-bit number
pub place_kept : (b : Bool) (k : ℕ) (p : ℤ) → k < 512 → p ≡ place_after b k → to_z w16 (of_z w16 p) ≡ place_after b k
place_kept true k p l e = rw e (to_z-of_z w16 (negsuc k) (fits_below k (omega arith)))
place_kept false k p l e = rw e (to_z-of_z w16 (pos k) (record { sfits = omega arith }))
