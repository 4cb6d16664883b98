-- Marks as bytes: what makes the one of the other, and there and back. Assumes nothing.
use mathlib.Core.Path.{◌≡◌, refl, sym, ◌∙◌, ap}
use mathlib.Core.Bool.{Bool, true, false, cond}
use mathlib.Core.Logic.{⊎_elim}
use mathlib.Core.List.{List, [], ◌∷◌, map}
use Prim.Native.Nat.{ℕ, zero, suc}
use native.Mathlib.Omega.{arith}
use lib.Dec.{eqb, leb}
use lib.ListN.{length, get_or}
use Rattle.std.proofs.lemmas.List.{same_lists, get_or-map, length-map}
use borrow.Author.Tests.{lt-leb}
use mir.Val.{bool_byte}
use denote.Param.Members.{Mut}
use Rattle.std.specs.Fn.{Called}
use Rattle.std.specs.Array.{IsFromFnResult}
use Rattle.file.proofs.BoolLaws.{bool_cases, clash_bool, and_l, and_r}
use Rattle.graph.proofs.ListLaws.{all_here, all_fails, from_calls}
use Rattle.graph.specs.declared.CircuitDag.{CircuitDag}
use Rattle.walk.specs.declared.ParallelBlocks.{ParallelBlocks}
use Rattle.host.specs.declared.HostDag.{HostDag}
use Rattle.host.specs.declared.HostWalk.{HostWalk}
use Rattle.host.specs.Marks.{are_marks, marks_of, bytes_of, is_dag, dag_of, host_of, is_walk, walk_of, host_walk}

-- ---- an array made of a list, index by index

module _ {F A B : Type 0} (g : Mut F (ℕ × Unit {0}) B) (f : F) (t : A → B) (l : List A) (d : A)
    (each : (i : ℕ) (y : B) (q : F) → Called g f (i, tt) y q → (q ≡ f) × (y ≡ t (get_or l i d))) where
  pub made_of : (ys : List B) (n : ℕ) → length l ≡ n → IsFromFnResult g f ys n → ys ≡ map t l
  made_of ys n long m = same_lists ys (map t l) (omega (arith, length-map l t, long, m.long)) (λ k e b.
      from_calls g f ys n (λ i. t (get_or l i d)) m each k e (omega (arith, m.long)) ∙ sym (get_or-map t l k d e (omega (arith, long, m.long))))

-- a mark's byte, as `u8::from` says it
pub byte_mark : (b : Bool) → bool_byte b ≡ cond b 1 0
byte_mark true = refl
byte_mark false = refl

-- ---- there and back

pub marks-back : (l : List Bool) → marks_of (bytes_of l) ≡ l
unfolding marks_of bytes_of
marks-back [] = refl
marks-back (true ∷ l) = ap (λ (m : List Bool). true ∷ m) (marks-back l)
marks-back (false ∷ l) = ap (λ (m : List Bool). false ∷ m) (marks-back l)

-- a byte of at most 1 is the byte of its mark
byte_back : (b : ℕ) → leb b 1 ≡ true → cond (eqb b 1) 1 0 ≡ b
byte_back zero h = refl
byte_back (suc zero) h = refl
byte_back (suc (suc b)) h = absurd (clash_bool h (lt-leb (suc (suc b)) 1 (omega arith)))

pub bytes_back : (l : List ℕ) → are_marks l ≡ true → bytes_of (marks_of l) ≡ l
unfolding are_marks marks_of bytes_of
bytes_back [] h = refl
bytes_back (b ∷ l) h = ⊎_elim
    (λ (e : leb b 1 ≡ true). λ i. byte_back b e i ∷ bytes_back l (sym (all_here (λ (b : ℕ). leb b 1) b l e) ∙ h) i)
    (λ (e : leb b 1 ≡ false). absurd (clash_bool h (all_fails (λ (b : ℕ). leb b 1) b l e)))
    (bool_cases (leb b 1))

-- a graph that goes to the host and comes back is the same
pub dag_back : (g : CircuitDag) → dag_of (host_of g) ≡ g
unfolding dag_of host_of
dag_back g = rw (marks-back g.first.block, marks-back g.last.block) refl

-- what came is what goes, byte for byte, so that a refused call hands back the very graph
pub host_back : (d : HostDag) → is_dag d ≡ true → host_of (dag_of d) ≡ d
unfolding dag_of host_of is_dag
host_back d h =
    let a = are_marks d.first.block in
    let b = are_marks d.last.block in
    rw (bytes_back d.first.block (and_l a b h), bytes_back d.last.block (and_r a b h)) refl

-- so of a walk
pub walk_back : (w : ParallelBlocks) → walk_of (host_walk w) ≡ w
unfolding walk_of host_walk
walk_back w = rw (marks-back w.current, marks-back w.executed) refl

pub host_walk_back : (w : HostWalk) → is_walk w ≡ true → host_walk (walk_of w) ≡ w
unfolding walk_of host_walk is_walk
host_walk_back w h =
    let a = are_marks w.current in
    let b = are_marks w.executed in
    rw (bytes_back w.current (and_l a b h), bytes_back w.executed (and_r a b h)) refl
