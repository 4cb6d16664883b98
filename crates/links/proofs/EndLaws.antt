-- What an insertion knows of an end, through the methods of WorkingEnd. Assumes nothing.
use Rattle.std.proofs.Common.{◌≡◌, refl, sym, ap, inl, inr, ◌∙◌, Bool, true, false, List, [], ◌∷◌, ℕ, zero, suc, ◌<◌, length, get_or, set, take, drop}
use Rattle.std.proofs.Common.{replicate, arith, ◌+◌, take-append-drop, get_or-drop, ◌++◌, ◌||◌, map}
use Rattle.std.proofs.lemmas.List.{map-append}
use Rattle.std.specs.List.{list_all, list_any}
use lib.Seq.{get_or-set_same}
use lib.ListN.{length-set, length-replicate, get_or-map}
use Rattle.file.specs.Lists.{any_of, all_of}
use Rattle.file.proofs.BoolLaws.{bool_cases, clash_bool}
use Rattle.graph.specs.declared.NodeIndex.{NodeIndex}
use Rattle.graph.specs.declared.End.{End}
use Rattle.graph.specs.Dag.{absent, present, no_end}
use Rattle.graph.proofs.ListLaws.{at-any, at_none, all_here, all_fails, any_here, any-later, any_append}
use Rattle.links.specs.declared.ends.Members.{Members}
use Rattle.links.specs.declared.ends.Members.TheVariants.{Empty, Only, Several}
use Rattle.links.specs.Links.{mapped}
use Rattle.links.specs.declared.numbers.Node.{Node}
use Rattle.links.specs.Ends.{Known}
use Rattle.links.proofs.LinkLaws.{add_present}
use Rattle.links.proofs.OtherLaws.{becomes}

pub any_set : (l : List Bool) (v : ℕ) → v < length l → any_of (λ b. b) (set l v true) ≡ true
any_set l v h = at-any (λ b. b) (set l v true) false v (rw length-set h) (get_or-set_same l v true false h)

-- a number that may be absent, else below n
abbrev pub Within : ℕ → ℕ → Type 0
Within n u = present u ≡ true → u < n

-- entries that name nodes below n alone
abbrev AllWithin : ℕ → List ℕ → Type 0
AllWithin n l = (q : ℕ) → Within n (get_or l q absent)

set_within : (n x : ℕ) (l : List ℕ) (q : ℕ) → Within n x → AllWithin n l → AllWithin n (set l q x)
set_within n x [] q small h j = h j
set_within n x (y ∷ l) zero small h zero = small
set_within n x (y ∷ l) zero small h (suc j) = h (suc j)
set_within n x (y ∷ l) (suc q) small h zero = h zero
set_within n x (y ∷ l) (suc q) small h (suc j) = set_within n x l q small (λ i. h (suc i)) j

become_within : (n v : ℕ) (l : List ℕ) → v < n → AllWithin n l → AllWithin n (map (becomes v) l)
become_within n v l small h q =
    let e : get_or (map (becomes v) l) q absent ≡ becomes v (get_or l q absent) = get_or-map (becomes v) l q absent in
    rw e (elim (bool_cases (present (get_or l q absent))) [ inl t ↦ rw t (λ p. small) | inr f ↦ rw f (h q) ])

module _ (e : End) (top : ℕ) (m : Members) (known : Known e top m) where
  -- v joins the block b, which has other nodes or is not known to have none
  pub known_more : (a : NodeIndex) → Within 512 a.0 → (b : List Bool) (v : ℕ) → v < length b
      → Known (record { node = e.node; all = a; block = set b v true }) top Several
  known_more a w b v h = record {
    fits = record { entries = known.fits.entries; all = w };
    low = known.low;
    above = known.above;
    some = sym (any_set b v h);
    only = λ u (t : Several ≡ Only u). absurd (cc);
  }

  -- v is alone in the block
  pub known_one : (v : Node) → Known (record { node = e.node; all = v.number; block = set (replicate 512 false) v.number.0 true }) top (Only v)
  known_one v = record {
    fits = record { entries = known.fits.entries; all = λ p. v.low };
    low = known.low;
    above = known.above;
    some = sym (any_set (replicate 512 false) v.number.0 (rw length-replicate v.low));
    only = λ u (t : Only v ≡ Only u). let z : v ≡ u = cc in rw (← z) refl;
  }

-- the one node of a block is taken out
pub clear_one : (n m : ℕ) → set (set (replicate n false) m true) m false ≡ replicate n false
clear_one zero m = refl
clear_one (suc n) zero = refl
clear_one (suc n) (suc m) = ap (λ (l : List Bool). false ∷ l) (clear_one n m)

pub known_none : Known no_end 0 Empty
unfolding no_end
known_none = record {
  fits = record { entries = λ q. rw (absents 64 q) (λ (p : false ≡ true). absurd (clash_bool p refl)); all = λ (p : false ≡ true). absurd (clash_bool p refl) };
  low = omega arith;
  above = λ q h. absents 64 q;
  some = sym (at_none (λ b. b) (replicate 512 false) false (λ i h. falses 512 i));
  only = λ u (t : Empty ≡ Only u). absurd (cc);
}
  where
    absents : (n q : ℕ) → get_or (replicate n absent) q absent ≡ absent
    absents zero q = refl
    absents (suc n) zero = refl
    absents (suc n) (suc q) = absents n q

    falses : (n i : ℕ) → get_or (replicate n false) i false ≡ false
    falses zero i = refl
    falses (suc n) zero = refl
    falses (suc n) (suc i) = falses n i

-- std's words for tests of entries
pub all_listed : {A : Type 0} (p : A → Bool) (l : List A) → all_of p l ≡ list_all p l
unfolding all_of
all_listed p [] = refl
all_listed p (x ∷ l) = elim (bool_cases (p x)) [ inl t ↦ rw (all_here p x l t, t) (all_listed p l) | inr f ↦ rw (all_fails p x l f, f) refl ]

pub any_listed : {A : Type 0} (p : A → Bool) (l : List A) → any_of p l ≡ list_any p l
unfolding any_of
any_listed p [] = refl
any_listed p (x ∷ l) = elim (bool_cases (p x)) [ inl t ↦ rw (any_here p x l t, t) refl | inr f ↦ rw (any-later p x l f, f) (any_listed p l) ]

-- ---- entries from the bound on

-- a list of absent entries
module _ (l : List ℕ) (none : (j : ℕ) → get_or l j absent ≡ absent) where
  none_absent : any_of present l ≡ false
  none_absent = at_none present l absent (λ j b. rw (none j) refl)

map-absent : (v : ℕ) (l : List ℕ) → ((j : ℕ) → get_or l j absent ≡ absent) → map (becomes v) l ≡ l
map-absent v [] h = refl
map-absent v (x ∷ l) h = let e : x ≡ absent = h 0 in rw (e, map-absent v l (λ j. h (suc j))) refl

mapped-absent : (l seen : List ℕ) → ((j : ℕ) → get_or l j absent ≡ absent) → mapped l seen ≡ seen
unfolding mapped
mapped-absent [] seen h = refl
mapped-absent (x ∷ l) seen h = let e : x ≡ absent = h 0 in rw e (mapped-absent l seen (λ j. h (suc j)))

pub mapped-append : (a b seen : List ℕ) → mapped (a ++ b) seen ≡ mapped b (mapped a seen)
unfolding mapped
mapped-append [] b seen = refl
mapped-append (x ∷ a) b seen = mapped-append a b (add_present x seen)

-- no qubit is mapped there
module _ (e : End) (top : ℕ) (m : Members) (known : Known e top m) where
  beyond : (j : ℕ) → get_or (drop top e.node) j absent ≡ absent
  beyond j = get_or-drop top e.node j absent ∙ known.above (top + j) (omega arith)

  parts : take top e.node ++ drop top e.node ≡ e.node
  parts = take-append-drop top e.node

  pub any_known : any_of present (take top e.node) ≡ any_of present e.node
  any_known =
      let r = none_absent (drop top e.node) beyond in
      sym (ap (λ (l : List ℕ). any_of present l) (sym parts) ∙ any_append present (take top e.node) (drop top e.node) ∙ rw r (or_none _))
    where
      or_none : (b : Bool) → (b || false) ≡ b
      or_none true = refl
      or_none false = refl

  pub map_known : (v : ℕ) → map (becomes v) (take top e.node) ++ drop top e.node ≡ map (becomes v) e.node
  map_known v =
      let r = map-absent v (drop top e.node) beyond in
      sym (ap (λ (l : List ℕ). map (becomes v) l) (sym parts) ∙ map-append (becomes v) (take top e.node) (drop top e.node) ∙ rw r refl)

  pub mapped_known : mapped (take top e.node) [] ≡ mapped e.node []
  mapped_known =
      let r = mapped-absent (drop top e.node) (mapped (take top e.node) []) beyond in
      sym (ap (λ (l : List ℕ). mapped l []) (sym parts) ∙ mapped-append (take top e.node) (drop top e.node) [] ∙ r)

  -- every entry with a node becomes v
  pub known_become : (v : ℕ) → v < 512 → Known (record { node = map (becomes v) e.node; all = e.all; block = e.block }) top m
  known_become v h = record {
    fits = record { entries = become_within 512 v e.node h known.fits.entries; all = known.fits.all };
    low = known.low;
    above = λ q t. get_or-map (becomes v) e.node q absent ∙ rw (known.above q t) refl;
    some = known.some;
    only = known.only;
  }
