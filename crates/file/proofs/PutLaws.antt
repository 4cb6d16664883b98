-- Lists written into a lent buffer: a list over its entries, and a part of a lent list. Assumes nothing.
use mathlib.Core.Path.{◌≡◌, refl, sym, ◌∙◌, ap}
use mathlib.Core.List.{List, [], ◌∷◌, ◌++◌, append_assoc}
use Prim.Native.Nat.{ℕ, zero, suc, ◌+◌, ◌-◌, ◌≤◌, ◌<◌}
use native.Mathlib.Omega.{arith}
use native.Mathlib.Numerals.{add-one}
use lib.ListN.{length, get_or, take, drop, set, length-append, length-drop, take-append-drop}
use lib.Seq.{take-suc, length-take-le, take_at, drop-append-le, drop-append-add, drop-drop, set_split, slice, slice_empty, length-slice}
use Rattle.file.specs.Lists.{count_from, put_at, onto}

-- the numbers from k on are n
pub length-count_from : (n k : ℕ) → length (count_from n k) ≡ n
unfolding count_from
length-count_from zero k = refl
length-count_from (suc n) k = ap suc (length-count_from n (k + 1))

-- ---- a list over a buffer's entries

pub put-none : (i : ℕ) (b : List ℕ) → put_at i [] b ≡ b
put-none i b = let z : i + 0 ≡ i = omega arith in rw z (take-append-drop i b)

-- a second list after a first
pub put-put : (i : ℕ) (l k b : List ℕ) → i ≤ length b → put_at (i + length l) k (put_at i l b) ≡ put_at i (l ++ k) b
put-put i l k b h =
    let p = take i b ++ l in
    let d = drop (i + length l) b in
    let n : length p ≡ i + length l = length-append (take i b) l ∙ ap (λ (x : ℕ). x + length l) (length-take-le i b h) in
    let whole : put_at i l b ≡ p ++ d = sym (append_assoc (take i b) l d) in
    let rest : drop ((i + length l) + length k) (p ++ d) ≡ drop ((i + length l) + length k) b =
    ap (λ (x : ℕ). drop (x + length k) (p ++ d)) (sym n) ∙ drop-append-add p d (length k) ∙ drop-drop (length k) (i + length l) b in
    let z : (i + length l) + length k ≡ i + length (l ++ k) = omega (arith, length-append l k) in
    rw whole (rw (take_at p d (i + length l) n, rest, z, append_assoc (take i b) l, append_assoc l k (drop (i + length (l ++ k)) b)) refl)

pub length-put : (i : ℕ) (l b : List ℕ) → i + length l ≤ length b → length (put_at i l b) ≡ length b
length-put i l b h =
    let d = drop (i + length l) b in
    omega (arith, length-append (take i b) (l ++ d), length-append l d, length-take-le i b (omega arith), length-drop (i + length l) b)

-- one entry more
pub put_one : (i x : ℕ) (l b : List ℕ) → i + length l < length b → set (put_at i l b) (i + length l) x ≡ put_at i (l ++ (x ∷ [])) b
put_one i x l b h =
    let z : suc (i + length l) ≡ (i + length l) + 1 = omega arith in
    set_split (put_at i l b) (i + length l) x (omega (arith, length-put i l b (omega arith)))
    ∙ ap (λ (n : ℕ). take (i + length l) (put_at i l b) ++ (x ∷ drop n (put_at i l b))) z
    ∙ put-put i l (x ∷ []) b (omega arith)

-- from the start on
pub put-onto : (l b : List ℕ) → put_at 0 l b ≡ onto l b
put-onto l b = let z : 0 + length l ≡ length l = omega arith in ap (λ (n : ℕ). l ++ drop n b) z

-- a part of a list is copied
module _ (list : List ℕ) (a e start : ℕ) (b₀ : List ℕ) where
  pub record Copying (b : List ℕ) (i : ℕ) : Type 0 where
    pub from : a ≤ i
    pub low : i ≤ e
    pub top : e ≤ length list
    pub room : start + (e - a) ≤ length b₀
    pub put : b ≡ put_at start (slice a i list) b₀

  pub copies_none : a ≤ e → e ≤ length list → start + (e - a) ≤ length b₀ → Copying b₀ a
  copies_none o t r =
      let none : put_at start (slice a a list) b₀ ≡ b₀ = ap (λ (l : List ℕ). put_at start l b₀) (slice_empty a list) ∙ put-none start b₀ in
      record { from = omega arith; low = o; top = t; room = r; put = sym none }

  pub copies_long : (b : List ℕ) (i : ℕ) → Copying b i → length b ≡ length b₀
  copies_long b i C =
      let n : length (slice a i list) ≡ i - a = length-slice a i list (omega (arith, C.low, C.top)) in
      ap length C.put ∙ length-put start (slice a i list) b₀ (omega (arith, n, C.from, C.low, C.room))

  module _ (b : List ℕ) (i : ℕ) (C : Copying b i) (h : i < e) where
    pub copies_room : start + (i - a) < length b
    copies_room = omega (arith, C.room, C.from, copies_long b i C)

    pub copies_one : Copying (set b (start + (i - a)) (get_or list i 0)) (i + 1)
    copies_one =
        let n : length (slice a i list) ≡ i - a = length-slice a i list (omega (arith, C.top)) in
        let q : start + (i - a) ≡ start + length (slice a i list) = omega (arith, n) in
        record {
          from = omega (arith, C.from);
          low = omega arith;
          top = C.top;
          room = C.room;
          put = (λ t. set (C.put t) (q t) (get_or list i 0))
              ∙ put_one start (get_or list i 0) (slice a i list) b₀ (omega (arith, n, C.room, C.from))
              ∙ ap (λ (l : List ℕ). put_at start l b₀) (sym (slice_more a i list C.from (omega (arith, C.top))));
        }
      where
        slice_more : (a i : ℕ) (l : List ℕ) → a ≤ i → i < length l → slice a (i + 1) l ≡ slice a i l ++ (get_or l i 0 ∷ [])
        slice_more a i l h k =
            let n : length (take i l) ≡ i = length-take-le i l (omega arith) in
            rw (add-one i, take-suc l i 0 k) (drop-append-le a (take i l) (get_or l i 0 ∷ []) (omega arith))

  pub copies_all : (b : List ℕ) (i : ℕ) → Copying b i → e ≤ i → b ≡ put_at start (slice a e list) b₀
  copies_all b i C h = let z : i ≡ e = omega (arith, C.low) in C.put ∙ ap (λ (x : ℕ). put_at start (slice a x list) b₀) z
