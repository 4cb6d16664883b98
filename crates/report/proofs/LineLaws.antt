-- The lines as the loops write them. Assumes nothing.
use mathlib.Core.Path.{◌≡◌, refl, sym, ◌∙◌, ap}
use mathlib.Core.Bool.{Bool, true, false, not}
use mathlib.Core.List.{List, [], ◌∷◌, ◌++◌, append_assoc}
use Prim.Native.Nat.{ℕ, zero, suc, ◌+◌, ◌*◌, ◌-◌, ◌≤◌, ◌<◌}
use native.Mathlib.Omega.{arith}
use native.Mathlib.Decide.{dec_lt}
use lib.Dec.{ltb, eqb}
use lib.ListN.{length, get_or, length-append}
use borrow.Author.Tests.{lt-ltb, le-ltb, eq-eqb, ne_eqb}
use Rattle.file.specs.Lists.{keep, cons_if, count_from, up_to}
use Rattle.graph.specs.Dag.{absent}
use Rattle.file.proofs.PutLaws.{length-count_from}
use Rattle.graph.proofs.ListLaws.{any_default}
use Rattle.file.specs.declared.Refusal.{Refusal}
use Rattle.file.specs.Refusals.{number_of, value_of}
use Rattle.report.specs.Text.{decimal, nodes_text, line_text, count_text, at_text, refused_text}
use Rattle.report.specs.Lines.{in_block, lines_by, numbers_text}
use Rattle.report.proofs.TextLaws.{fits_front, fits_rest, digits_3, digits_few}
use Rattle.std.specs.Prelude.{Option, Some, None}
use Rattle.std.proofs.lemmas.List.{append-nil}

-- ---- one node

node_short : (v : ℕ) → v < 512 → length (decimal v) ≤ 3
node_short v h = digits_3 20 v (omega arith)

length_cons : (v : ℕ) (b : Bool) (l : List ℕ) → length (cons_if b v l) ≡ length (cons_if b v []) + length l
length_cons v true l = omega arith
length_cons v false l = omega arith

-- ---- the nodes of a block

module _ (numbers : List ℕ) (t : ℕ) where
  abbrev n : ℕ
  n = length numbers

  -- those from v on
  abbrev pub left : ℕ → List ℕ
  left v = keep (λ u. eqb (get_or numbers u absent) t) (count_from (n - v) v)

  left_step : (v : ℕ) → v < n → left v ≡ cons_if (eqb (get_or numbers v 0) t) v (left (v + 1))
  unfolding keep count_from
  left_step v h =
      let z : n - v ≡ suc (n - (v + 1)) = omega arith in
      ap (λ (m : ℕ). keep (λ u. eqb (get_or numbers u absent) t) (count_from m v)) z ∙ ap (λ (x : ℕ). cons_if (eqb x t) v (left (v + 1))) (any_default numbers v absent 0 h)

  left_all : left 0 ≡ in_block numbers n t
  left_all = let z : n - 0 ≡ n = omega arith in ap (λ (m : ℕ). keep (λ u. eqb (get_or numbers u absent) t) (count_from m 0)) z

  left-none : (v : ℕ) → n ≤ v → left v ≡ []
  unfolding keep count_from
  left-none v h = let z : n - v ≡ 0 = omega arith in ap (λ (m : ℕ). keep (λ u. eqb (get_or numbers u absent) t) (count_from m v)) z

  -- what the loop keeps: the nodes from v on are still to be written
  pub record Listing (old now : List ℕ) (v : ℕ) : Type 0 where
    pub fits : length old + length (nodes_text (in_block numbers n t)) ≤ 5120
    pub rest : now ++ nodes_text (left v) ≡ old ++ nodes_text (in_block numbers n t)

  module _ (old : List ℕ) where
    pub lists-none : length old + length (nodes_text (in_block numbers n t)) ≤ 5120 → Listing old old 0
    lists-none f = record { fits = f; rest = ap (λ (l : List ℕ). old ++ nodes_text l) left_all }

    module _ (now : List ℕ) (v : ℕ) (I : Listing old now v) (h : v < n) where
      pub lists_skip : (get_or numbers v 0 ≡ t → ⊥) → Listing old now (v + 1)
      lists_skip e = record {
        fits = I.fits;
        rest = ap (λ (l : List ℕ). now ++ nodes_text l) (sym (left_step v h ∙ ap (λ (b : Bool). cons_if b v (left (v + 1))) (ne_eqb (get_or numbers v 0) t e))) ∙ I.rest;
      }

      listed : get_or numbers v 0 ≡ t → nodes_text (left v) ≡ 32 ∷ (decimal v ++ nodes_text (left (v + 1)))
      unfolding nodes_text
      listed e = ap nodes_text (left_step v h ∙ ap (λ (b : Bool). cons_if b v (left (v + 1))) (eq-eqb (get_or numbers v 0) t e))

      pub lists_room : get_or numbers v 0 ≡ t → length now + 1 + length (decimal v) ≤ 5120
      lists_room e =
          let all = nodes_text (in_block numbers n t) in
          omega (arith, I.fits, ap length I.rest, length-append now (nodes_text (left v)), length-append old all, ap length (listed e), length-append (decimal v) (nodes_text (left (v + 1))))

      pub lists_one : get_or numbers v 0 ≡ t → (mid after : List ℕ) → mid ≡ now ++ (32 ∷ []) → after ≡ mid ++ decimal v → Listing old after (v + 1)
      lists_one e mid after f g =
          let others = nodes_text (left (v + 1)) in
          record {
            fits = I.fits;
            rest = (λ i. (g ∙ ap (λ (l : List ℕ). l ++ decimal v) f) i ++ others)
                ∙ append_assoc (now ++ (32 ∷ [])) (decimal v) others
                ∙ append_assoc now (32 ∷ []) (decimal v ++ others)
                ∙ ap (λ (l : List ℕ). now ++ l) (sym (listed e))
                ∙ I.rest;
          }

    pub lists_all : (now : List ℕ) (v : ℕ) → Listing old now v → n ≤ v → now ≡ old ++ nodes_text (in_block numbers n t)
    unfolding nodes_text
    lists_all now v I h = sym (append-nil now) ∙ ap (λ (l : List ℕ). now ++ nodes_text l) (sym (left-none v h)) ∙ I.rest

-- ---- a line

one_more : (b : Bool) (k : ℕ) (r : List ℕ) → k < 512 → length (nodes_text r) ≤ 4 * length r → length (nodes_text (cons_if b k r)) ≤ 4 * length (cons_if b k r)
unfolding nodes_text
one_more true k r h l = omega (arith, node_short k h, length-append (decimal k) (nodes_text r))
one_more false k r h l = l

nodes_short : (p : ℕ → Bool) (m k : ℕ) → k + m ≤ 512 → length (nodes_text (keep p (count_from m k))) ≤ 4 * length (keep p (count_from m k))
unfolding keep count_from nodes_text
nodes_short p zero k h = omega arith
nodes_short p (suc m) k h = one_more (p k) k (keep p (count_from m (k + 1))) (omega arith) (nodes_short p m (k + 1) (omega arith))

pub block_short : (numbers : List ℕ) (n t : ℕ) → n ≤ 512 → length (nodes_text (in_block numbers n t)) ≤ 4 * length (in_block numbers n t)
block_short numbers n t h = nodes_short (λ v. eqb (get_or numbers v absent) t) n 0 (omega arith)

-- a line takes at most five characters and four a node
pub line_short : (numbers : List ℕ) (n t : ℕ) → n ≤ 512 → t < 512 → length (line_text t (in_block numbers n t)) ≤ 5 + 4 * length (in_block numbers n t)
line_short numbers n t h k =
    let b = nodes_text (in_block numbers n t) in
    omega (arith, block_short numbers n t h, digits_3 20 t (omega arith), length-append (decimal t) (58 ∷ (b ++ (10 ∷ []))), length-append b (10 ∷ []))

-- ---- the lines

-- how many of the nodes have a number from t on
abbrev beyond : (ℕ → ℕ) → List ℕ → ℕ → ℕ
beyond f l t = length (keep (λ v. not (ltb (f v) t)) l)

parted : (f : ℕ → ℕ) (t : ℕ) (l : List ℕ) → beyond f l t ≡ length (keep (λ v. eqb (f v) t) l) + beyond f l (t + 1)
unfolding keep
parted f t [] = omega arith
parted f t (v ∷ l) =
    let a = ltb (f v) t in
    let b = eqb (f v) t in
    let c = ltb (f v) (t + 1) in
    omega (arith, parted f t l, length_cons v (not a) (keep (λ v. not (ltb (f v) t)) l), length_cons v b (keep (λ v. eqb (f v) t) l), length_cons v (not c) (keep (λ v. not (ltb (f v) (t + 1))) l), here (f v) t)
  where
    here : (x t : ℕ) → length (cons_if (not (ltb x t)) v []) ≡ length (cons_if (eqb x t) v []) + length (cons_if (not (ltb x (t + 1))) v [])
    here x t = elim (dec_lt x t) [
      | yes h ↦ rw (lt-ltb x t h, ne_eqb x t (λ e. omega arith), lt-ltb x (t + 1) (omega arith)) (omega arith)
      | no h ↦ elim (dec_lt t x) [
        | yes k ↦ rw (le-ltb x t (omega arith), ne_eqb x t (λ e. omega arith), le-ltb x (t + 1) (omega arith)) (omega arith)
        | no k ↦ rw (le-ltb x t (omega arith), eq-eqb x t (omega arith), lt-ltb x (t + 1) (omega arith)) (omega arith)
      ]
    ]

keep_few : (p : ℕ → Bool) (l : List ℕ) → length (keep p l) ≤ length l
unfolding keep
keep_few p [] = omega arith
keep_few p (v ∷ l) = omega (arith, keep_few p l, length_cons v (p v) (keep p l), one_few (p v))
  where
    one_few : (b : Bool) → length (cons_if b v []) ≤ 1
    one_few true = omega arith
    one_few false = omega arith

-- the lines of k blocks take at most five characters a block and four a node
lines_short : (numbers : List ℕ) (n k t : ℕ) → n ≤ 512 → t + k ≤ 512
    → length (lines_by numbers n k t) ≤ 5 * k + 4 * beyond (λ v. get_or numbers v absent) (up_to n) t
unfolding lines_by
lines_short numbers n zero t h l = omega arith
lines_short numbers n (suc k) t h l =
    omega (
      arith,
      lines_short numbers n k (t + 1) h (omega arith),
      parted (λ v. get_or numbers v absent) t (up_to n),
      line_short numbers n t h (omega arith),
      length-append (line_text t (in_block numbers n t)) (lines_by numbers n k (t + 1)),
    )

pub count_short : (n : ℕ) → length (count_text n) ≤ 28
unfolding count_text
count_short n = omega (arith, digits_few 20 n, length-append (decimal n) (10 ∷ []))

-- .. so that the text has room
pub numbers_short : (numbers : List ℕ) (n k : ℕ) → n ≤ 512 → k ≤ n → length (numbers_text numbers n k) ≤ 5120
numbers_short numbers n k h l =
    omega (
      arith,
      count_short k,
      lines_short numbers n k 0 h (omega arith),
      keep_few (λ v. not (ltb (get_or numbers v absent) 0)) (up_to n),
      length-count_from n 0,
      length-append (count_text k) (lines_by numbers n k 0),
    )

module _ (numbers : List ℕ) (count : ℕ) where
  abbrev entries : ℕ
  entries = length numbers

  lines_step : (t : ℕ) → t < count → lines_by numbers entries (count - t) t ≡ line_text t (in_block numbers entries t) ++ lines_by numbers entries (count - (t + 1)) (t + 1)
  unfolding lines_by
  lines_step t h = let z : count - t ≡ suc (count - (t + 1)) = omega arith in ap (λ (k : ℕ). lines_by numbers entries k t) z

  lines_none : (t : ℕ) → count ≤ t → lines_by numbers entries (count - t) t ≡ []
  unfolding lines_by
  lines_none t h = let z : count - t ≡ 0 = omega arith in ap (λ (k : ℕ). lines_by numbers entries k t) z

  lines_all : lines_by numbers entries (count - 0) 0 ≡ lines_by numbers entries count 0
  lines_all = let z : count - 0 ≡ count = omega arith in ap (λ (k : ℕ). lines_by numbers entries k 0) z

  -- what the loop keeps: the lines from block t on are still to be written
  pub record Lining (old now : List ℕ) (t : ℕ) : Type 0 where
    pub fits : length old + length (lines_by numbers entries count 0) ≤ 5120
    pub rest : now ++ lines_by numbers entries (count - t) t ≡ old ++ lines_by numbers entries count 0

  pub lines_begin : (old : List ℕ) → length old + length (lines_by numbers entries count 0) ≤ 5120 → Lining old old 0
  lines_begin old h = record { fits = h; rest = ap (λ (l : List ℕ). old ++ l) lines_all }

  module _ (old now : List ℕ) (t : ℕ) (I : Lining old now t) where
    pub lines_room : t < count → length now + length (line_text t (in_block numbers entries t)) ≤ 5120
    lines_room h =
        let line = line_text t (in_block numbers entries t) in
        let others = lines_by numbers entries (count - (t + 1)) (t + 1) in
        omega (arith, I.fits, ap length I.rest, length-append now (lines_by numbers entries (count - t) t), length-append old (lines_by numbers entries count 0), ap length (lines_step t h), length-append line others)

    pub lines_more : t < count → (after : List ℕ) → after ≡ now ++ line_text t (in_block numbers entries t) → Lining old after (t + 1)
    lines_more h after e =
        let line = line_text t (in_block numbers entries t) in
        let others = lines_by numbers entries (count - (t + 1)) (t + 1) in
        record {
          fits = I.fits;
          rest = ap (λ (l : List ℕ). l ++ others) e ∙ append_assoc now line others ∙ ap (λ (l : List ℕ). now ++ l) (sym (lines_step t h)) ∙ I.rest;
        }

    pub lines_end : count ≤ t → now ≡ old ++ lines_by numbers entries count 0
    lines_end h = sym (append-nil now) ∙ ap (λ (l : List ℕ). now ++ l) (sym (lines_none t h)) ∙ I.rest

-- ---- the whole text

-- "blocks "
abbrev pub blocks_word : List ℕ
blocks_word = 98 ∷ 108 ∷ 111 ∷ 99 ∷ 107 ∷ 115 ∷ 32 ∷ []

-- "refused "
abbrev pub refused_word : List ℕ
refused_word = 114 ∷ 101 ∷ 102 ∷ 117 ∷ 115 ∷ 101 ∷ 100 ∷ 32 ∷ []

-- a text is these four parts
pub record Parts (t a b c d : List ℕ) : Type 0 where
  pub is : t ≡ a ++ (b ++ (c ++ d))

pub numbers_parts : (numbers : List ℕ) (n k : ℕ) → Parts (numbers_text numbers n k) blocks_word (decimal k) (10 ∷ []) (lines_by numbers n k 0)
unfolding count_text
numbers_parts numbers n k = record { is = ap (λ (l : List ℕ). blocks_word ++ l) (append_assoc (decimal k) (10 ∷ []) (lines_by numbers n k 0)) }

pub refused_parts : (r : Refusal) (n : ℕ) (v : Option ℕ) → n ≡ number_of r → v ≡ value_of r
    → Parts (refused_text r) refused_word (decimal n) (at_text v) (10 ∷ [])
unfolding refused_text
refused_parts r n v e f = record { is = sym (λ i. refused_word ++ (decimal (e i) ++ (at_text (f i) ++ (10 ∷ [])))) }

pub line_parts : (t : ℕ) (b : List ℕ) → Parts (line_text t b) (decimal t) (58 ∷ []) (nodes_text b) (10 ∷ [])
line_parts t b = record { is = refl }

at_short : (v : Option ℕ) → length (at_text v) ≤ 24
at_short None = omega arith
at_short (Some i) = omega (arith, digits_few 20 i)

pub refused_short : (r : Refusal) → length (refused_text r) ≤ 53
unfolding refused_text
refused_short r = omega (arith, digits_few 20 (number_of r), at_short (value_of r), length-append (decimal (number_of r)) (at_text (value_of r) ++ (10 ∷ [])), length-append (at_text (value_of r)) (10 ∷ []))

-- the parts have room one after the other, and make the text
module _ {t a b c d : List ℕ} (P : Parts t a b c d) (s : List ℕ) where
  module _ (fits : length s + length t ≤ 5120) where
    whole : length s + length (a ++ (b ++ (c ++ d))) ≤ 5120
    whole = omega (arith, ap length P.is)

    pub first_fits : length s + length a ≤ 5120
    first_fits = fits_front s a (b ++ (c ++ d)) 5120 whole

    module _ (s1 : List ℕ) (e : s1 ≡ s ++ a) where
      pub second_fits : length s1 + length b ≤ 5120
      second_fits = fits_front s1 b (c ++ d) 5120 (fits_rest s a (b ++ (c ++ d)) s1 5120 e whole)

      module _ (s2 : List ℕ) (f : s2 ≡ s1 ++ b) where
        rest : length s2 + length (c ++ d) ≤ 5120
        rest = fits_rest s1 b (c ++ d) s2 5120 f (fits_rest s a (b ++ (c ++ d)) s1 5120 e whole)

        pub third_fits : length s2 + length c ≤ 5120
        third_fits = fits_front s2 c d 5120 rest

        pub fourth_fits : (s3 : List ℕ) → s3 ≡ s2 ++ c → length s3 + length d ≤ 5120
        fourth_fits s3 g = fits_rest s2 c d s3 5120 g rest

  pub in_parts : (s1 s2 s3 s4 : List ℕ) → s1 ≡ s ++ a → s2 ≡ s1 ++ b → s3 ≡ s2 ++ c → s4 ≡ s3 ++ d → s4 ≡ s ++ t
  in_parts s1 s2 s3 s4 e f g h = rw (h, g, f, e, P.is) (simp append_assoc)
