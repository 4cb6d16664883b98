-- Of a file that loads every record is accepted, so the guarantee of the list of its insertions is the promise of specs/Schedule.antt. Assumes nothing.
use mathlib.Core.Path.{◌≡◌, refl, sym, ◌∙◌, ap, subst}
use mathlib.Core.Bool.{Bool, true, false, cond, not}
use mathlib.Core.Logic.{inl, inr, ⊎_elim}
use mathlib.Core.List.{List, [], ◌∷◌, map}
use Prim.Native.Nat.{ℕ, suc, ◌+◌, ◌≤◌, ◌<◌}
use native.Mathlib.Omega.{arith}
use native.Mathlib.Decide.{dec_lt}
use lib.Dec.{ltb, eqb}
use lib.IntN.{pos, negsuc}
use lib.ListN.{length, get_or, take, drop, length-map, length-take}
use lib.Seq.{get_or-take, get_or-drop}
use borrow.Author.Tests.{eq-eqb, lt-ltb}
use Rattle.file.specs.Lists.{all_of, any_of, keep, is_empty, member, count_from, up_to}
use Rattle.file.specs.Pairs.{count_of, part_of, pair_place, record_at, records_of}
use Rattle.file.specs.declared.Place.{Place}
use Rattle.file.specs.Records.{front}
use Rattle.file.specs.declared.Refusal.{Refusal}
use Rattle.file.specs.declared.Refusal.TheVariants.{ShortBuffer}
use Rattle.file.proofs.BoolLaws.{bool_cases, clash_bool}
use Rattle.graph.specs.declared.CircuitDag.{CircuitDag}
use Rattle.graph.specs.Dag.{empty, size}
use Rattle.graph.specs.Soundness.{sound}
use Rattle.file.proofs.PutLaws.{length-count_from}
use Rattle.graph.proofs.ListLaws.{at_all, up_to_all, map_at}
use Rattle.insertion.specs.declared.Loaded.{Loaded}
use Rattle.links.specs.declared.LoadingRule.{LoadingRule}
use Rattle.links.specs.declared.LoadingRule.TheVariants.{NearAll, FarAll}
use Rattle.insertion.specs.Limits.{accepts, insert_by}
use Rattle.insertion.specs.Load.{load_by}
use Rattle.insertion.specs.Calls.{Call, graph_after, all_by, final_by}
use Rattle.insertion.specs.Built.{Inserts}
use Rattle.insertion.proofs.BuiltLaws.{sound-built}
use Rattle.insertion.proofs.BuiltLoads.{load_inserts}
use Rattle.walk.specs.Blocks.{Walked, whole_walk, blocks, block_of_step}
use Rattle.guarantee.specs.Guarantee.{Accepted, accepted_from, accepted, takes_qubits, takes_all, operations, Each, Orders, different}
use Rattle.guarantee.specs.Guarantee.{filled, Guarantee}
use Rattle.guarantee.proofs.AcceptedNets.{built-size}
use Rattle.walk.proofs.BlockSteps.{empty-not}
use Rattle.walk.proofs.BlockLaws.{past_last}
use Rattle.guarantee.proofs.DemandLaws.{demand_3, both_ends}
use Rattle.walk.proofs.WholeLaws.{walk_short, walk_done}
use Rattle.schedule.specs.Schedule.{walk_loaded, schedule_by, placed_from, placed, pulses, Meets, block_in, ScheduledBy, NotScheduledBy, SameNumbers}
use Rattle.graph.specs.declared.NodeIndex.{NodeIndex}
use Rattle.std.specs.Prelude.{Result, Ok, Err, ⊤}

-- ---- by the load's answer

module _ (rule : LoadingRule) (s buffer : List ℕ) (x : Loaded) (e : x ≡ load_by rule s) where
  by_answer : (a : Result ⊤ Refusal) → x.answer ≡ a → walk_loaded (record { answer = a; graph = x.graph }) buffer ≡ schedule_by rule s buffer
  unfolding schedule_by
  by_answer a d = ap (λ (b : Result ⊤ Refusal). walk_loaded (record { answer = b; graph = x.graph }) buffer) (sym d) ∙ ap (λ (y : Loaded). walk_loaded y buffer) e

  pub walks : x.answer ≡ Ok tt → whole_walk x.graph buffer ≡ schedule_by rule s buffer
  walks d = by_answer (Ok tt) d

  pub refuses : (c : Refusal) → x.answer ≡ Err c → record { answer = Err c; buffer = buffer } ≡ schedule_by rule s buffer
  refuses c d = by_answer (Err c) d

-- ---- the records of a file that loads

goes : (a : Result NodeIndex Refusal) (o : Accepted) (l m : List Accepted) → accepts a ≡ true → (elim a [ Ok v ↦ o ∷ l | Err r ↦ m ]) ≡ o ∷ l
goes (Ok v) o l m h = refl
goes (Err r) o l m h = absurd (clash_bool h refl)

-- where each insertion is accepted, the accepted records are all of them
all_accepted : (rule : LoadingRule) (g : CircuitDag) (b f : ℕ) (l : List (List ℕ))
    → ((k : ℕ) → k < length l → accepts (insert_by rule (graph_after g (all_by rule (take k l))) (get_or l k [])).answer ≡ true)
    → accepted_from g b f (all_by rule l) ≡ placed_from b f l
unfolding accepted_from placed_from graph_after
all_accepted rule g b f [] h = refl
all_accepted rule g b f (r ∷ l) h = goes (insert_by rule g r).answer _ _ _ (h 0 (omega arith))
    ∙ ap (λ (t : List Accepted). record { node = b + f; place = cond (front r) (negsuc f) (pos b); bytes = r } ∷ t)
    (all_accepted rule (insert_by rule g r).graph (cond (front r) b (b + 1)) (cond (front r) (f + 1) f) l (λ k m. h (suc k) (omega arith)))

-- their numbers are those of the file
numbers-placed : (b f : ℕ) (l : List (List ℕ)) → map (λ (o : Accepted). o.node) (placed_from b f l) ≡ count_from (length l) (b + f)
unfolding placed_from count_from
numbers-placed b f [] = refl
numbers-placed b f (r ∷ l) = ap (λ (t : List ℕ). (b + f) ∷ t)
    (numbers-placed (cond (front r) b (b + 1)) (cond (front r) (f + 1) f) l ∙ ap (count_from (length l)) (next (front r)))
  where
    next : (x : Bool) → cond x b (b + 1) + cond x (f + 1) f ≡ b + f + 1
    next true = omega arith
    next false = omega arith

numbers_are : (s : List ℕ) → map (λ (o : Accepted). o.node) (placed s) ≡ up_to (count_of s)
numbers_are s = numbers-placed 0 0 (records_of s) ∙ ap (λ (n : ℕ). count_from n 0) (length-map (up_to (count_of s)) (record_at s) ∙ length-count_from (count_of s) 0)

each_of : (P Q : Accepted → Type 0) → ((o : Accepted) → P o → Q o) → (l : List Accepted) → Each P l → Each Q l
each_of P Q f [] h = tt
each_of P Q f (o ∷ l) h = (f o h.0, each_of P Q f l h.1)

-- a part of bytes is bytes
part_bytes : (s : List ℕ) → ((i : ℕ) → get_or s i 0 < 256) → (p : Result Place Refusal) → all_of (λ b. ltb b 256) (part_of p s) ≡ true
unfolding all_of
part_bytes s h (Ok p) = at_all (λ b. ltb b 256) (take p.length (drop p.offset s)) 0 (λ i l.
    let k : i < p.length = omega (arith, length-take p.length (drop p.offset s)) in
    lt-ltb _ 256 (subst (λ (x : ℕ). x < 256) (sym (get_or-take p.length (drop p.offset s) i 0 k ∙ get_or-drop p.offset s i 0)) (h (p.offset + i))))
part_bytes s h (Err r) = refl

module _ (rule : LoadingRule) (s : List ℕ) (bytes : (i : ℕ) → get_or s i 0 < 256) (done : (load_by rule s).answer ≡ Ok tt) where
  abbrev l : List (List ℕ)
  l = records_of s

  -- the insertions of these records
  abbrev calls : List Call
  calls = all_by rule l

  abbrev I : Inserts rule s (up_to (count_of s)) (load_by rule s)
  I = let x = load_inserts rule s in x.inserts (x.sound done)

  -- the graph of a load is that of its records' insertions
  graph_is : (load_by rule s).graph ≡ final_by rule l
  graph_is = I.done done

  accepted-is : accepted calls ≡ placed s
  accepted-is = all_accepted rule empty 0 0 l (λ k h.
      let b : k < length (up_to (count_of s)) = omega (arith, length-map (up_to (count_of s)) (record_at s)) in
      subst (λ (r : List ℕ). accepts (insert_by rule (final_by rule (take k l)) r).answer ≡ true)
      (sym (map_at (record_at s) (up_to (count_of s)) k 0 [] b)) (I.each done k b))

  records_bytes : all_of (all_of (λ b. ltb b 256)) l ≡ true
  records_bytes = up_to_all (all_of (λ b. ltb b 256)) (record_at s) (count_of s) (λ i h. part_bytes s bytes (pair_place s i))

  -- a node for each record
  pub size_loaded : size (load_by rule s).graph ≡ count_of s
  size_loaded =
      let long = built-size calls in
      let n = length-map (placed s) (λ (o : Accepted). o.node) in
      let m = ap length (numbers-placed 0 0 l) in
      ap size graph_is ∙ long ∙ ap length accepted-is
      ∙ omega (arith, n, m, length-count_from (length l) (0 + 0), length-map (up_to (count_of s)) (record_at s), length-count_from (count_of s) 0)

  pub sound_loaded : sound (load_by rule s).graph ≡ true
  sound_loaded = ap sound graph_is ∙ (sound-built calls).sound

  pulses_are : operations calls ≡ pulses s
  pulses_are = ap (keep (λ (o : Accepted). takes_qubits o.bytes)) accepted-is

  module _ (buffer : List ℕ) where
    walk_is : schedule_by rule s buffer ≡ whole_walk (load_by rule s).graph buffer
    walk_is = sym (walks rule s buffer (load_by rule s) refl done)

    short_refused : length buffer < count_of s → schedule_by rule s buffer ≡ record { answer = Err ShortBuffer; buffer = buffer }
    short_refused h = walk_is ∙ sym (walk_short _ _ sound_loaded (omega (arith, h, size_loaded)))

    module _ (room : count_of s ≤ length buffer) where
      fits : size (load_by rule s).graph ≤ length buffer
      fits = omega (arith, room, size_loaded)

      answer_is : (schedule_by rule s buffer).answer ≡ Ok (length (blocks (load_by rule s).graph))
      answer_is = ap (λ (x : Walked). x.answer) (walk_is ∙ walk_done (load_by rule s).graph sound_loaded buffer fits)

      module _ (k : ℕ) (numbers : List ℕ) (w : record { answer = Ok k; buffer = numbers } ≡ schedule_by rule s buffer) (G : Guarantee calls buffer) where
        walked : record { answer = Ok k; buffer = numbers } ≡ whole_walk (final_by rule l) buffer
        walked = w ∙ walk_is ∙ ap (λ (g : CircuitDag). whole_walk g buffer) graph_is

        blocks_are : k ≡ length (blocks (load_by rule s).graph)
        blocks_are = let a : Ok k ≡ Ok (length (blocks (load_by rule s).graph)) = ap (λ (x : Walked). x.answer) w ∙ answer_is in cc

        filled_are : filled calls buffer ≡ k
        filled_are = let a : Ok k ≡ Ok (filled calls buffer) = ap (λ (x : Walked). x.answer) walked ∙ G.count in cc

        -- what holds of the walk's buffer and the accepted operations, holds of these numbers and the file's pulses
        carry : (P : List ℕ → List Accepted → Type 0) → P (whole_walk (final_by rule l) buffer).buffer (operations calls) → P numbers (pulses s)
        carry P h = subst (P numbers) pulses_are (subst (λ (b : List ℕ). P b (operations calls)) (sym (ap (λ (x : Walked). x.buffer) walked)) h)

        -- in the block of exactly one step of the walk on g
        abbrev Once : CircuitDag → List ℕ → List Accepted → Type 0
        Once g b a = Each (λ o. (t : ℕ) → member o.node (block_of_step g t) ≡ eqb t (block_in b o.node)) a

        once : Once (load_by rule s).graph numbers (pulses s)
        once = subst (λ (g : CircuitDag). Once g numbers (pulses s)) (sym graph_is) (carry (Once (final_by rule l)) G.once)

        below : (v : ℕ) → ((t : ℕ) → member v (block_of_step (load_by rule s).graph t) ≡ eqb t (block_in numbers v)) → block_in numbers v < k
        below v h = elim (dec_lt (block_in numbers v) k) [
          | yes i ↦ i
          | no i ↦ absurd (clash_bool (h (block_in numbers v) ∙ eq-eqb (block_in numbers v) (block_in numbers v) refl)
              (empty-not _ (ap is_empty (past_last (load_by rule s).graph sound_loaded (block_in numbers v) (omega (arith, blocks_are)))) v))
        ]

        pub scheduled : ScheduledBy rule s k numbers
        scheduled = record {
          within = each_of _ _ (λ o h. below o.node h) (pulses s) once;
          once = once;
          others = subst (λ (a : List Accepted). Each (λ o. takes_qubits o.bytes ≡ false → block_in numbers o.node ≡ 65535) a) accepted-is
              (subst (λ (b : List ℕ). Each (λ o. takes_qubits o.bytes ≡ false → block_in b o.node ≡ 65535) (accepted calls))
              (sym (ap (λ (x : Walked). x.buffer) walked)) G.others);
          order = carry (λ b a. Orders (block_in b) a) G.order;
          lowest = carry (λ b a. (rival : ℕ → ℕ) → Orders rival a → Each (λ o. block_in b o.node ≤ rival o.node) a) G.lowest;
          fewest = subst (λ (a : List Accepted). (rival : ℕ → ℕ) → Orders rival a → k ≤ different (map rival (map (λ (o : Accepted). o.node) a)) []) pulses_are
              (λ rival h. omega (arith, filled_are, G.fewest rival h));
          count = sym filled_are
              ∙ (λ i. different (keep (λ n. ltb n 65535) (map (block_in (sym (ap (λ (x : Walked). x.buffer) walked) i))
              (map (λ (o : Accepted). o.node) (accepted-is i)))) [])
              ∙ ap (λ (v : List ℕ). different (keep (λ n. ltb n 65535) (map (block_in numbers) v)) []) (numbers_are s);
        }

-- the guarantee of the file's insertions, where it meets what the way asks
guarantee : (rule : LoadingRule) (s : List ℕ) → ((i : ℕ) → get_or s i 0 < 256) → (load_by rule s).answer ≡ Ok tt → (buffer : List ℕ) → count_of s ≤ length buffer
    → Meets rule s → Guarantee (all_by rule (records_of s)) buffer
guarantee NearAll s bytes done buffer room C = demand_3.whole (records_of s) buffer
    (record {
      bytes = records_bytes NearAll s bytes done;
      one_all = subst (λ (a : List Accepted). any_of (λ (o : Accepted). front o.bytes) a ≡ true → any_of (λ (o : Accepted). not (front o.bytes)) a ≡ true
          → length (keep (λ (o : Accepted). takes_all o.bytes) a) ≤ 1) (sym (pulses_are NearAll s bytes done)) C.one_all;
    })
    (omega (arith, fits NearAll s bytes done buffer room, ap size (graph_is NearAll s bytes done)))
guarantee FarAll s bytes done buffer room C =
    both_ends.whole (records_of s) buffer (records_bytes FarAll s bytes done)
    (omega (arith, fits FarAll s bytes done buffer room, ap size (graph_is FarAll s bytes done)))

-- ---- every answer

-- what the contract says of the file s, the buffer before and after, and the answer r
abbrev pub Promised : LoadingRule → List ℕ → List ℕ → Result ℕ Refusal → List ℕ → Type 0
Promised rule s before r after = (record { answer = r; buffer = after } ≡ schedule_by rule s before)
    × (((k : ℕ) → r ≡ Ok k → Meets rule s → ScheduledBy rule s k after) × ((c : Refusal) → r ≡ Err c → NotScheduledBy rule s before c after))

module _ (rule : LoadingRule) (s : List ℕ) (bytes : (i : ℕ) → get_or s i 0 < 256) (before : List ℕ) (r : Result ℕ Refusal) (after : List ℕ)
    (w : record { answer = r; buffer = after } ≡ schedule_by rule s before) where
  answers : {x : Walked} → schedule_by rule s before ≡ x → r ≡ x.answer
  answers e = ap (λ (y : Walked). y.answer) (w ∙ e)

  buffers : {x : Walked} → schedule_by rule s before ≡ x → after ≡ x.buffer
  buffers e = ap (λ (y : Walked). y.buffer) (w ∙ e)

  blocks_of : (k : ℕ) → r ≡ Ok k → Meets rule s → ScheduledBy rule s k after
  blocks_of k e C = go (load_by rule s).answer refl
    where
      refused : (c : Refusal) → r ≡ Err c → ⊥
      refused c f = let z : ◌≡◌ {A = ℕ} 0 1 = cc in omega arith

      go : (a : Result ⊤ Refusal) → (load_by rule s).answer ≡ a → ScheduledBy rule s k after
      go (Ok _) d = elim (dec_lt (length before) (count_of s)) [
        | yes h ↦ absurd (refused ShortBuffer (answers (short_refused rule s bytes d before h)))
        | no h ↦ scheduled rule s bytes d before (omega arith) k after
            (subst (λ (x : Result ℕ Refusal). record { answer = x; buffer = after } ≡ schedule_by rule s before) e w)
            (guarantee rule s bytes d before (omega arith) C)
      ]
      go (Err c) d = absurd (refused c (answers (sym (refuses rule s before (load_by rule s) refl c d))))

  refusal_of : (c : Refusal) → r ≡ Err c → NotScheduledBy rule s before c after
  refusal_of c e = go (load_by rule s).answer refl
    where
      go : (a : Result ⊤ Refusal) → (load_by rule s).answer ≡ a → NotScheduledBy rule s before c after
      go (Ok _) d = elim (dec_lt (length before) (count_of s)) [
        | yes h ↦ let t = short_refused rule s bytes d before h in
            let same : c ≡ ShortBuffer = (let a : r ≡ Err ShortBuffer = answers t in cc) in
            record { left = buffers t; cause = inr (d, same, h) }
        | no h ↦ let a = ap (λ (y : Walked). y.answer) w ∙ answer_is rule s bytes d before (omega arith) in
            let z : ◌≡◌ {A = ℕ} 0 1 = cc in
            absurd (omega arith)
      ]
      go (Err x) d =
          let t = sym (refuses rule s before (load_by rule s) refl x d) in
          let same : x ≡ c = (let a : r ≡ Err x = answers t in cc) in
          record { left = buffers t; cause = inl (d ∙ ap Err same) }

  pub promised : Promised rule s before r after
  promised = (w, (blocks_of, refusal_of))

-- ---- the same numbers in both ways

each_both : (P Q R : Accepted → Type 0) → ((o : Accepted) → P o → Q o → R o) → (l : List Accepted) → Each P l → Each Q l → Each R l
each_both P Q R f [] h k = tt
each_both P Q R f (o ∷ l) h k = (f o h.0 k.0, each_both P Q R f l h.1 k.1)

-- of those that are kept, and of those that are not
each_split : (q : Accepted → Bool) (P : Accepted → Type 0) (l : List Accepted) → Each P (keep q l) → Each (λ o. q o ≡ false → P o) l → Each P l
unfolding keep
each_split q P [] h k = tt
each_split q P (o ∷ l) h k = ⊎_elim
    (λ (e : q o ≡ true). let w = rw e at h in (w.0, each_split q P l w.1 k.1))
    (λ (e : q o ≡ false). (k.0 e, each_split q P l (rw e at h) k.1))
    (bool_cases (q o))

same_map : (f g : ℕ → ℕ) (l : List Accepted) → Each (λ o. f o.node ≡ g o.node) l
    → map f (map (λ (o : Accepted). o.node) l) ≡ map g (map (λ (o : Accepted). o.node) l)
same_map f g [] h = refl
same_map f g (o ∷ l) h = λ i. h.0 i ∷ same_map f g l h.1 i

pub same_numbers : SameNumbers
same_numbers r t s k j m n A B = (
  A.count ∙ ap (λ (v : List ℕ). different (keep (λ x. ltb x 65535) v) []) written ∙ sym B.count,
  each,
)
  where
    each : Each (λ o. block_in m o.node ≡ block_in n o.node) (placed s)
    each = each_split (λ (o : Accepted). takes_qubits o.bytes) _ (placed s)
        (each_both _ _ _ (λ o x y. omega (arith, x, y)) (pulses s) (A.lowest (block_in n) B.order) (B.lowest (block_in m) A.order))
        (each_both _ _ _ (λ o x y e. x e ∙ sym (y e)) (placed s) A.others B.others)

    written : map (block_in m) (up_to (count_of s)) ≡ map (block_in n) (up_to (count_of s))
    written = ap (map (block_in m)) (sym (numbers_are s)) ∙ same_map (block_in m) (block_in n) (placed s) each ∙ ap (map (block_in n)) (numbers_are s)
