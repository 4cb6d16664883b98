-- The lines by a schedule's numbers are the lines of the blocks. Assumes nothing.
use mathlib.Core.Path.{◌≡◌, refl, sym, ◌∙◌, ap}
use mathlib.Core.Bool.{Bool, true, false, cond, ◌&&◌}
use mathlib.Core.Logic.{⊎_elim}
use mathlib.Core.List.{List, [], ◌∷◌, ◌++◌}
use Prim.Native.Nat.{ℕ, zero, suc, ◌+◌, ◌≤◌, ◌<◌}
use native.Mathlib.Omega.{arith}
use lib.Dec.{eqb}
use lib.ListN.{length, get_or, take, replicate, length-replicate}
use lib.Seq.{length-take-le}
use Rattle.std.proofs.lemmas.List.{get_or-take}
use borrow.Author.Tests.{lt-ltb}
use Rattle.file.specs.Lists.{keep, up_to, member, members, any_of, is_empty}
use Rattle.file.specs.Pairs.{count_of}
use Rattle.file.specs.declared.Refusal.{Refusal}
use Rattle.file.specs.declared.Refusal.TheVariants.{ShortBuffer}
use Rattle.graph.specs.declared.CircuitDag.{CircuitDag}
use Rattle.graph.specs.Dag.{absent, size, has_edge}
use Rattle.graph.specs.Soundness.{sound}
use Rattle.queries.specs.Reach.{blocking}
use Rattle.file.proofs.BoolLaws.{not-true, eqb-flip}
use Rattle.graph.proofs.ListLaws.{member_marked, member-up_to, member-keep}
use Rattle.queries.proofs.ReachLaws.{keep_same}
use Rattle.insertion.specs.declared.Loaded.{Loaded}
use Rattle.links.specs.declared.LoadingRule.{LoadingRule}
use Rattle.insertion.specs.Load.{load_by}
use Rattle.walk.specs.declared.ParallelBlocks.{ParallelBlocks}
use Rattle.walk.specs.Blocks.{unstarted, joined, followers, blocks, Walked, whole_walk, state_after, block_of_step}
use Rattle.walk.specs.Steps.{Iterated}
use Rattle.walk.proofs.BlockSteps.{sound-within}
use Rattle.walk.proofs.BlockLaws.{nth_block}
use Rattle.walk.proofs.StepLaws.{marked_keep}
use Rattle.walk.proofs.IterationLaws.{next_iterated}
use Rattle.schedule.specs.Schedule.{schedule_by, NotScheduledBy}
use Rattle.schedule.proofs.ScheduleLaws.{walks, refuses, size_loaded, sound_loaded}
use Rattle.report.specs.Lines.{in_block, lines_by, numbers_text}
use Rattle.report.specs.Text.{line_text, lines_text, count_text, blocks_text, refused_text, loaded_text, file_text_by}
use Rattle.std.specs.Prelude.{Result, Ok, Err, ⊤}

and_here : (a b : Bool) → b ≡ true → (a && b) ≡ a
and_here true b h = h
and_here false b h = refl

-- a part of the nodes, told by its members
kept-members : (p : ℕ → Bool) (n : ℕ) → keep p (up_to n) ≡ keep (λ v. member v (keep p (up_to n))) (up_to n)
kept-members p n = keep_same p (λ v. member v (keep p (up_to n))) n
    (λ v l. sym (member-keep p v (up_to n) ∙ and_here (p v) (member v (up_to n)) (member-up_to v n ∙ lt-ltb v n (omega arith))))

module _ (g : CircuitDag) (s : sound g ≡ true) where
  abbrev n : ℕ
  n = size g

  listed : (w : ParallelBlocks) (b : Bool)
      → cond b (members g.first.block) (followers g w) ≡ keep (λ v. member v (cond b (members g.first.block) (followers g w))) (up_to n)
  unfolding followers
  listed w true = marked_keep (λ v. member v (members g.first.block)) g.first.block 0 n
      (λ i l. let z : i ≡ 0 + i = omega arith in sym (member_marked g.first.block i) ∙ ap (λ (v : ℕ). member v (members g.first.block)) z)
      (λ i l. not-true (λ e. omega (arith, (sound-within g s).first i e)))
  listed w false = kept-members (λ v. any_of (λ u. has_edge g u v) (members w.current) && is_empty (blocking g (members (joined w.current w.executed)) v)) n

  -- a block holds its members among the nodes, ascending
  block_listed : (t : ℕ) → block_of_step g t ≡ keep (λ v. member v (block_of_step g t)) (up_to n)
  block_listed t = listed (state_after g t) (unstarted (state_after g t))

  module _ (buffer : List ℕ) (room : n ≤ length buffer) where
    -- what the whole walk wrote
    abbrev numbers : List ℕ
    numbers = (whole_walk g buffer).buffer

    I : Iterated g (λ t. buffer) buffer
    I = next_iterated.whole g s (λ t. buffer) (λ t. room) buffer room

    block-numbered : (t : ℕ) → t < length (blocks g) → get_or (blocks g) t [] ≡ in_block numbers n t
    block-numbered t h = nth_block g s t ∙ block_listed t ∙ keep_same (λ v. member v (block_of_step g t)) (λ v. eqb (get_or numbers v absent) t) n
        (λ v l. I.numbers t h v ∙ ap (λ (b : Bool). b && eqb t (get_or numbers v absent)) (lt-ltb v n (omega arith)) ∙ eqb-flip t (get_or numbers v absent))

    lines_same : (l : List (List ℕ)) (t : ℕ) → ((i : ℕ) → i < length l → get_or l i [] ≡ in_block numbers n (t + i)) → lines_by numbers n (length l) t ≡ lines_text t l
    unfolding lines_by lines_text
    lines_same [] t h = refl
    lines_same (b ∷ l) t h =
        let z : t ≡ t + 0 = omega arith in
        let here : in_block numbers n t ≡ b = ap (in_block numbers n) z ∙ sym (h 0 (omega arith)) in
        let rest = lines_same l (t + 1) (λ i k. let y : t + suc i ≡ (t + 1) + i = omega arith in h (suc i) (omega arith) ∙ ap (in_block numbers n) y) in
        (λ i. line_text t (here i) ++ rest i)

    -- the lines by the numbers are those of the blocks
    blocks_lines : lines_by numbers n (length (blocks g)) 0 ≡ lines_text 0 (blocks g)
    blocks_lines = lines_same (blocks g) 0 (λ i h. let z : i ≡ 0 + i = omega arith in block-numbered i h ∙ ap (in_block numbers n) z)

    walk_count : (r : Result ℕ Refusal) (written : List ℕ) → record { answer = r; buffer = written } ≡ whole_walk g buffer → r ≡ Ok (length (blocks g))
    walk_count r written e = ap (λ (x : Walked). x.answer) e ∙ I.count

    walk_few : length (blocks g) ≤ n
    walk_few = I.ends

-- the text by the first n numbers alone
block_taken : (xs : List ℕ) (n t : ℕ) → in_block (take n xs) n t ≡ in_block xs n t
block_taken xs n t = keep_same (λ v. eqb (get_or (take n xs) v absent) t) (λ v. eqb (get_or xs v absent) t) n
    (λ v l. ap (λ (x : ℕ). eqb x t) (get_or-take n xs v absent l))

lines_taken : (xs : List ℕ) (n k t : ℕ) → lines_by (take n xs) n k t ≡ lines_by xs n k t
unfolding lines_by
lines_taken xs n zero t = refl
lines_taken xs n (suc k) t = λ i. line_text t (block_taken xs n t i) ++ lines_taken xs n k (t + 1) i

pub text_taken : (xs : List ℕ) (n k : ℕ) → n ≤ length xs → numbers_text (take n xs) (length (take n xs)) k ≡ numbers_text xs n k
text_taken xs n k h =
    ap (λ (m : ℕ). numbers_text (take n xs) m k) (length-take-le n xs h)
    ∙ ap (λ (l : List ℕ). count_text k ++ l) (lines_taken xs n k 0)

-- ---- the whole text

loaded_done : (x : Loaded) → x.answer ≡ Ok tt → loaded_text x ≡ blocks_text x.graph
loaded_done x e = ap (λ (a : Result ⊤ Refusal). loaded_text (record { answer = a; graph = x.graph })) e

loaded_refused : (x : Loaded) (r : Refusal) → x.answer ≡ Err r → loaded_text x ≡ refused_text r
loaded_refused x r e = ap (λ (a : Result ⊤ Refusal). loaded_text (record { answer = a; graph = x.graph })) e

-- a file whose schedule, in an array of 512 entries, has the answer r and the numbers `written`
module _ (rule : LoadingRule) (s : List ℕ) (bytes : (i : ℕ) → get_or s i 0 < 256) (buffer : List ℕ) (b : buffer ≡ replicate 512 65535)
    (r : Result ℕ Refusal) (written : List ℕ) (w : record { answer = r; buffer = written } ≡ schedule_by rule s buffer) where
  long : length buffer ≡ 512
  long = ap length b ∙ length-replicate {A = ℕ} 512 65535

  module _ (k : ℕ) (e : r ≡ Ok k) where
    -- it loads
    done : (load_by rule s).answer ≡ Ok tt
    done = go (load_by rule s).answer refl
      where
        go : (a : Result ⊤ Refusal) → (load_by rule s).answer ≡ a → a ≡ Ok tt
        go (Ok _) d = refl
        go (Err c) d =
            let t : r ≡ Err c = ap (λ (x : Walked). x.answer) (w ∙ sym (refuses rule s buffer (load_by rule s) refl c d)) in
            let z : ◌≡◌ {A = ℕ} 0 1 = cc in
            absurd (omega arith)

    g-sound : sound (load_by rule s).graph ≡ true
    g-sound = sound_loaded rule s bytes done

    nodes : size (load_by rule s).graph ≡ count_of s
    nodes = size_loaded rule s bytes done

    pub few_records : count_of s ≤ 512
    few_records = omega (arith, nodes, (sound-within (load_by rule s).graph g-sound).cap)

    room : size (load_by rule s).graph ≤ length buffer
    room = omega (arith, nodes, few_records, long)

    walked : record { answer = r; buffer = written } ≡ whole_walk (load_by rule s).graph buffer
    walked = w ∙ sym (walks rule s buffer (load_by rule s) refl done)

    count-is : k ≡ length (blocks (load_by rule s).graph)
    count-is = let a = walk_count (load_by rule s).graph g-sound buffer room r written walked in cc

    pub few_blocks : k ≤ count_of s
    few_blocks = omega (arith, count-is, walk_few (load_by rule s).graph g-sound buffer room, nodes)

    -- the text by its numbers is the file's
    pub scheduled_text : (n : ℕ) → n ≡ count_of s → numbers_text written n k ≡ file_text_by rule s
    scheduled_text n e = (λ i. count_text (count-is i) ++ lines_by (ap (λ (x : Walked). x.buffer) walked i) ((e ∙ sym nodes) i) (count-is i) 0)
        ∙ ap (λ (l : List ℕ). count_text (length (blocks (load_by rule s).graph)) ++ l) (blocks_lines (load_by rule s).graph g-sound buffer room)
        ∙ sym (loaded_done (load_by rule s) done)

  pub refusal_text : (c : Refusal) → NotScheduledBy rule s buffer c written → refused_text c ≡ file_text_by rule s
  refusal_text c n = ⊎_elim
      (λ (d : (load_by rule s).answer ≡ Err c). sym (loaded_refused (load_by rule s) c d))
      (λ (d : ((load_by rule s).answer ≡ Ok tt) × (c ≡ ShortBuffer) × (length buffer < count_of s)).
      let f = size_loaded rule s bytes d.0 in
      absurd (omega (arith, f, long, d.2, (sound-within (load_by rule s).graph (sound_loaded rule s bytes d.0)).cap)))
      n.cause
