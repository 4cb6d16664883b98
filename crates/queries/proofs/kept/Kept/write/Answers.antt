use Rattle.std.proofs.Common.{Fits, w64, ◌*◌, ◌≡◌, ◌-◌, ◌&&◌, ℕ, false, not, get_or, length, arith, rules}
use Rattle.std.proofs.lemmas.Iterator.{YieldsList-from_range}
use Rattle.std.proofs.lemmas.Iterator.Consumers.{YieldsList-at, YieldsList-from_filter, YieldsList-from_enumerate, YieldsList-turn, YieldsList-end}
use Rattle.queries.specs.Marks.{kept}
use Rattle.queries.proofs.BufferLaws.{kept_filtered, Comes, filled-none, filled_all, filled_room, filled_member, filled_one}
use Rattle.queries.proofs.ReachLaws.{kept_told}
use Rattle.queries.proofs.kept.Kept.write.Goals as goal

pub loop-k-init : goal.loop-k-init
loop-k-init c = filled-none (kept c.args.self.now.mark.now c.args.self.now.skip.now c.args.self.now.n) _

turn : (c : goal.In-Some) → Comes (kept c.args.self.now.mark.now c.args.self.now.skip.now c.args.self.now.n) c.args.buffer.now c.loop-k.yielded c.in-Some.k c.in-Some.u
turn c =
    let a = c.args.self.now in
    let test = λ (u : ℕ). get_or a.mark.now u false && not (get_or a.skip.now u false) in
    let f = c.filter.ensures in
    let e = c.enumerate-k-items.ensures in
    let n : a.n - 0 ≡ a.n = omega arith in
    rw (kept_filtered a.mark.now a.skip.now a.n) at (YieldsList-turn (YieldsList-at c.into_iter-k-iterator.ensures.into_iter_gives
    (YieldsList-from_enumerate (YieldsList-at e.source (YieldsList-from_filter _ test (YieldsList-from_range 0 a.n a.n f.source n) f.closure (λ x b q k. search rules))) e.count))
    c.loop-k.yielded _ c.loop-k.yielded_by _ _ (c.in-Some.k, c.in-Some.u) c.in-Some.is c.next.ensures.steps)

pub overflow_cast-buffer : goal.overflow_cast-buffer
overflow_cast-buffer c = omega (arith, c.args.self.now.few, (kept_told _ c.args.self.now.n c.in-Some.u (filled_member _ c.args.buffer.now _ _ _ (turn c))).0)

pub offset_bounds-buffer-k : goal.offset_bounds-buffer-k
offset_bounds-buffer-k c =
    let fits : Fits w64 (length c.args.buffer.now * 2) = search rules in
    omega (arith, filled_room _ c.args.buffer.now _ _ _ (turn c), c.requires, fits)

pub bounds-buffer-k : goal.bounds-buffer-k
bounds-buffer-k c = omega (arith, filled_room _ c.args.buffer.now _ _ _ (turn c), c.requires, c.loop-k.auto.buffer)

pub loop-k-preserved : goal.loop-k-preserved
loop-k-preserved c = filled_one _ _ _ _ _ (turn c) c.requires _ c.loop-k.invariant

pub returns : goal.returns
returns c =
    let a = c.args.self.now in
    let test = λ (u : ℕ). get_or a.mark.now u false && not (get_or a.skip.now u false) in
    let f = c.filter.ensures in
    let e = c.enumerate-k-items.ensures in
    let n : a.n - 0 ≡ a.n = omega arith in
    filled_all _ _ _ _ c.loop-k.invariant (rw (kept_filtered a.mark.now a.skip.now a.n) at (YieldsList-end (YieldsList-at c.into_iter-k-iterator.ensures.into_iter_gives
    (YieldsList-from_enumerate (YieldsList-at e.source (YieldsList-from_filter _ test (YieldsList-from_range 0 a.n a.n f.source n) f.closure (λ x b q k. search rules))) e.count))
    c.loop-k.yielded _ c.loop-k.yielded_by _ _ c.in-None.is c.next.ensures.steps).1)
