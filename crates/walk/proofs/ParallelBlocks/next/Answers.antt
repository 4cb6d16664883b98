use Rattle.std.proofs.Common.{◌≡◌, refl, sym, ◌∙◌, rules, Bool, true, ◌||◌, ℕ, ltb}
use Rattle.std.proofs.lemmas.Result.{err_from_is_err_and}
use Rattle.file.specs.Lists.{any_of, all_of, members}
use Rattle.graph.specs.Dag.{size}
use Rattle.walk.proofs.NextLaws.{next_not_sound, next-absent, next-refused, next-ended, next-answered}
use Rattle.walk.proofs.ParallelBlocks.next.Goals as goal
use Rattle.walk.proofs.ParallelBlocks.next.Goals.{then-started, else-started}

pub returns-in_err-arcs : goal.returns-in_err-arcs
returns-in_err-arcs c =
    let p = err_from_is_err_and c.from_residual.result c.from_residual.ensures.1 in
    rw (p.1, p.2) (next_not_sound _ _ _ _ c.in_err-arcs.ensures.value)

pub returns-then-not-members_below : goal.returns-then-not-members_below
returns-then-not-members_below c =
    next-absent _ _ _ c.in_ok-arcs.ensures.value.0 (sym c.members_below.ensures ∙ c.if-not-members_below.true)

pub returns-in_err-k : goal.returns-in_err-k
returns-in_err-k c =
    let told = c.in_ok-arcs.ensures.value.0 in
    let below : all_of (λ (v : ℕ). ltb v (size c.args.g)) (members c.args.self.now.current) ≡ true = sym c.members_below.ensures ∙ c.if-not-members_below.false in
    let begun : let w = c.args.self.now in (c.has_member.result || c.has_member-2.result) ≡ (any_of (λ (b : Bool). b) w.current || any_of (λ (b : Bool). b) w.executed) = λ i. c.has_member.ensures i || c.has_member-2.ensures i in
    let p = err_from_is_err_and c.from_residual-in_err-k.result c.from_residual-in_err-k.ensures.1 in
    rw (p.1, p.2) (next-refused _ _ _ told below _ begun _ _ c.join_marks-all.ensures (search rules) (elim c.if-started.branch [
      | then-started w ↦ rw (w.found-is, w.if-started.true) w.free_block-found.ensures
      | else-started w ↦ rw (w.found-is, w.if-started.false) refl
    ]) _ _ c.answer_marked.ensures _ c.in_err-k.was)

pub returns-then-started-k : goal.returns-then-started-k
returns-then-started-k c =
    let told = c.in_ok-arcs.ensures.value.0 in
    let below : all_of (λ (v : ℕ). ltb v (size c.args.g)) (members c.args.self.now.current) ≡ true = sym c.members_below.ensures ∙ c.if-not-members_below.false in
    let begun : let w = c.args.self.now in (c.has_member.result || c.has_member-2.result) ≡ (any_of (λ (b : Bool). b) w.current || any_of (λ (b : Bool). b) w.executed) = λ i. c.has_member.ensures i || c.has_member-2.ensures i in
    next-ended _ _ _ told below _ begun _ _ c.join_marks-all.ensures (search rules) (elim c.if-started.branch [
      | then-started w ↦ rw (w.found-is, w.if-started.true) w.free_block-found.ensures
      | else-started w ↦ rw (w.found-is, w.if-started.false) refl
    ]) _ _ c.answer_marked.ensures _ c.in_ok-k.was c.if-started-k.true

pub returns-else-started-k : goal.returns-else-started-k
returns-else-started-k c =
    let told = c.in_ok-arcs.ensures.value.0 in
    let below : all_of (λ (v : ℕ). ltb v (size c.args.g)) (members c.args.self.now.current) ≡ true = sym c.members_below.ensures ∙ c.if-not-members_below.false in
    let begun : let w = c.args.self.now in (c.has_member.result || c.has_member-2.result) ≡ (any_of (λ (b : Bool). b) w.current || any_of (λ (b : Bool). b) w.executed) = λ i. c.has_member.ensures i || c.has_member-2.ensures i in
    next-answered _ _ _ told below _ begun _ _ c.join_marks-all.ensures (search rules) (elim c.if-started.branch [
      | then-started w ↦ rw (w.found-is, w.if-started.true) w.free_block-found.ensures
      | else-started w ↦ rw (w.found-is, w.if-started.false) refl
    ]) _ _ c.answer_marked.ensures _ c.in_ok-k.was c.if-started-k.false
