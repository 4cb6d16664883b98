use Rattle.std.proofs.Common.{ℕ, List, ◌+◌, subst, ap, length, length-append, sym, ◌∙◌, arith}
use Rattle.report.proofs.LineLaws.{Listing, lists-none, lists_room, lists_one, lists_skip, lists_all}
use Rattle.report.proofs.writer.Writer.write_nodes.Goals as goal
use Rattle.report.proofs.writer.Writer.write_nodes.Goals.{then-from-t, else-from-t}

pub loop-v-init : goal.loop-v-init
loop-v-init c = lists-none _ _ _ c.requires

pub push-requires : goal.push-requires
push-requires c =
    let room = lists_room _ _ _ _ _ c.loop-v.invariant c.loop-v-test.true (sym c.from.ensures ∙ c.if-from-t.true) in
    omega (arith, room)

pub write_number-requires : goal.write_number-requires
write_number-requires c =
    let room = lists_room _ _ _ _ _ c.loop-v.invariant c.loop-v-test.true (sym c.from.ensures ∙ c.if-from-t.true) in
    omega (arith, room, ap length c.push.ensures, length-append {A = ℕ})

pub loop-v-preserved : goal.loop-v-preserved
loop-v-preserved c =
    let more = Listing c.args.numbers.now c.args.t c.args.self.now in
    elim c.if-from-t.branch [
      | then-from-t w ↦ subst (λ (s : List ℕ). more s (c.loop-v.v + 1)) (sym w.self-is)
          (lists_one _ _ _ _ _ c.loop-v.invariant c.loop-v-test.true (sym c.from.ensures ∙ w.if-from-t.true) _ _ w.push.ensures w.write_number.ensures)
      | else-from-t w ↦ subst (λ (s : List ℕ). more s (c.loop-v.v + 1)) (sym w.self-is)
          (lists_skip _ _ _ _ _ c.loop-v.invariant c.loop-v-test.true (λ e. w.if-from-t.false (c.from.ensures ∙ e)))
    ]

pub returns : goal.returns
returns c = lists_all _ _ _ _ _ c.loop-v.invariant c.loop-v-test.false
