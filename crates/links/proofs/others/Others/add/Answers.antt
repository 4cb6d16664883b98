use Rattle.std.proofs.Common.{◌≡◌, ◌∙◌, ap, ℕ, List, ◌<◌, ◌≤◌, length, take, arith}
use native.Mathlib.Decide.{dec_lt}
use Rattle.std.proofs.lemmas.List.{length-take-le}
use Rattle.file.specs.Lists.{add}
use Rattle.links.proofs.OtherLaws.{laid_ends, laid_new, laid_known}
use Rattle.links.proofs.others.Others.add.Goals as goal

room : (node view : List ℕ) (c : ℕ) → length node ≡ 64 → c ≤ 64 → take c node ≡ view → length view < 64 → c < 64
room node view c long low is short = omega (arith, short, ap length is, length-take-le c node (omega (arith, long, low)))

below : (i c : ℕ) → (i ≡ c → ⊥) → (c < i → ⊥) → i < c
below i c n m = elim (dec_lt i c) [
  | yes h ↦ h
  | no h ↦ elim (dec_lt c i) [
    | yes k ↦ absurd (m k)
    | no k ↦ absurd (n (omega arith))
  ]
]

pub returns-then-i-self : goal.returns-then-i-self
returns-then-i-self c =
    let x = c.self.inside in
    let r = room x.node c.args.self.now x.count c.self.told c.self.invariant c.self.view_is c.requires in
    laid_new x.node x.count c.args.s.0 c.self.told r (λ j h. c.loop-i.invariant j (omega (arith, h, c.if-i-self.true))) ∙ ap (add c.args.s.0) c.self.view_is

pub returns-else-i-self : goal.returns-else-i-self
returns-else-i-self c =
    let x = c.self.inside in
    let r = room x.node c.args.self.now x.count c.self.told c.self.invariant c.self.view_is c.requires in
    let past = laid_ends x.node x.count c.args.s.0 c.self.told r c.loop-i.i c.loop-i.invariant in
    let before : c.loop-i.i < x.count = below c.loop-i.i x.count c.if-i-self.false past in
    laid_known x.node x.count c.args.s.0 c.self.told r c.loop-i.i before c.if-u-s.true ∙ ap (add c.args.s.0) c.self.view_is

pub returns : goal.returns
returns c =
    let x = c.self.inside in
    let r = room x.node c.args.self.now x.count c.self.told c.self.invariant c.self.view_is c.requires in
    absurd (laid_ends x.node x.count c.args.s.0 c.self.told r c.loop-i.i c.loop-i.invariant (omega (arith, r, c.loop-i-test.false)))
