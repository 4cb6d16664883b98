use Rattle.std.proofs.Common.{◌≡◌, ◌∙◌, ltb, arith, rules}
use Rattle.std.proofs.lemmas.List.{length-take}
use Rattle.file.specs.Lists.{all_of}
use Rattle.graph.specs.Dag.{Entry, entries_of}
use Rattle.graph.proofs.CheckLaws.{entries_below}
use Rattle.graph.proofs.soundness.Entries.fit.Goals as goal

pub returns-then-keys_ascend : goal.returns-then-keys_ascend
returns-then-keys_ascend c =
    let r = c.args.self.now.map.now in
    let e : c.all_below.result ≡ all_of (λ (x : Entry). ltb x.node c.args.n) (entries_of r) = c.all_below.ensures ∙ entries_below r c.args.n (omega (arith, length-take r.count r.node)) in
    search rules

pub returns-else-keys_ascend : goal.returns-else-keys_ascend
returns-else-keys_ascend c =
    let r = c.args.self.now.map.now in
    let e : c.all_below.result ≡ all_of (λ (x : Entry). ltb x.node c.args.n) (entries_of r) = c.all_below.ensures ∙ entries_below r c.args.n (omega (arith, length-take r.count r.node)) in
    search rules

pub returns-else-all_below : goal.returns-else-all_below
returns-else-all_below c =
    let r = c.args.self.now.map.now in
    let e : c.all_below.result ≡ all_of (λ (x : Entry). ltb x.node c.args.n) (entries_of r) = c.all_below.ensures ∙ entries_below r c.args.n (omega (arith, length-take r.count r.node)) in
    search rules
