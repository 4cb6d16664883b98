use Rattle.std.proofs.Common.{◌≡◌, ◌∙◌, true, map, rules, tests, subst, sym, ap}
use mathlib.Core.List.{map-id}
use Rattle.std.specs.Bool.{MatchBool, ⊤}
use Rattle.std.specs.List.{IsAllAdjacentAnswer}
use Rattle.std.proofs.lemmas.Iterator.{YieldsList-from_range, YieldsList-from_map}
use Rattle.file.specs.Lists.{up_to}
use Rattle.graph.specs.Checks.{key_in}
use Rattle.graph.proofs.ListLaws.{ranged, run_gave}
use Rattle.graph.proofs.CheckLaws.{key_before, keys_rise}
use Rattle.graph.proofs.soundness.Entries.keys_ascend.Goals as goal

pub returns : goal.returns
returns c q =
    let r = c.args.self.now.map.now in
    let run = c.is_sorted_by.ensures.runs in
    let whole : run.0.whole ≡ true = subst (λ b. MatchBool b (run.0.whole ≡ true) ⊤) q run.2.0 in
    let keys : run.0.items ≡ map (key_in r) (up_to r.count) =
    sym (map-id run.0.items)
    ∙ run_gave run.0 run.1 whole (YieldsList-from_map _ (key_in r) (YieldsList-from_range 0 r.count r.count c.map.ensures.source (search rules)) c.map.ensures.closure (λ x b f k. search (rules, tests)))
    ∙ ap (map (key_in r)) (sym (ranged r.count 0)) in
    let up = subst (IsAllAdjacentAnswer (λ x y b. key_before x y ≡ b) run.0.items) q (run.2.1 key_before (λ x y b f k. search (rules, tests))).0 in
    keys_rise r (rw (← keys) up)
