use Rattle.std.proofs.Common.{ℕ, leb, leb-false, rules}
use Rattle.std.proofs.lemmas.List.Sorted.{IsPartitionedBy-leb, IsPartitionPoint-from_clause}
use Rattle.queries.proofs.queries.leads_above.Goals as goal

pub returns : goal.returns
returns c =
    let p = IsPartitionPoint-from_clause (λ (x : ℕ). leb x c.args.v.0) _ _ c.partition_point.ensures.partitioned
    (IsPartitionedBy-leb (λ (x : ℕ). x) _ c.args.v.0 c.requires) (λ b r f' k. search rules) in
    record { within = c.partition_point.ensures.bound; above = λ i a b. leb-false _ _ (p.1 i 0 a b) }
