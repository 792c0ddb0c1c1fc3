use Rattle.std.proofs.Common.{ℕ, nat_lt, rules}
use Rattle.std.proofs.lemmas.List.Sorted.{IsPartitionPoint-from_clause, IsPartitionedBy-ltb}
use Rattle.pdf_runs.proofs.MarkLaws.{point_is_prefix}
use Rattle.pdf_runs.proofs.shaped.place_in.Goals as goal

pub returns : goal.returns
returns c =
    point_is_prefix (λ (s : ℕ). nat_lt s c.args.number) c.args.starts.now c.partition_point.result c.partition_point.ensures.bound
    (IsPartitionPoint-from_clause (λ (s : ℕ). nat_lt s c.args.number) c.args.starts.now c.partition_point.result c.partition_point.ensures.partitioned
    (IsPartitionedBy-ltb (λ (x : ℕ). x) c.args.starts.now c.args.number c.requires) (λ a r q k. search rules))
