use Rattle.std.proofs.Common.{ℕ, nat_le, rules}
use Rattle.std.proofs.lemmas.List.Sorted.{IsPartitionPoint-from_clause, IsPartitionedBy-leb}
use Rattle.text_glyphs.specs.declared.tables.TheConstants.{BOUNDS}
use Rattle.text_glyphs.specs.Kinds.{bounds_up_to}
use Rattle.text_glyphs.proofs.KindLaws.{bounds_rise, point_is_prefix}
use Rattle.text_glyphs.proofs.kinds.bounds_up_to.Goals as goal

pub returns : goal.returns
unfolding bounds_up_to
returns c =
    point_is_prefix (λ (bound : ℕ). nat_le bound c.args.character) BOUNDS c.partition_point.result c.partition_point.ensures.bound
    (IsPartitionPoint-from_clause (λ (bound : ℕ). nat_le bound c.args.character) BOUNDS c.partition_point.result c.partition_point.ensures.partitioned
    (IsPartitionedBy-leb (λ (x : ℕ). x) BOUNDS c.args.character bounds_rise) (λ a r q k. search rules))
