use Rattle.std.proofs.Common.{rules}
use Rattle.std.proofs.lemmas.List.Sorted.{IsPartitionPoint-from_clause}
use Rattle.name_index.specs.Index.{is_before}
use Rattle.name_index.proofs.Searched.{before_parted}
use Rattle.name_index.proofs.run.from.Goals as goal

pub returns-clause-point : goal.returns-clause-point
returns-clause-point c =
    IsPartitionPoint-from_clause (is_before c.args.first.now) _ _ c.partition_point.ensures.partitioned
    (before_parted c.args.names.now c.args.first.now c.requires) (λ a r q k. search rules)
