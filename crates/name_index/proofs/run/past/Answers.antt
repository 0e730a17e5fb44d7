use Rattle.std.proofs.Common.{rules}
use Rattle.std.proofs.lemmas.List.Sorted.{IsPartitionPoint-from_clause}
use Rattle.name_index.specs.Index.{is_up_to}
use Rattle.name_index.proofs.Searched.{up_to_parted}
use Rattle.name_index.proofs.run.past.Goals as goal

pub returns-clause-point : goal.returns-clause-point
returns-clause-point c =
    IsPartitionPoint-from_clause (is_up_to c.args.last.now) _ _ c.partition_point.ensures.partitioned
    (up_to_parted c.args.names.now c.args.last.now c.requires) (λ a r q k. search rules)
