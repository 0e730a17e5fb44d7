use Rattle.std.proofs.Common.{◌≡◌, ◌+◌, ◌-◌, ◌*◌, map, take, None}
use Rattle.std.specs.List.{AllByRecursion, flat_map}
use Rattle.git_model.specs.ObjectName.{IsObjectName}
use Rattle.git_objects.specs.Parts.{entries_of}
use Rattle.tenant_tables.specs.Objects.{objects}
use Rattle.plain_files.specs.Below.{groups_of}
use Rattle.file_maps.specs.Below.{group_trees}
use Rattle.plain_files.specs.Storable.{IsKnownGroup}
use Rattle.file_maps.specs.Storing.{AddsTrees, trees_fault}
use Rattle.file_maps.proofs.Nested.{direct_of}
use Rattle.plain_files.proofs.storing.+storing.Given as goal

abbrev pub decreases-store_group : goal.decreases-store_group
decreases-store_group g l = 3 * l.deep + 2

abbrev pub decreases-store_trees : goal.decreases-store_trees
decreases-store_trees g l = 3 * l.deep + 1

abbrev pub decreases-store_groups : goal.decreases-store_groups
decreases-store_groups g l = 3 * l.deep

abbrev pub invariant-store_groups-loop-group : goal.invariant-store_groups-loop-group
invariant-store_groups-loop-group g l = record {
  entries : entries_of l.entries.items ≡ map (direct_of g.N.Naming.digest_of (l.deep - 1)) (groups_of (take l.group-index l.groups));
  ids : AllByRecursion (λ e. IsObjectName e.id) (entries_of l.entries.items);
  adds : AddsTrees g.N.Naming.digest_of l.fn.pool l.fn.table l.pool l.table (flat_map (group_trees g.N.Naming.digest_of (l.deep - 1)) (groups_of (take l.group-index l.groups)));
  unrefused : trees_fault g.N.Naming.digest_of (flat_map (group_trees g.N.Naming.digest_of (l.deep - 1)) (groups_of (take l.group-index l.groups))) (objects l.fn.pool l.fn.table.entries) ≡ None;
  known : AllByRecursion (IsKnownGroup g.N.Naming.digest_of (l.deep - 1) l.table.entries) (groups_of (take l.group-index l.groups));
}
