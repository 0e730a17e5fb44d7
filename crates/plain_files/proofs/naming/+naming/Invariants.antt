use Rattle.std.proofs.Common.{◌≡◌, ◌+◌, ◌*◌, map, take}
use Rattle.git_objects.specs.Parts.{entries_of}
use Rattle.plain_files.specs.Below.{groups_of}
use Rattle.file_maps.specs.Below.{direct_of}
use Rattle.plain_files.proofs.naming.+naming.Given as goal

abbrev pub decreases-id_of : goal.decreases-id_of
decreases-id_of g l = 4 * l.deep + 1

abbrev pub decreases-tree_id : goal.decreases-tree_id
decreases-tree_id g l = 4 * l.deep

abbrev pub decreases-tree_of_groups : goal.decreases-tree_of_groups
decreases-tree_of_groups g l = 4 * l.deep + 3

abbrev pub decreases-push_entries : goal.decreases-push_entries
decreases-push_entries g l = 4 * l.deep + 2

abbrev pub invariant-push_entries-loop-group : goal.invariant-push_entries-loop-group
invariant-push_entries-loop-group g l =
    entries_of l.entries.items ≡ map (direct_of g.N.Naming.digest_of l.deep) (groups_of (take l.group-index l.groups))
