use Rattle.std.proofs.Common.{◌+◌, ◌*◌, take}
use Rattle.std.specs.List.{AllByRecursion}
use Rattle.git_objects.specs.Parts.{entries_of}
use Rattle.git_paths.specs.Paths.{IsPath}
use Rattle.tenant_tables.specs.Objects.{objects}
use Rattle.plain_files.proofs.Gathering.{GathersSome, weight}
use Rattle.file_maps.proofs.Standing.{position_of}
use Rattle.plain_files.proofs.grafted.+gathering.Given as goal

abbrev pub decreases-gather : goal.decreases-gather
decreases-gather g l = 2 * position_of l.id.now l.table.now.entries + 2

abbrev pub decreases-gather_entry : goal.decreases-gather_entry
decreases-gather_entry g l =
    weight l.entry.now.mode (position_of l.entry.now.id l.table.now.entries)

abbrev pub invariant-gather-loop-entry : goal.invariant-gather-loop-entry
invariant-gather-loop-entry g l = record {
  gathered : GathersSome (objects l.pool l.table.entries) l.top (entries_of (take l.entry-index l.entry-items)) l.fn.files.items l.files.items;
  paths : AllByRecursion (λ f. IsPath f.0) l.files.items;
}
