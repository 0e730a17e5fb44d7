use Rattle.std.proofs.Common.{List, ap, ◌∙◌}
use Rattle.std.specs.Option.{option_map}
use Rattle.git_objects.specs.declared.tree_entry.TreeEntry.{TreeEntry}
use Rattle.git_objects.specs.Parts.{entries_of}
use Rattle.file_maps.specs.ByComponent.{what}
use Rattle.tree_build.specs.Standing.{row_named}
use Rattle.tree_build.proofs.reading.row_at.Goals as goal

pub read_entries-requires : goal.read_entries-requires
read_entries-requires g c = (c.requires.tree.tree.direct, c.requires.tree.tree.tree)

pub returns : goal.returns
returns g c = record {
  rows = entries_of c.in_ok-rows.rows.items;
  tree = c.in_ok-rows.ensures;
  row =
      c.row_named.ensures
      ∙ ap (λ (l : List TreeEntry). option_map what (row_named (entries_of l) c.args.name.now))
      c.deref.ensures.value;
}
