use Rattle.std.proofs.Common.{sym, ap, ◌∙◌}
use Rattle.std.proofs.lemmas.List.{drop_all}
use Rattle.std.specs.Option.{option_map}
use Rattle.git_objects.specs.Parts.{entries_of}
use Rattle.std.specs.Prelude.{List}
use Rattle.git_objects.specs.declared.tree_entry.TreeEntry as declared
use Rattle.file_maps.specs.ByComponent.{what}
use Rattle.tree_build.specs.Standing.{row_named}
use Rattle.tree_build.proofs.reading.row_named.Goals as goal

pub returns : goal.returns
returns c =
    ap (option_map what)
    (sym (ap (λ (l : List declared.TreeEntry). row_named (entries_of l) c.args.name.now)
    (drop_all c.loop-row.row-index c.args.rows.now c.loop-row-test.false))
    ∙ c.loop-row.invariant)
