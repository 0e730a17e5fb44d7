use Rattle.std.proofs.Common.{List, refl, ap, ◌∙◌}
use Rattle.git_objects.specs.declared.tree_entry.TreeEntry.{TreeEntry}
use Rattle.git_objects.specs.Parts.{entries_of}
use Rattle.tree_build.specs.Nodes.{shape_of}
use Rattle.tree_build.specs.Opened.{tree_shape}
use Rattle.tree_build.proofs.Opened.{opens}
use Rattle.tree_build.proofs.opening.open.Goals as goal

pub read_entries-requires : goal.read_entries-requires
read_entries-requires g c = (c.requires.tree.tree.direct, c.requires.tree.tree.tree)

pub returns : goal.returns
returns g c =
    opens g.N.Naming.digest_of c.args.objects.now c.are_backed.ensures c.args.id.now
    (entries_of c.in_ok-entries.entries.items) c.in_ok-entries.ensures c.requires.tree.plain
    (shape_of c.in_ok-rows_of.field-0.items)
    (c.in_ok-rows_of.ensures
    ∙ ap (λ (es : List TreeEntry). tree_shape (entries_of es)) c.deref.ensures.value)
    _ refl refl
