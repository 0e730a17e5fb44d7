use Rattle.std.proofs.Common.{◌≡◌, ◌++◌, map, take, codes}
use Rattle.export_text.specs.ItemText.{items_text}
use Rattle.export_text.specs.ExportItems.{marked}
use Rattle.export_text.proofs.commit_text.append_merges.Given as goal

abbrev pub invariant-loop-parent : goal.invariant-loop-parent
invariant-loop-parent g l =
    l.out.items ≡ l.initial.out.items
    ++ items_text (map (marked l.objects (codes "merge ")) (take l.parent-index l.parents))
