use Rattle.std.proofs.Common.{◌≡◌, ◌++◌, take}
use Rattle.std.specs.List.{filter, flat_map}
use Rattle.export_text.specs.ItemText.{items_text}
use Rattle.export_text.specs.Reached.{is_missing}
use Rattle.export_text.specs.Export.{removal_items}
use Rattle.export_text.proofs.ref_text.append_removals.Given as goal

abbrev pub invariant-loop-ref_name : goal.invariant-loop-ref_name
invariant-loop-ref_name l =
    l.out.items ≡ l.initial.out.items
    ++ items_text (flat_map removal_items (filter (is_missing l.refs) (take l.ref_name-index l.ref_names)))
