use Rattle.std.proofs.Common.{◌≡◌, ◌++◌, length, take}
use Rattle.std.specs.List.{flat_map}
use Rattle.git_model.specs.GoodRepository.{AreObjects}
use Rattle.git_model.specs.RefStore.{listed_refs}
use Rattle.export_text.specs.ItemText.{items_text}
use Rattle.export_text.specs.Export.{items_of_ref}
use Rattle.export_text.proofs.ref_text.append_refs.Given as goal

abbrev pub invariant-loop-position : goal.invariant-loop-position
invariant-loop-position g l =
    (take (length l.initial.out.items) l.out.items ≡ l.initial.out.items)
    × (AreObjects g.N.Naming.digest_of l.objects → l.out.items ≡ l.initial.out.items
    ++ items_text (flat_map (items_of_ref l.objects) (take l.position (listed_refs l.refs))))
