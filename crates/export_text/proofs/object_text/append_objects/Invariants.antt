use Rattle.std.proofs.Common.{◌≡◌, ◌++◌, length, take}
use Rattle.std.specs.List.{filter, flat_map}
use Rattle.git_model.specs.GoodRepository.{AreObjects}
use Rattle.git_model.specs.RefStore.{RefStore}
use Rattle.git_model.specs.Reach.{is_referred_to}
use Rattle.export_text.specs.ItemText.{items_text}
use Rattle.export_text.specs.Lines.{AreTold}
use Rattle.export_text.specs.Marking.{reached_flags}
use Rattle.export_text.specs.ExportItems.{items_of_object}
use Rattle.export_text.proofs.object_text.append_objects.Given as goal

abbrev pub invariant-loop-place : goal.invariant-loop-place
invariant-loop-place g l = record {
  kept : take (length l.initial.out.items) l.out.items ≡ l.initial.out.items;
  written : (refs : RefStore) → AreObjects g.N.Naming.digest_of l.objects
      → l.reached ≡ reached_flags (record { objects = l.objects; refs = refs })
      → l.out.items ≡ l.initial.out.items ++ items_text (flat_map (items_of_object l.objects)
      (filter (λ o. is_referred_to (record { objects = l.objects; refs = refs }) o.id) (take l.place l.objects)));
  in_mind : AreObjects g.N.Naming.digest_of l.objects → AreTold l.objects l.out.items l.told;
}
