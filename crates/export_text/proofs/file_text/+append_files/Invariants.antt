use Rattle.std.proofs.Common.{◌≡◌, ◌++◌, ◌-◌, length, take}
use Rattle.git_model.specs.GoodRepository.{AreObjects}
use Rattle.git_objects.specs.Parts.{entries_of}
use Rattle.export_text.specs.Lines.{AreTold}
use Rattle.export_text.proofs.Listing.{lines_from}
use Rattle.export_text.proofs.file_text.+append_files.Given as goal

abbrev pub decreases-append_files : goal.decreases-append_files
decreases-append_files g l = l.levels

abbrev pub invariant-loop-entry : goal.invariant-loop-entry
invariant-loop-entry g l = record {
  prefix : l.prefix.items ≡ l.initial.prefix.items;
  kept : take (length l.initial.out.items) l.out.items ≡ l.initial.out.items;
  written : AreObjects g.N.Naming.digest_of l.objects → AreTold l.objects l.initial.out.items l.initial.told
      → l.out.items ≡ l.initial.out.items ++ lines_from l.objects (l.levels - 1) l.initial.prefix.items
      (entries_of (take l.entry-index l.entry-items));
  in_mind : AreObjects g.N.Naming.digest_of l.objects → AreTold l.objects l.initial.out.items l.initial.told
      → AreTold l.objects l.out.items l.told;
}
