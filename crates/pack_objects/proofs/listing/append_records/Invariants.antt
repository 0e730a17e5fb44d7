use Rattle.std.proofs.Common.{◌≡◌, ◌++◌, take}
use Rattle.pack_objects.specs.Listing.{listing_text}
use Rattle.pack_objects.proofs.listing.append_records.Given as goal

abbrev pub invariant-loop-object : goal.invariant-loop-object
invariant-loop-object l = l.out.items ≡ l.fn.out.items ++ listing_text (take l.object-index l.objects)
