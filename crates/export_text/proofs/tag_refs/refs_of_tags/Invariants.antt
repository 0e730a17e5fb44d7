use Rattle.std.proofs.Common.{◌≡◌, map, take}
use Rattle.std.specs.List.{filter}
use Rattle.git_model.specs.GoodRepository.{AreObjects}
use Rattle.git_model.specs.RefStore.{RefStore}
use Rattle.git_model.specs.Reach.{is_referred_to}
use Rattle.export_text.specs.Marking.{reached_flags}
use Rattle.export_text.specs.Reached.{is_tag, ref_of_tag}
use Rattle.export_text.proofs.tag_refs.refs_of_tags.Given as goal

abbrev pub invariant-loop-place : goal.invariant-loop-place
invariant-loop-place g l = (refs : RefStore) → AreObjects g.N.Naming.digest_of l.objects
    → l.reached ≡ reached_flags (record { objects = l.objects; refs = refs })
    → l.names.items ≡ map ref_of_tag (filter is_tag
    (filter (λ o. is_referred_to (record { objects = l.objects; refs = refs }) o.id) (take l.place l.objects)))
