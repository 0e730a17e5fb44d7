use Rattle.std.proofs.Common.{◌≡◌, ◌≤◌, length, take}
use Rattle.std.specs.List.{filter}
use Rattle.git_model.specs.RefStore.{RefStore}
use Rattle.git_model.specs.Reach.{is_referred_to}
use Rattle.export_text.specs.Marking.{reached_flags}
use Rattle.export_text.specs.Reached.{is_tag}
use Rattle.repository_copies.proofs.limits.count_tags.Given as goal

abbrev pub invariant-loop-place : goal.invariant-loop-place
invariant-loop-place g l = record {
  few : l.tags ≤ l.place;
  counted : (refs : RefStore) → l.reached ≡ reached_flags (record { objects = l.objects; refs = refs })
      → l.tags ≡ length (filter is_tag
      (filter (λ o. is_referred_to (record { objects = l.objects; refs = refs }) o.id) (take l.place l.objects)));
}
