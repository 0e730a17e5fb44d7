-- What each tag leaves of refs at a checkpoint.
use Rattle.std.proofs.Common.{◌≡◌, ℕ, ◌+◌, ◌<◌, get_or, ◌++◌, ◌∷◌, List, [], length, take, Some, sym, ap, ◌∙◌}
use Rattle.std.proofs.lemmas.List.Sums.{fold-append, fold_more}
use Rattle.git_model.specs.RefStore.{RefStore, with_ref}
use Rattle.tenant_refs.specs.declared.changes.RefChange.{RefChange}
use Rattle.tenant_refs.specs.Changes.{with_changes, with_target}
use Rattle.stream_parts.specs.Tags.{PendingTags}
use Rattle.stream_parts.specs.Checkpoints.{by_tags}

-- a tag is saved after those before it
pub tag_next : (store : RefStore) (before old new : List RefChange) (tags : PendingTags)
    (place : ℕ) (tag : List ℕ × List ℕ)
    → new ≡ old ++ record { ref_name = tag.0; target = Some tag.1 } ∷ []
    → place < length tags → tag ≡ get_or tags place tag
    → with_changes store old ≡ by_tags (with_changes store before) (take place tags)
    → with_changes store new ≡ by_tags (with_changes store before) (take (place + 1) tags)
tag_next store before old new tags place tag added within is so =
    let saved = with_changes store before in
    ap (with_changes store) added
    ∙ fold-append (λ changed change. with_target changed change.ref_name change.target) store old
    (record { ref_name = tag.0; target = Some tag.1 } ∷ [])
    ∙ ap (λ (s : RefStore). with_ref s tag.0 tag.1) so
    ∙ ap (λ (t : List ℕ × List ℕ). with_ref (by_tags saved (take place tags)) t.0 t.1) is
    ∙ sym (fold_more (λ saved tag. with_ref saved tag.0 tag.1) saved tags place tag within)
